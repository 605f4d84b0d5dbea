-- Live tracks and loans have different names, and each loan names what it should.
use Rattle.std.proofs.Common.{◌≡◌, ℕ, suc, ◌-◌, ◌<◌, Bool, true, false, List, [], ◌∷◌, ◌++◌, Option, Some, None, length, refl, sym, ap, ◌∙◌, subst, length-append, arith}
use Rattle.speculation.specs.declared.tracks.Name.{Name}
use Rattle.speculation.specs.declared.tracks.OpenLoan.{OpenLoan}
use Rattle.speculation.specs.declared.history.Settings.{Settings}
use Rattle.speculation.specs.declared.history.Entry.{Entry}
use Rattle.speculation.specs.Machine.{Machine}
use Rattle.speculation.specs.Run.{Mark}
use Rattle.speculation.specs.Verdicts.{Verdict, Kept, Differs, Stopped, Late}
use Rattle.speculation.specs.Ledger.{Row}
use Rattle.speculation.specs.Core.{Core, Track, Region, opening, name_eq, lead_name, normal_name, is_lent, at_home, lead_home, find_loan, find_track, front_name, front_home, track_point, verified}
use Rattle.speculation.specs.Due.{Judgement, Due, Finishing, Crossing, Judging, Forking, due}
use Rattle.speculation.specs.Effects.{row_of, dropped_by, crossed_core, forked_core, kept_core, dropped_core, judged_core, effect}
use Rattle.speculation.specs.Events.{end_loan, gone_live, released_by}
use Rattle.speculation_law.specs.Naming.{Rising, Distinct, IsLive, Named}
use Rattle.speculation_law.proofs.Names.{FoundTrack, Original, Lead, find_track-found, name_eq-true, is_lent-found, home-lent}
use Rattle.speculation_law.proofs.Dues.{IsJudged, due-crossing, due-judging, due-forking, verdict_due-some, cross_test-true, fork_test-true}
use Rattle.speculation_law.proofs.Lending.{Lendable}
use Rattle.speculation_law.proofs.Happens.{Happens, Lends, Returns, Vanishes, Releases, Halts, Does, lent_core, back_core}
use Rattle.speculation_law.proofs.FindLoan.{FoundAppended, Older, Newest, find_loan-appended, find_loan-ended, find_loan-before, find_loan-was, Distinct-append, Distinct-end, Distinct-drop}
use Rattle.speculation_law.proofs.LiveTracks.{rising-lower, rising-crossed, rising-forked, rising-released, rising-back, find_track-back, home-apart, find_track-crossed, find_track-forked, find_track-kept, find_track-released}

module _ {S E D : Type 0} where
  found-generation : (c : Core S E D) (n : Name) (t : Track S) → FoundTrack c n t → n.generation ≡ c.generation
  found-generation c n t (Original generation normal found) = generation
  found-generation c n t (Lead normal named lead) = ap (λ (x : Name). x.generation) named

  -- a live track's name is of the present generation
  pub live-generation : (c : Core S E D) (n : Name) → IsLive c n → n.generation ≡ c.generation
  live-generation c n live = found-generation c n live.0 (find_track-found c n live.0 live.1)

  free-by : (c : Core S E D) (n : Name) (o : Option OpenLoan) (d : Option ℕ) (l : OpenLoan) → Named c → IsLive c n → is_lent n c.loans ≡ false → find_loan n c.loans ≡ Some l → l.dropped ≡ d → ⊥
  free-by c n o None l named live home found is = (let lent : is_lent n c.loans ≡ true = is_lent-found n l c.loans found is in cc)
  free-by c n o (Some row) l named live home found is =
      let old = named.dropped n l row found is in let now = live-generation c n live in absurd (omega (arith, old.0))

  free-at : (c : Core S E D) (n : Name) (o : Option OpenLoan) → find_loan n c.loans ≡ o → Named c → IsLive c n → is_lent n c.loans ≡ false → find_loan n c.loans ≡ None
  free-at c n None is named live home = is
  free-at c n (Some l) is named live home = absurd (free-by c n None l.dropped l named live home is refl)

  -- a live track that isn't lent has no loan of its name
  pub find_loan-home : (c : Core S E D) (n : Name) → Named c → IsLive c n → is_lent n c.loans ≡ false → find_loan n c.loans ≡ None
  find_loan-home c n named live home = free-at c n (find_loan n c.loans) refl named live home

module _ {S E D : Type 0} (m : Machine S E D) (b : Settings) where
  named-lent : (c : Core S E D) (seat : ℕ) (n : Name) (t : Track S) → Named c → Lendable m b c n t → Named (lent_core c seat n)
  named-lent c seat n t h can = record {
    rising = h.rising;
    distinct = Distinct-append c.loans (record { seat = seat; name = n; dropped = None }) h.distinct (find_loan-home c n h (t, can.found) (home-lent c n can.home));
    live = λ k l found undropped. live-by k l undropped (find_loan-appended k c.loans (record { seat = seat; name = n; dropped = None }) l found);
    dropped = λ k l row found is. dropped-at k l row is (find_loan-appended k c.loans (record { seat = seat; name = n; dropped = None }) l found);
  }
    where
      live-by : (k : Name) (l : OpenLoan) → l.dropped ≡ None → FoundAppended k c.loans (record { seat = seat; name = n; dropped = None }) l → IsLive c k
      live-by k l undropped (Older found) = h.live k l found undropped
      live-by k l undropped (Newest none name same) = (t, ap (λ (x : Name). find_track c x) name ∙ can.found)

      dropped-at : (k : Name) (l : OpenLoan) (row : ℕ) → l.dropped ≡ Some row → FoundAppended k c.loans (record { seat = seat; name = n; dropped = None }) l → (k.generation < c.generation) × (row < length c.rows)
      dropped-at k l row is (Older found) = h.dropped k l row found is
      dropped-at k l row is (Newest none name same) = absurd (let not : None ≡ Some row = ap (λ (x : OpenLoan). x.dropped) same ∙ is in cc)

  ended-apart : (k n : Name) (ls : List OpenLoan) (l : OpenLoan) (t : Bool) → name_eq n k ≡ t → Distinct ls → find_loan k (end_loan n ls) ≡ Some l → t ≡ false
  ended-apart k n ls l true is d found = absurd (let same : n ≡ k = name_eq-true n k is in let none : find_loan k (end_loan n ls) ≡ None = ap (λ (x : Name). find_loan k (end_loan x ls)) same ∙ find_loan-ended k ls d in cc)
  ended-apart k n ls l false is d found = refl

  named-back : (c : Core S E D) (n : Name) (t : Track S) → Named c → find_track c n ≡ Some t → Named (back_core m b c n)
  named-back c n t h found = record {
    rising = rising-back m b 0 c.last n.region n.normal c.regions h.rising;
    distinct = Distinct-end n c.loans h.distinct;
    live = λ k l at undropped. (let live = h.live k l (find_loan-before k n l c.loans h.distinct at) undropped in
        (live.0, find_track-back m b c k n t (find_track-found c n t found) (ended-apart k n c.loans l (name_eq n k) refl h.distinct at) ∙ live.1));
    dropped = λ k l row at is. h.dropped k l row (find_loan-before k n l c.loans h.distinct at) is;
  }

  named-gone : (c : Core S E D) (n : Name) (o : Option ℕ) → Named c → Named (gone_live c n o)
  named-gone c n (Some row) h = record {
    rising = h.rising;
    distinct = Distinct-end n c.loans h.distinct;
    live = λ k l at undropped. h.live k l (find_loan-before k n l c.loans h.distinct at) undropped;
    dropped = λ k l row at is. h.dropped k l row (find_loan-before k n l c.loans h.distinct at) is;
  }
  named-gone c n None h = record {
    rising = h.rising;
    distinct = Distinct-end n c.loans h.distinct;
    live = λ k l at undropped. h.live k l (find_loan-before k n l c.loans h.distinct at) undropped;
    dropped = λ k l row at is. h.dropped k l row (find_loan-before k n l c.loans h.distinct at) is;
  }

  named-released_by : (c : Core S E D) (home : Bool) (limit : ℕ) (bytes : List Mark) → front_home c ≡ home → Named c → Named (released_by home limit c bytes)
  named-released_by c true limit bytes is h = record {
    rising = rising-released 0 c.last limit c.regions h.rising;
    distinct = h.distinct;
    live = λ k l at undropped. (let live = h.live k l at undropped in
        (live.0, find_track-released m b c k true limit bytes is (is_lent-found k l c.loans at undropped) ∙ live.1));
    dropped = h.dropped;
  }
  named-released_by c false limit bytes is h = record { rising = h.rising; distinct = h.distinct; live = h.live; dropped = h.dropped }

  named-crossed : (c : Core S E D) → Named c → lead_home c ≡ true → Named (crossed_core m c)
  named-crossed c h home = record {
    rising = rising-crossed 0 c.last c.regions c.lead.own (track_point m c.lead).state h.rising;
    distinct = h.distinct;
    live = λ k l at undropped. (let live = h.live k l at undropped in
        (live.0, find_track-crossed m b c k (home-apart m b c k (lead_name c) (is_lent-found k l c.loans at undropped) home) ∙ live.1));
    dropped = h.dropped;
  }

  named-forked : (c : Core S E D) → Named c → lead_home c ≡ true → Named (forked_core m c)
  named-forked c h home = record {
    rising = rising-forked 0 c.last c.regions (record { steps = c.lead.own; pieces = c.lead.held }) (track_point m c.lead).state h.rising;
    distinct = h.distinct;
    live = λ k l at undropped. (let live = h.live k l at undropped in
        (live.0, find_track-forked m b c k live.0 h.rising (find_track-found c k live.0 live.1) (home-apart m b c k (lead_name c) (is_lent-found k l c.loans at undropped) home) ∙ live.1));
    dropped = h.dropped;
  }

  rows-more : (rows : List (Row D)) (r : Row D) (row : ℕ) → row < length rows → row < length (rows ++ (r ∷ []))
  rows-more rows r row h = (let l = length-append rows (r ∷ []) in omega arith)

  pub front-home_at : (c : Core S E D) (r : Region S) (rs : List (Region S)) → c.regions ≡ r ∷ rs → front_home c ≡ true → at_home c (normal_name c r) ≡ true
  front-home_at c r rs is home = sym (ap (λ xs. at_home c (front_name c xs)) is) ∙ home

  -- the oldest region's judgement
  named-kept : (c : Core S E D) (v : Judgement S D) → Named c → IsJudged m c c.regions v → Named (kept_core m b c v)
  named-kept c v h j = record {
    rising = (let rising : Rising 0 c.last (v.region ∷ v.younger) = subst (λ rs. Rising 0 c.last rs) j.open_regions h.rising in rising-lower v.region.number 0 c.last v.younger (omega arith) rising.1);
    distinct = h.distinct;
    live = λ k l at undropped. (let live = h.live k l at undropped in
        let home : at_home c (normal_name c v.region) ≡ true = front-home_at c v.region v.younger j.open_regions j.home in
        let same : find_track (record c { regions = v.region ∷ v.younger }) k ≡ find_track c k = ap (λ rs. find_track (record c { regions = rs }) k) (sym j.open_regions) in
        (live.0, find_track-kept m b c k v.region v.younger (home-apart m b c k (normal_name c v.region) (is_lent-found k l c.loans at undropped) home) ∙ same ∙ live.1));
    dropped = λ k l row at is. (let old = h.dropped k l row at is in (old.0, rows-more c.rows (row_of m c v.region v.judged) row old.1));
  }

  drop-none : (row : ℕ) (o : Option ℕ) → dropped_by row o ≡ None → ⊥
  drop-none row None h = cc
  drop-none row (Some k) h = cc

  named-discarded : (c : Core S E D) (v : Judgement S D) → Named c → Named (dropped_core m c v)
  named-discarded c v h = record {
    rising = omega arith;
    distinct = Distinct-drop (length c.rows) c.loans h.distinct;
    live = λ k l at undropped. (let was = find_loan-was k (length c.rows) c.loans l at in
        absurd (drop-none (length c.rows) was.loan.dropped (ap (λ (x : OpenLoan). x.dropped) was.is ∙ undropped)));
    dropped = λ k l row at is. (let was = find_loan-was k (length c.rows) c.loans l at in
        dropped-now k row was.loan was.loan.dropped was.found refl (ap (λ (x : OpenLoan). x.dropped) was.is ∙ is));
  }
    where
      dropped-now : (k : Name) (row : ℕ) (loan : OpenLoan) (o : Option ℕ) → find_loan k c.loans ≡ Some loan → loan.dropped ≡ o → dropped_by (length c.rows) o ≡ Some row
          → (k.generation < suc c.generation) × (row < length (c.rows ++ (row_of m c v.region v.judged ∷ [])))
      dropped-now k row loan None at is h2 =
          let now = live-generation c k (h.live k loan at is) in let same : length c.rows ≡ row = cc in let l = length-append c.rows (row_of m c v.region v.judged ∷ []) in
          (omega arith, omega arith)
      dropped-now k row loan (Some old) at is h2 =
          let same : old ≡ row = cc in let before = h.dropped k loan old at is in let l = length-append c.rows (row_of m c v.region v.judged ∷ []) in
          (omega (arith, before.0), omega (arith, before.1))

  named-judged : (c : Core S E D) (v : Judgement S D) (w : Verdict D) → Named c → IsJudged m c c.regions v → Named (judged_core m b c v w)
  named-judged c v Kept h j = named-kept c v h j
  named-judged c v (Differs d) h j = named-discarded c v h
  named-judged c v Stopped h j = named-discarded c v h
  named-judged c v Late h j = named-discarded c v h

  pub named-due : (c : Core S E D) (d : Due S E D) → Named c → due m b c ≡ Some d → Named (effect m b c d)
  named-due c (Finishing f) h is = record { rising = h.rising; distinct = h.distinct; live = h.live; dropped = h.dropped }
  named-due c Crossing h is = named-crossed c h (cross_test-true m c (due-crossing m b c is).crosses).home
  named-due c (Judging v) h is = named-judged c v v.judged.verdict h (verdict_due-some m c c.regions v (due-judging m b c v is).judged)
  named-due c Forking h is = named-forked c h (fork_test-true m b c (due-forking m b c is).forks).home

  pub named-happens : (c new : Core S E D) (x : Entry) → Named c → Happens m b c new x → Named new
  named-happens c new x h (Lends seat n t entry can is) = subst (λ (k : Core S E D). Named k) is (named-lent c seat n t h can)
  named-happens c new x h (Returns n count l t entry live loan undropped found counted is) = subst (λ (k : Core S E D). Named k) is (named-back c n t h found)
  named-happens c new x h (Vanishes n l entry loan is) = subst (λ (k : Core S E D). Named k) is (named-gone c n l.dropped h)
  named-happens c new x h (Releases count entry some counted is) = subst (λ (k : Core S E D). Named k) is (named-released_by c (front_home c) (b.budget - c.base) (verified b c) refl h)
  named-happens c new x h (Halts seat entry live is) = subst (λ (k : Core S E D). Named k) is (record { rising = h.rising; distinct = h.distinct; live = h.live; dropped = h.dropped })
  named-happens c new x h (Does d due_is entry is) = subst (λ (k : Core S E D). Named k) is (named-due c d h due_is)

  -- the opening core
  pub named-opening : (start : S) → Named {S = S} {E = E} {D = D} (opening start)
  named-opening start = record { rising = omega arith; distinct = tt; live = λ n l found undropped. absurd (cc); dropped = λ n l row found is. absurd (cc) }
