-- The loan lemma: a track that was lent is still lent, and is the same, or was dropped by the first discard that followed.
use Rattle.std.proofs.Common.{◌≡◌, ◌≢◌, ℕ, ◌-◌, Bool, true, false, List, [], ◌∷◌, ◌++◌, Option, Some, None, length, refl, sym, ap, ap₂, ◌∙◌, subst, eqb-true}
use Rattle.speculation.specs.declared.tracks.Name.{Name}
use Rattle.speculation.specs.declared.tracks.OpenLoan.{OpenLoan}
use Rattle.speculation.specs.declared.history.Settings.{Settings}
use Rattle.speculation.specs.declared.history.Entry.{Entry}
use Rattle.speculation.specs.declared.history.Entry.TheVariants.{Lend, Back, Gone, Fork, Cross, Keep, Discard, Release, Finish, Halt}
use Rattle.speculation.specs.Machine.{Machine}
use Rattle.speculation.specs.Run.{Mark}
use Rattle.speculation.specs.Verdicts.{Verdict, Kept, Differs, Stopped, Late, is_kept}
use Rattle.speculation.specs.Core.{Core, opening, name_eq, lead_name, normal_name, at_home, find_loan, find_track, front_home, verified}
use Rattle.speculation.specs.Due.{Judgement, Due, Finishing, Crossing, Judging, Forking, due}
use Rattle.speculation.specs.Effects.{drop_loan, drop_loans, dropped_by, kept_core, dropped_core, judged_core, effect}
use Rattle.speculation.specs.Events.{end_loan, gone_live, released_by, released_core, is_row_entry, is_entry_of, event, core_run}
use Rattle.speculation.specs.Law.{Exact, IsHistory}
use Rattle.speculation.specs.Loans.{loans_by, loans_after, seat_of, owner_of, IsForeign}
use Rattle.speculation_law.specs.Naming.{Named, Sound}
use Rattle.speculation_law.specs.Fates.{first_discard, dropped_since, TrackStays}
use Rattle.speculation_law.proofs.Names.{find_track-found, name_eq-true, is_lent-found}
use Rattle.speculation_law.proofs.Dues.{IsJudged, due-crossing, due-judging, due-forking, verdict_due-some, cross_test-true, fork_test-true}
use Rattle.speculation_law.proofs.Happens.{Happens, Lends, Returns, Vanishes, Releases, Halts, Does, lent_core, back_core, event-happens}
use Rattle.speculation_law.proofs.FindLoan.{find_loan-append, find_loan-other, find_loan-drop}
use Rattle.speculation_law.proofs.LiveTracks.{find_track-back, home-apart, find_track-crossed, find_track-forked, find_track-kept, find_track-released}
use Rattle.speculation_law.proofs.Naming.{front-home_at}
use Rattle.speculation_law.proofs.Soundness.{sound-event}

module _ {S E D : Type 0} (m : Machine S E D) (b : Settings) where
  -- The loans are told by the entries alone

  loans-released : (c : Core S E D) (home : Bool) (limit : ℕ) (bytes : List Mark) → (released_by home limit c bytes).loans ≡ c.loans
  loans-released c true limit bytes = refl
  loans-released c false limit bytes = refl

  loans-gone : (c : Core S E D) (n : Name) (o : Option ℕ) → (gone_live c n o).loans ≡ end_loan n c.loans
  loans-gone c n (Some row) = refl
  loans-gone c n None = refl

  loans-judged : (c : Core S E D) (v : Judgement S D) (w : Verdict D) (x : Entry) → is_row_entry (length c.rows) x (is_kept w) ≡ true → (judged_core m b c v w).loans ≡ loans_by c.loans x
  loans-judged c v Kept (Keep row) h = refl
  loans-judged c v Kept _ h = absurd (cc)
  loans-judged c v (Differs d) (Discard row) h = ap (λ k. drop_loans k c.loans) (sym (eqb-true row (length c.rows) h))
  loans-judged c v (Differs d) _ h = absurd (cc)
  loans-judged c v Stopped (Discard row) h = ap (λ k. drop_loans k c.loans) (sym (eqb-true row (length c.rows) h))
  loans-judged c v Stopped _ h = absurd (cc)
  loans-judged c v Late (Discard row) h = ap (λ k. drop_loans k c.loans) (sym (eqb-true row (length c.rows) h))
  loans-judged c v Late _ h = absurd (cc)

  loans-due : (c : Core S E D) (d : Due S E D) (x : Entry) → is_entry_of c d x ≡ true → (effect m b c d).loans ≡ loans_by c.loans x
  loans-due c (Finishing f) Finish h = refl
  loans-due c (Finishing f) _ h = absurd (cc)
  loans-due c Crossing (Cross n) h = refl
  loans-due c Crossing _ h = absurd (cc)
  loans-due c (Judging v) x h = loans-judged c v v.judged.verdict x h
  loans-due c Forking (Fork n) h = refl
  loans-due c Forking _ h = absurd (cc)

  loans-happens : (c new : Core S E D) (x : Entry) → Happens m b c new x → new.loans ≡ loans_by c.loans x
  loans-happens c new x (Lends seat n t entry can is) = sym (ap (λ (k : Core S E D). k.loans) is) ∙ ap (loans_by c.loans) (sym entry)
  loans-happens c new x (Returns n count l t entry live loan undropped found counted is) = sym (ap (λ (k : Core S E D). k.loans) is) ∙ ap (loans_by c.loans) (sym entry)
  loans-happens c new x (Vanishes n l entry loan is) = sym (ap (λ (k : Core S E D). k.loans) is) ∙ loans-gone c n l.dropped ∙ ap (loans_by c.loans) (sym entry)
  loans-happens c new x (Releases count entry some counted is) =
      sym (ap (λ (k : Core S E D). k.loans) is) ∙ loans-released c (front_home c) (b.budget - c.base) (verified b c) ∙ ap (loans_by c.loans) (sym entry)
  loans-happens c new x (Halts seat entry live is) = sym (ap (λ (k : Core S E D). k.loans) is) ∙ ap (loans_by c.loans) (sym entry)
  loans-happens c new x (Does d due_is entry is) = sym (ap (λ (k : Core S E D). k.loans) is) ∙ loans-due c d x entry

  -- one entry
  pub event-loans : (c new : Core S E D) (x : Entry) → event m b c x ≡ Some new → new.loans ≡ loans_by c.loans x
  event-loans c new x h = loans-happens c new x (event-happens m b c new x h)

  -- all entries
  pub run-loans : (xs : List Entry) (o : Option (Core S E D)) (c new : Core S E D) → o ≡ Some c → core_run m b o xs ≡ Some new → new.loans ≡ loans_after c.loans xs
  unfolding core_run
  run-loans [] o c new is h = ap (λ (k : Core S E D). k.loans) (let same : new ≡ c = cc in same)
  run-loans (x ∷ xs) None c new is h = absurd (cc)
  run-loans (x ∷ xs) (Some k) c new is h = run-loans-more x xs k c new (cc) (event m b k x) refl h (λ mid here. run-loans xs (event m b k x) mid new here h)
    where
      run-loans-more : (x : Entry) (xs : List Entry) (k c new : Core S E D) → k ≡ c → (o : Option (Core S E D)) → event m b k x ≡ o → core_run m b (event m b k x) xs ≡ Some new
          → ((mid : Core S E D) → event m b k x ≡ Some mid → new.loans ≡ loans_after mid.loans xs) → new.loans ≡ loans_after (loans_by c.loans x) xs
      run-loans-more x [] k c new same None is h rest = absurd (let none : core_run m b (event m b k x) [] ≡ None = is in cc)
      run-loans-more x (y ∷ ys) k c new same None is h rest = absurd (let none : core_run m b (event m b k x) (y ∷ ys) ≡ None = ap (λ o. core_run m b o (y ∷ ys)) is in cc)
      run-loans-more x xs k c new same (Some mid) is h rest =
          rest mid is ∙ ap (λ ls. loans_after ls xs) (event-loans k mid x is ∙ ap (λ (q : Core S E D). loans_by q.loans x) same)

  -- One entry of another seat

  pub record Stays (n : Name) (l : OpenLoan) (x : Entry) (c new : Core S E D) : Type 0 where
    pub loan : OpenLoan
    pub found : find_loan n new.loans ≡ Some loan
    pub same_seat : loan.seat ≡ l.seat
    pub fate : loan.dropped ≡ dropped_since l.dropped (x ∷ [])
    pub track : loan.dropped ≡ None → find_track new n ≡ find_track c n

  quiet-since : (x : Entry) → first_discard (x ∷ []) ≡ None → (o : Option ℕ) → o ≡ dropped_since o (x ∷ [])
  quiet-since x h None = sym h
  quiet-since x h (Some row) = refl

  -- an entry that drops nothing and leaves the loan
  stays-same : (n : Name) (l : OpenLoan) (x : Entry) (c new : Core S E D) → find_loan n new.loans ≡ Some l → first_discard (x ∷ []) ≡ None → (l.dropped ≡ None → find_track new n ≡ find_track c n) → Stays n l x c new
  stays-same n l x c new found quiet track = record { loan = l; found = found; same_seat = refl; fate = quiet-since x quiet l.dropped; track = track }

  other-by : (c : Core S E D) (before : List Entry) (n k : Name) (l : OpenLoan) (t : Bool) → name_eq k n ≡ t → find_loan n c.loans ≡ Some l → c.loans ≡ loans_after [] before
      → seat_of (find_loan k (loans_after [] before)) ≢ Some l.seat → t ≡ false
  other-by c before n k l true is found told foreign =
      absurd (let same : k ≡ n = name_eq-true k n is in
      let here : find_loan k (loans_after [] before) ≡ Some l = ap₂ (λ (x : Name) (ls : List OpenLoan). find_loan x ls) same (sym told) ∙ found in
      foreign (ap seat_of here))
  other-by c before n k l false is found told foreign = refl

  -- a loan that another seat's entry ends has another name
  other-name : (c : Core S E D) (before : List Entry) (n k : Name) (l : OpenLoan) → find_loan n c.loans ≡ Some l → c.loans ≡ loans_after [] before
      → seat_of (find_loan k (loans_after [] before)) ≢ Some l.seat → name_eq k n ≡ false
  other-name c before n k l found told foreign = other-by c before n k l (name_eq k n) refl found told foreign

  track-gone : (c : Core S E D) (n k : Name) (o : Option ℕ) → find_track (gone_live c k o) n ≡ find_track c n
  track-gone c n k (Some row) = refl
  track-gone c n k None = refl

  fate-by : (k row : ℕ) (o : Option ℕ) → row ≡ k → dropped_by k o ≡ dropped_since o (Discard row ∷ [])
  fate-by k row None same = ap Some (sym same)
  fate-by k row (Some old) same = refl

  never-undropped : (k : ℕ) (o : Option ℕ) → dropped_by k o ≡ None → ⊥
  never-undropped k None h = cc
  never-undropped k (Some old) h = cc

  stays-discarded : (c : Core S E D) (v : Judgement S D) (n : Name) (l : OpenLoan) (row : ℕ) → row ≡ length c.rows → find_loan n c.loans ≡ Some l → Stays n l (Discard row) c (dropped_core m c v)
  stays-discarded c v n l row is found = record {
    loan = drop_loan (length c.rows) l;
    found = find_loan-drop n (length c.rows) c.loans l found;
    same_seat = refl;
    fate = fate-by (length c.rows) row l.dropped is;
    track = λ undropped. absurd (never-undropped (length c.rows) l.dropped undropped);
  }

  stays-judged : (c : Core S E D) (v : Judgement S D) (w : Verdict D) (n : Name) (l : OpenLoan) (x : Entry) → is_row_entry (length c.rows) x (is_kept w) ≡ true → IsJudged m c c.regions v
      → find_loan n c.loans ≡ Some l → Stays n l x c (judged_core m b c v w)
  stays-judged c v Kept n l (Keep row) entry j found = stays-same n l (Keep row) c (kept_core m b c v) found refl
      (λ undropped. (let home : at_home c (normal_name c v.region) ≡ true = front-home_at m b c v.region v.younger j.open_regions j.home in
      find_track-kept m b c n v.region v.younger (home-apart m b c n (normal_name c v.region) (is_lent-found n l c.loans found undropped) home)
      ∙ ap (λ rs. find_track (record c { regions = rs }) n) (sym j.open_regions)))
  stays-judged c v Kept n l _ entry j found = absurd (cc)
  stays-judged c v (Differs d) n l (Discard row) entry j found = stays-discarded c v n l row (eqb-true row (length c.rows) entry) found
  stays-judged c v (Differs d) n l _ entry j found = absurd (cc)
  stays-judged c v Stopped n l (Discard row) entry j found = stays-discarded c v n l row (eqb-true row (length c.rows) entry) found
  stays-judged c v Stopped n l _ entry j found = absurd (cc)
  stays-judged c v Late n l (Discard row) entry j found = stays-discarded c v n l row (eqb-true row (length c.rows) entry) found
  stays-judged c v Late n l _ entry j found = absurd (cc)

  stays-due : (c : Core S E D) (d : Due S E D) (n : Name) (l : OpenLoan) (x : Entry) → Named c → due m b c ≡ Some d → is_entry_of c d x ≡ true → find_loan n c.loans ≡ Some l → Stays n l x c (effect m b c d)
  stays-due c (Finishing f) n l Finish h is entry found = stays-same n l Finish c (record c { finish = Some f }) found refl (λ undropped. refl)
  stays-due c (Finishing f) n l _ h is entry found = absurd (cc)
  stays-due c Crossing n l (Cross k) h is entry found = stays-same n l (Cross k) c (effect m b c Crossing) found refl
      (λ undropped. find_track-crossed m b c n (home-apart m b c n (lead_name c) (is_lent-found n l c.loans found undropped) (cross_test-true m c (due-crossing m b c is).crosses).home))
  stays-due c Crossing n l _ h is entry found = absurd (cc)
  stays-due c (Judging v) n l x h is entry found = stays-judged c v v.judged.verdict n l x entry (verdict_due-some m c c.regions v (due-judging m b c v is).judged) found
  stays-due c Forking n l (Fork k) h is entry found = stays-same n l (Fork k) c (effect m b c Forking) found refl
      (λ undropped. (let live = h.live n l found undropped in
      find_track-forked m b c n live.0 h.rising (find_track-found c n live.0 live.1)
      (home-apart m b c n (lead_name c) (is_lent-found n l c.loans found undropped) (fork_test-true m b c (due-forking m b c is).forks).home)))
  stays-due c Forking n l _ h is entry found = absurd (cc)

  stays-at : (n : Name) (l : OpenLoan) (x y : Entry) (c k new : Core S E D) → y ≡ x → k ≡ new → Stays n l y c k → Stays n l x c new
  stays-at n l x y c k new p q h = subst (λ (z : Core S E D). Stays n l x c z) q (subst (λ (z : Entry). Stays n l z c k) p h)

  stays-happens : (c new : Core S E D) (x : Entry) (n : Name) (l : OpenLoan) (before : List Entry) → Named c → c.loans ≡ loans_after [] before → find_loan n c.loans ≡ Some l
      → owner_of before x ≢ Some l.seat → Happens m b c new x → Stays n l x c new
  stays-happens c new x n l before h told found foreign (Lends seat k t entry can is) =
      stays-at n l x (Lend seat k) c (lent_core c seat k) new (sym entry) is
      (stays-same n l (Lend seat k) c (lent_core c seat k) (find_loan-append n c.loans (record { seat = seat; name = k; dropped = None }) l found) refl (λ undropped. refl))
  stays-happens c new x n l before h told found foreign (Returns k count l2 t entry live loan undropped tracked counted is) =
      let apart : name_eq k n ≡ false = other-name c before n k l found told (λ same. foreign (ap (owner_of before) entry ∙ same)) in
      stays-at n l x (Back k count) c (back_core m b c k) new (sym entry) is
      (stays-same n l (Back k count) c (back_core m b c k) (find_loan-other n k c.loans apart ∙ found) refl (λ none. find_track-back m b c n k t (find_track-found c k t tracked) apart))
  stays-happens c new x n l before h told found foreign (Vanishes k l2 entry loan is) =
      let apart : name_eq k n ≡ false = other-name c before n k l found told (λ same. foreign (ap (owner_of before) entry ∙ same)) in
      stays-at n l x (Gone k) c (gone_live c k l2.dropped) new (sym entry) is
      (stays-same n l (Gone k) c (gone_live c k l2.dropped) (ap (find_loan n) (loans-gone c k l2.dropped) ∙ find_loan-other n k c.loans apart ∙ found) refl (λ none. track-gone c n k l2.dropped))
  stays-happens c new x n l before h told found foreign (Releases count entry some counted is) =
      stays-at n l x (Release count) c (released_core b c) new (sym entry) is
      (stays-same n l (Release count) c (released_core b c) (ap (find_loan n) (loans-released c (front_home c) (b.budget - c.base) (verified b c)) ∙ found) refl
      (λ undropped. find_track-released m b c n (front_home c) (b.budget - c.base) (verified b c) refl (is_lent-found n l c.loans found undropped)))
  stays-happens c new x n l before h told found foreign (Halts seat entry live is) =
      stays-at n l x (Halt seat) c (record c { halted = true }) new (sym entry) is (stays-same n l (Halt seat) c (record c { halted = true }) found refl (λ undropped. refl))
  stays-happens c new x n l before h told found foreign (Does d due_is entry is) =
      stays-at n l x x c (effect m b c d) new refl is (stays-due c d n l x h due_is entry found)

  -- Many entries

  since-cons : (x : Entry) (xs : List Entry) (o : Option ℕ) → dropped_since (dropped_since o (x ∷ [])) xs ≡ dropped_since o (x ∷ xs)
  since-cons x xs (Some row) = refl
  since-cons (Discard row) xs None = refl
  since-cons (Lend seat n) xs None = refl
  since-cons (Back n count) xs None = refl
  since-cons (Gone n) xs None = refl
  since-cons (Fork n) xs None = refl
  since-cons (Cross n) xs None = refl
  since-cons (Keep row) xs None = refl
  since-cons (Release bytes) xs None = refl
  since-cons Finish xs None = refl
  since-cons (Halt seat) xs None = refl

  since-none : (o : Option ℕ) (xs : List Entry) → dropped_since o xs ≡ None → o ≡ None
  since-none None xs h = refl
  since-none (Some row) xs h = absurd (cc)

  stays-none : (n : Name) (l : OpenLoan) (c : Core S E D) → find_loan n c.loans ≡ Some l → TrackStays n l [] c c
  stays-none n l c found = record { stays = record { loan = l; found = found; same_seat = refl; fate = quiet l.dropped }; track = λ undropped. refl }
    where
      quiet : (o : Option ℕ) → o ≡ dropped_since o []
      quiet None = refl
      quiet (Some row) = refl

  stays-then : (n : Name) (l : OpenLoan) (x : Entry) (xs : List Entry) (c mid new : Core S E D) (h : Stays n l x c mid) → TrackStays n h.loan xs mid new → TrackStays n l (x ∷ xs) c new
  stays-then n l x xs c mid new h rest =
      let fate : rest.stays.loan.dropped ≡ dropped_since l.dropped (x ∷ xs) = rest.stays.fate ∙ ap (λ o. dropped_since o xs) h.fate ∙ since-cons x xs l.dropped in
      record {
        stays = record { loan = rest.stays.loan; found = rest.stays.found; same_seat = rest.stays.same_seat ∙ h.same_seat; fate = fate };
        track = λ undropped. rest.track undropped ∙ h.track (since-none h.loan.dropped xs (sym rest.stays.fate ∙ undropped));
      }

  loans-snoc : (ls : List OpenLoan) (before : List Entry) (x : Entry) → loans_after ls (before ++ (x ∷ [])) ≡ loans_by (loans_after ls before) x
  loans-snoc ls [] x = refl
  loans-snoc ls (y ∷ before) x = loans-snoc (loans_by ls y) before x

  module _ (start : S) (exact : Exact m start) where
    later-by : (x : Entry) (xs : List Entry) (c new : Core S E D) (n : Name) (l : OpenLoan) (seat : ℕ) (before : List Entry) (o : Option (Core S E D)) → event m b c x ≡ o → Sound m b start c
        → c.loans ≡ loans_after [] before → find_loan n c.loans ≡ Some l → l.seat ≡ seat → IsForeign seat before (x ∷ xs) → core_run m b o xs ≡ Some new
        → ((mid : Core S E D) (l2 : OpenLoan) → o ≡ Some mid → Sound m b start mid → mid.loans ≡ loans_after [] (before ++ (x ∷ [])) → find_loan n mid.loans ≡ Some l2 → l2.seat ≡ seat → TrackStays n l2 xs mid new)
        → TrackStays n l (x ∷ xs) c new
    unfolding core_run
    later-by x [] c new n l seat before None is sound told found own foreign h rest = absurd (cc)
    later-by x (y ∷ ys) c new n l seat before None is sound told found own foreign h rest = absurd (cc)
    later-by x xs c new n l seat before (Some mid) is sound told found own foreign h rest =
        let here = stays-happens c mid x n l before sound.named told found (λ same. foreign.0 (same ∙ ap Some own)) (event-happens m b c mid x is) in
        let told_mid : mid.loans ≡ loans_after [] (before ++ (x ∷ [])) = event-loans c mid x is ∙ ap (λ ls. loans_by ls x) told ∙ sym (loans-snoc [] before x) in
        stays-then n l x xs c mid new here (rest mid here.loan refl (sound-event m b start c mid x exact sound is) told_mid here.found (here.same_seat ∙ own))

    -- the loan lemma
    pub later-run : (rest : List Entry) (o : Option (Core S E D)) (c new : Core S E D) (n : Name) (l : OpenLoan) (seat : ℕ) (before : List Entry) → o ≡ Some c → Sound m b start c
        → c.loans ≡ loans_after [] before → find_loan n c.loans ≡ Some l → l.seat ≡ seat → IsForeign seat before rest → core_run m b o rest ≡ Some new → TrackStays n l rest c new
    unfolding core_run
    later-run [] o c new n l seat before is sound told found own foreign h =
        let same : c ≡ new = cc in subst (λ (k : Core S E D). TrackStays n l [] c k) same (stays-none n l c found)
    later-run (x ∷ xs) None c new n l seat before is sound told found own foreign h = absurd (cc)
    later-run (x ∷ xs) (Some k) c new n l seat before is sound told found own foreign h =
        let same : c ≡ k = cc in
        let here : event m b c x ≡ event m b k x = ap (λ (q : Core S E D). event m b q x) same in
        later-by x xs c new n l seat before (event m b k x) here sound told found own foreign h
        (λ mid l2 at sound2 told2 found2 own2. later-run xs (event m b k x) mid new n l2 seat (before ++ (x ∷ [])) at sound2 told2 found2 own2 foreign.1 h)

    -- of every legal history that goes on
    pub loan-later : (before rest : List Entry) (c new : Core S E D) (n : Name) (l : OpenLoan) → Sound m b start c → IsHistory m b start before c → core_run m b (Some c) rest ≡ Some new
        → find_loan n c.loans ≡ Some l → IsForeign l.seat before rest → TrackStays n l rest c new
    loan-later before rest c new n l sound history h found foreign =
        later-run rest (Some c) c new n l l.seat before refl sound (run-loans before (Some (opening start)) (opening start) c refl history) found refl foreign h
