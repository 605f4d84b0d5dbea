-- Lend, Back, Gone, Release and Halt keep what holds of the core.
use Rattle.std.proofs.Common.{◌≡◌, ℕ, ◌-◌, ◌≤◌, Bool, true, false, not, ◌&&◌, ◌||◌, if◌then◌else◌, List, [], ◌∷◌, ◌++◌, Option, Some, None, is_some, is_none, nat_eq, nat_lt, refl, sym, ap, ap₂, ◌∙◌, subst, append-nil, arith}
use Rattle.std.proofs.lemmas.Bool.{and_parts, or_parts, not-true}
use Rattle.speculation.specs.declared.tracks.Kind.{Kind}
use Rattle.speculation.specs.declared.tracks.Kind.TheVariants.{Fast}
use Rattle.speculation.specs.declared.tracks.Name.{Name}
use Rattle.speculation.specs.declared.tracks.OpenLoan.{OpenLoan}
use Rattle.speculation.specs.declared.history.Settings.{Settings}
use Rattle.speculation.specs.Machine.{Machine}
use Rattle.speculation.specs.Run.{Mark, marks_upto, fresh, go}
use Rattle.speculation.specs.Core.{Core, Track, Region, Finished, over, name_eq, lead_name, is_lent, is_named, at_home, find_loan, find_track, front, front_of, front_name, front_home, verified, has_stop, is_kind, held_size, most_held}
use Rattle.speculation.specs.Events.{run_on, slice, wanted, is_ready, lendable, back_normals, back_regions, back_lead, end_loan, gone_live, left_over, released_regions, released_lead, released_by, released_core}
use Rattle.speculation_law.specs.Facts.{NoStop, Chain}
use Rattle.speculation_law.specs.Sound.{count_lent, Final, Good}
use Rattle.speculation_law.proofs.Options.{is_some-none}
use Rattle.speculation_law.proofs.Names.{FoundTrack, Original, Lead, find_track-found, name_eq-true, lend-once, count_lent-end_loan, is_lent-end_loan, is_lent-before, is_lent-back, is_lent-found, home-lent}
use Rattle.speculation_law.proofs.Pieces.{marks_upto-left_over}
use Rattle.speculation_law.proofs.Running.{has_stop-false, new-normal, new-segment}
use Rattle.speculation_law.proofs.Chains.{chain-back, chain-released}
use Rattle.speculation_law.proofs.Fronts.{Shows, shows-good, shows-run, shows-released, shows-poured}

-- a core that isn't over has no finish
pub unfinished : {S E D : Type 0} (c : Core S E D) → over c ≡ false → (f : Finished E) → c.finish ≡ Some f → ⊥
unfinished c live f is = (let none = is_some-none c.finish (or_parts (is_some c.finish) c.halted live).0 in cc)

module _ {S E D : Type 0} (m : Machine S E D) (b : Settings) where
  -- what it says that a track may be lent
  pub record Lendable (c : Core S E D) (n : Name) (t : Track S) : Type 0 where
    pub live : over c ≡ false
    pub found : find_track c n ≡ Some t
    pub home : at_home c n ≡ true
    pub unstopped : has_stop m b t ≡ false
    pub few : nat_lt (held_size t.held) most_held ≡ true
    pub useful : (if is_kind t.kind Fast then wanted m c c.regions else true) ≡ true

  -- some track is
  pub record SomeLendable (c : Core S E D) (n : Name) : Type 0 where
    pub track : Track S
    pub is : Lendable c n track

  lendable-by : (c : Core S E D) (n : Name) (o : Option (Track S)) → over c ≡ false → find_track c n ≡ o → is_ready m b c n o ≡ true → SomeLendable c n
  lendable-by c n None live found h = absurd (cc)
  lendable-by c n (Some t) live found h =
      let first = and_parts (at_home c n) (not (has_stop m b t) && (nat_lt (held_size t.held) most_held && (if is_kind t.kind Fast then wanted m c c.regions else true))) h in
      let second = and_parts (not (has_stop m b t)) (nat_lt (held_size t.held) most_held && (if is_kind t.kind Fast then wanted m c c.regions else true)) first.1 in
      let third = and_parts (nat_lt (held_size t.held) most_held) (if is_kind t.kind Fast then wanted m c c.regions else true) second.1 in
      record { track = t; is = record { live = live; found = found; home = first.0; unstopped = not-true (has_stop m b t) second.0; few = third.0; useful = third.1 } }

  pub lendable-true : (c : Core S E D) (n : Name) → lendable m b c n ≡ true → SomeLendable c n
  lendable-true c n h =
      let both = and_parts (not (over c)) (is_ready m b c n (find_track c n)) h in
      lendable-by c n (find_track c n) (not-true (over c) both.0) refl both.1

  -- Lend

  lead-lent : (c : Core S E D) (n : Name) (t : Track S) → FoundTrack c n t → n ≡ lead_name c → c.lead ≡ t
  lead-lent c n t (Original present normal found) is = absurd (let lead : n.normal ≡ false = ap (λ (x : Name). x.normal) is in cc)
  lead-lent c n t (Lead normal named lead) is = lead

  lent-new : (x n : Name) (seat : ℕ) (ls : List OpenLoan) (t : Bool) → name_eq x n ≡ t → is_lent x (ls ++ (record { seat = seat; name = n; dropped = None } ∷ [])) ≡ true → t ≡ false → is_lent x ls ≡ true
  lent-new x n seat [] true is h not = absurd (cc)
  lent-new x n seat [] false is h not = absurd (let none : is_lent x (record { seat = seat; name = n; dropped = None } ∷ []) ≡ false = ap (λ t. if t && true then true else false) is in cc)
  lent-new x n seat (l ∷ ls) t is h not = lent-more (name_eq x l.name && is_none l.dropped) h (λ more. lent-new x n seat ls t is more not)
    where
      lent-more : (u : Bool) → (if u then true else is_lent x (ls ++ (record { seat = seat; name = n; dropped = None } ∷ []))) ≡ true
          → (is_lent x (ls ++ (record { seat = seat; name = n; dropped = None } ∷ [])) ≡ true → is_lent x ls ≡ true) → (if u then true else is_lent x ls) ≡ true
      lent-more true h f = refl
      lent-more false h f = f h

  waiting-lent : (c : Core S E D) (n : Name) (seat : ℕ) (t : Track S) (same : Bool) → name_eq (lead_name c) n ≡ same → Lendable c n t
      → (c.lead.kind ≡ Fast → is_lent (lead_name c) c.loans ≡ true → NoStop m Fast c.lead.start c.lead.own)
      → c.lead.kind ≡ Fast → is_lent (lead_name c) (c.loans ++ (record { seat = seat; name = n; dropped = None } ∷ [])) ≡ true → NoStop m Fast c.lead.start c.lead.own
  waiting-lent c n seat t false is h waiting kind lent = waiting kind (lent-new (lead_name c) n seat c.loans false is lent refl)
  waiting-lent c n seat t true is h waiting kind lent =
      let named : lead_name c ≡ n = name_eq-true (lead_name c) n is in
      let lead : c.lead ≡ t = lead-lent c n t (find_track-found c n t h.found) (sym named) in
      let met : NoStop m t.kind t.start t.own = (has_stop-false m b t h.unstopped).met in
      let here : NoStop m c.lead.kind c.lead.start c.lead.own = subst (λ (x : Track S). NoStop m x.kind x.start x.own) (sym lead) met in
      subst (λ (k : Kind). NoStop m k c.lead.start c.lead.own) kind here

  pub good-lent : (start : S) (c : Core S E D) (n : Name) (seat : ℕ) (t : Track S) → Good m b start c → Lendable c n t
      → Good m b start (record c { loans = c.loans ++ (record { seat = seat; name = n; dropped = None } ∷ []) })
  good-lent start c n seat t g h = record {
    truth = g.truth;
    chain = g.chain;
    output = g.output;
    numbered = g.numbered;
    rows = g.rows;
    waiting = waiting-lent c n seat t (name_eq (lead_name c) n) refl h g.waiting;
    once = lend-once n seat c.loans (home-lent c n h.home) g.once;
    lost = g.lost;
    final = λ f is. absurd (unfinished c h.live f is);
  }

  -- Back

  front-back_by : (r : Region S) (rs : List (Region S)) (lead : Track S) (t : Bool) (number : ℕ) (P : Track S → Type 0) → P r.normal → P (run_on m r.normal (slice m b r.normal))
      → P (front_of (if t then (record r { normal = run_on m r.normal (slice m b r.normal) }) ∷ rs else r ∷ back_normals m b number rs) lead)
  front-back_by r rs lead true number P old new = new
  front-back_by r rs lead false number P old new = old

  shows-back : (start : S) (base : ℕ) (released ready : List Mark) (normal : Bool) (number : ℕ) (regions : List (Region S)) (lead : Track S) → (go m (fresh start) base).end ≡ None
      → Chain m (go m (fresh start) base).state regions lead → Shows m b start base released ready (front_of regions lead)
      → Shows m b start base released ready (front_of (back_regions m b normal number regions) (back_lead m b normal lead))
  shows-back start base released ready true number [] lead going chain h = h
  shows-back start base released ready true number (r ∷ rs) lead going chain h =
      front-back_by r rs lead (nat_eq number r.number) number (λ t. Shows m b start base released ready t) h
      (shows-run m b start base released ready r.normal (slice m b r.normal) going (new-normal m b (go m (fresh start) base).state r.normal (slice m b r.normal) chain.normal) h)
  shows-back start base released ready false number [] lead going chain h =
      shows-run m b start base released ready lead (slice m b lead) going (new-segment m b (go m (fresh start) base).state lead (slice m b lead) chain) h
  shows-back start base released ready false number (r ∷ rs) lead going chain h = h

  waiting-back : (c : Core S E D) (n : Name) (l : OpenLoan) (t : Track S) → FoundTrack c n t → find_loan n c.loans ≡ Some l → l.dropped ≡ None → ((x : Name) → count_lent x c.loans ≤ 1)
      → (c.lead.kind ≡ Fast → is_lent (lead_name c) c.loans ≡ true → NoStop m Fast c.lead.start c.lead.own)
      → (back_lead m b n.normal c.lead).kind ≡ Fast → is_lent (lead_name c) (end_loan n c.loans) ≡ true → NoStop m Fast (back_lead m b n.normal c.lead).start (back_lead m b n.normal c.lead).own
  waiting-back c n l t (Original present normal found) loan live once waiting =
      subst (λ x. (back_lead m b x c.lead).kind ≡ Fast → is_lent (lead_name c) (end_loan n c.loans) ≡ true → NoStop m Fast (back_lead m b x c.lead).start (back_lead m b x c.lead).own) (sym normal)
      (λ kind lent. waiting kind (is_lent-before n (lead_name c) c.loans lent))
  waiting-back c n l t (Lead normal named lead) loan live once waiting = λ kind lent.
      absurd (let none : is_lent n (end_loan n c.loans) ≡ false = is_lent-back n l c.loans loan live (once n) in
      let same : is_lent n (end_loan n c.loans) ≡ is_lent (lead_name c) (end_loan n c.loans) = ap (λ (x : Name). is_lent x (end_loan n c.loans)) named in cc)

  once-end : (n : Name) (ls : List OpenLoan) → ((x : Name) → count_lent x ls ≤ 1) → (x : Name) → count_lent x (end_loan n ls) ≤ 1
  once-end n ls once x = (let less = count_lent-end_loan n x ls in let one = once x in omega arith)

  pub good-back : (start : S) (c : Core S E D) (n : Name) (l : OpenLoan) (t : Track S) → Good m b start c → over c ≡ false → find_loan n c.loans ≡ Some l → l.dropped ≡ None → find_track c n ≡ Some t
      → Good m b start (record c { regions = back_regions m b n.normal n.region c.regions; lead = back_lead m b n.normal c.lead; loans = end_loan n c.loans })
  good-back start c n l t g live loan undropped found =
      let shows = shows-back start c.base c.released c.ready n.normal n.region c.regions c.lead g.truth g.chain (shows-good m b start c g) in
      record {
        truth = g.truth;
        chain = chain-back m b n.normal n.region (go m (fresh start) c.base).state c.regions c.lead g.chain;
        output = shows.output;
        numbered = shows.numbered;
        rows = g.rows;
        waiting = waiting-back c n l t (find_track-found c n t found) loan undropped g.once g.waiting;
        once = once-end n c.loans g.once;
        lost = g.lost;
        final = λ f is. absurd (unfinished c live f is);
      }

  -- Gone

  home-from : (lent lent2 named named2 : Bool) → (lent ≡ false → lent2 ≡ false) → (lent ≡ false → named ≡ false → named2 ≡ false) → (not lent2 && not named2) ≡ false → (not lent && not named) ≡ false
  home-from true lent2 named named2 f g h = refl
  home-from false lent2 true named2 f g h = refl
  home-from false lent2 false named2 f g h = absurd (let p : lent2 ≡ false = f refl in let q : named2 ≡ false = g refl refl in let home : (not lent2 && not named2) ≡ true = ap₂ (λ x y. not x && not y) p q in cc)

  named-other : (x n : Name) (t : Bool) (rest : Bool) → (t ≡ true → ⊥) → rest ≡ false → (if t then true else rest) ≡ false
  named-other x n true rest not h = absurd (not refl)
  named-other x n false rest not h = h

  -- a final core stays so when a loan that was dropped ends
  final-dropped : (start : S) (c : Core S E D) (n : Name) (f : Finished E) → Final m b start c f → Final m b start (record c { loans = end_loan n c.loans }) f
  final-dropped start c n f h = record {
    end = h.end;
    count = h.count;
    output = h.output;
    rows = h.rows;
    nothing = λ away. h.nothing (home-from (is_lent (front_name c c.regions) c.loans) (is_lent (front_name c c.regions) (end_loan n c.loans)) (is_named (front_name c c.regions) c.lost) (is_named (front_name c c.regions) c.lost)
        (is_lent-end_loan n (front_name c c.regions) c.loans) (λ lent named. named) (away-by c (end_loan n c.loans) c.regions away));
  }
    where
      away-by : (c : Core S E D) (ls : List OpenLoan) (rs : List (Region S)) → at_home (record c { loans = ls }) (front_name (record c { loans = ls }) rs) ≡ false
          → (not (is_lent (front_name c rs) ls) && not (is_named (front_name c rs) c.lost)) ≡ false
      away-by c ls [] h = h
      away-by c ls (r ∷ rs) h = h

  final-lost : (start : S) (c : Core S E D) (n : Name) (l : OpenLoan) (f : Finished E) → find_loan n c.loans ≡ Some l → l.dropped ≡ None → Final m b start c f
      → Final m b start (record c { loans = end_loan n c.loans; lost = n ∷ c.lost; halted = not (is_some c.finish) || c.halted }) f
  final-lost start c n l f loan live h = record {
    end = h.end;
    count = h.count;
    output = h.output;
    rows = h.rows;
    nothing = λ away. h.nothing (home-from (is_lent (front_name c c.regions) c.loans) (is_lent (front_name c c.regions) (end_loan n c.loans)) (is_named (front_name c c.regions) c.lost) (is_named (front_name c c.regions) (n ∷ c.lost))
        (is_lent-end_loan n (front_name c c.regions) c.loans)
        (λ lent named. named-other (front_name c c.regions) n (name_eq (front_name c c.regions) n) (is_named (front_name c c.regions) c.lost)
        (λ same. (let is : front_name c c.regions ≡ n = name_eq-true (front_name c c.regions) n same in
        let out_now : is_lent n c.loans ≡ true = is_lent-found n l c.loans loan live in
        let other : is_lent n c.loans ≡ false = subst (λ (x : Name). is_lent x c.loans ≡ false) is lent in cc)) named)
        (away-by c (end_loan n c.loans) (n ∷ c.lost) (not (is_some c.finish) || c.halted) c.regions away));
  }
    where
      away-by : (c : Core S E D) (ls : List OpenLoan) (lost : List Name) (halted : Bool) (rs : List (Region S))
          → at_home (record c { loans = ls; lost = lost; halted = halted }) (front_name (record c { loans = ls; lost = lost; halted = halted }) rs) ≡ false
          → (not (is_lent (front_name c rs) ls) && not (is_named (front_name c rs) lost)) ≡ false
      away-by c ls lost halted [] h = h
      away-by c ls lost halted (r ∷ rs) h = h

  never-live : (finished halted : Bool) → (finished || (not finished || halted)) ≡ false → ⊥
  never-live true halted h = cc
  never-live false halted h = cc

  good-gone_by : (start : S) (c : Core S E D) (n : Name) (l : OpenLoan) (o : Option ℕ) → l.dropped ≡ o → Good m b start c → find_loan n c.loans ≡ Some l → Good m b start (gone_live c n o)
  good-gone_by start c n l (Some row) is g loan = record {
    truth = g.truth;
    chain = g.chain;
    output = g.output;
    numbered = g.numbered;
    rows = g.rows;
    waiting = λ kind lent. g.waiting kind (is_lent-before n (lead_name c) c.loans lent);
    once = once-end n c.loans g.once;
    lost = g.lost;
    final = λ f finish. final-dropped start c n f (g.final f finish);
  }
  good-gone_by start c n l None is g loan = record {
    truth = g.truth;
    chain = g.chain;
    output = g.output;
    numbered = g.numbered;
    rows = g.rows;
    waiting = λ kind lent. g.waiting kind (is_lent-before n (lead_name c) c.loans lent);
    once = once-end n c.loans g.once;
    lost = λ live. absurd (never-live (is_some c.finish) c.halted live);
    final = λ f finish. final-lost start c n l f loan is (g.final f finish);
  }

  pub good-gone : (start : S) (c : Core S E D) (n : Name) (l : OpenLoan) → Good m b start c → find_loan n c.loans ≡ Some l → Good m b start (gone_live c n l.dropped)
  good-gone start c n l g loan = good-gone_by start c n l l.dropped refl g loan

  -- Halt

  pub good-halted : (start : S) (c : Core S E D) → Good m b start c → over c ≡ false → Good m b start (record c { halted = true })
  good-halted start c g live = record {
    truth = g.truth;
    chain = g.chain;
    output = g.output;
    numbered = g.numbered;
    rows = g.rows;
    waiting = g.waiting;
    once = g.once;
    lost = λ still. absurd (let both = or_parts (is_some c.finish) true still in let two = both.1 in cc);
    final = λ f is. absurd (unfinished c live f is);
  }

  -- Release

  verified-home : (c : Core S E D) → front_home c ≡ true → verified b c ≡ c.ready ++ marks_upto (b.budget - c.base) (front c).held
  unfolding verified
  verified-home c h = ap (λ t. c.ready ++ (if t then marks_upto (b.budget - c.base) (front c).held else [])) h

  verified-away : (c : Core S E D) → front_home c ≡ false → verified b c ≡ c.ready ++ []
  unfolding verified
  verified-away c h = ap (λ t. c.ready ++ (if t then marks_upto (b.budget - c.base) (front c).held else [])) h

  shows-front : (start : S) (base : ℕ) (released ready : List Mark) (limit : ℕ) (regions : List (Region S)) (lead : Track S)
      → Shows m b start base released ready (record (front_of regions lead) { held = left_over limit (front_of regions lead).held })
      → Shows m b start base released ready (front_of (released_regions limit regions) (released_lead limit regions lead))
  shows-front start base released ready limit [] lead h = h
  shows-front start base released ready limit (r ∷ rs) lead h = h

  lead-kind : (limit : ℕ) (regions : List (Region S)) (lead : Track S) (P : Kind → S → ℕ → Type 0) → P lead.kind lead.start lead.own
      → P (released_lead limit regions lead).kind (released_lead limit regions lead).start (released_lead limit regions lead).own
  lead-kind limit [] lead P h = h
  lead-kind limit (r ∷ rs) lead P h = h

  released-held : (limit : ℕ) (regions : List (Region S)) (lead : Track S)
      → marks_upto limit (front_of (released_regions limit regions) (released_lead limit regions lead)).held ≡ []
  released-held limit [] lead = marks_upto-left_over limit lead.held
  released-held limit (r ∷ rs) lead = marks_upto-left_over limit r.normal.held

  good-released_by : (start : S) (c : Core S E D) (home : Bool) → front_home c ≡ home → Good m b start c → Good m b start (released_by home (b.budget - c.base) c (verified b c))
  good-released_by start c true is g =
      let limit = b.budget - c.base in
      let given = shows-released m b start c.base c.released c.ready (front c) (shows-good m b start c g) in
      let shows = shows-front start c.base (c.released ++ verified b c) [] limit c.regions c.lead
      (subst (λ ms. Shows m b start c.base (c.released ++ ms) [] (record (front c) { held = left_over limit (front c).held })) (sym (verified-home c is)) given) in
      record {
        truth = g.truth;
        chain = chain-released m limit (go m (fresh start) c.base).state c.regions c.lead g.chain;
        output = shows.output;
        numbered = shows.numbered;
        rows = g.rows;
        waiting = lead-kind limit c.regions c.lead (λ k s n. k ≡ Fast → is_lent (lead_name c) c.loans ≡ true → NoStop m Fast s n) g.waiting;
        once = g.once;
        lost = g.lost;
        final = λ f finish. (let old = g.final f finish in record {
          end = old.end;
          count = old.count;
          rows = old.rows;
          output = ap (λ ms. (c.released ++ verified b c) ++ ms) (released-held limit c.regions c.lead) ∙ append-nil (c.released ++ verified b c) ∙ ap (λ ms. c.released ++ ms) (verified-home c is) ∙ old.output;
          nothing = λ away. released-held limit c.regions c.lead;
        });
      }
  good-released_by start c false is g =
      let poured = shows-poured m b start c.base c.released c.ready (front c) (shows-good m b start c g) in
      let shows = subst (λ ms. Shows m b start c.base (c.released ++ ms) [] (front c)) (sym (verified-away c is)) poured in
      record {
        truth = g.truth;
        chain = g.chain;
        output = shows.output;
        numbered = shows.numbered;
        rows = g.rows;
        waiting = g.waiting;
        once = g.once;
        lost = g.lost;
        final = λ f finish. (let old = g.final f finish in
            let empty : marks_upto (b.budget - c.base) (front c).held ≡ [] = old.nothing is in record {
              end = old.end;
              count = old.count;
              rows = old.rows;
              output = ap (λ ms. (c.released ++ ms) ++ marks_upto (b.budget - c.base) (front c).held) (verified-away c is ∙ ap (λ ms. c.ready ++ ms) (sym empty))
                  ∙ ap (λ ms. (c.released ++ (c.ready ++ marks_upto (b.budget - c.base) (front c).held)) ++ ms) empty
                  ∙ append-nil (c.released ++ (c.ready ++ marks_upto (b.budget - c.base) (front c).held)) ∙ old.output;
              nothing = λ away. empty;
            });
      }

  pub good-released : (start : S) (c : Core S E D) → Good m b start c → Good m b start (released_core b c)
  good-released start c g = good-released_by start c (front_home c) refl g
