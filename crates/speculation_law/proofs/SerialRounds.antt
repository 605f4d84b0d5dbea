-- Each round of the serial history makes the measure smaller.
use Rattle.std.proofs.Common.{◌≡◌, ℕ, suc, ◌+◌, ◌-◌, ◌<◌, ◌≤◌, Bool, true, false, not, ◌&&◌, if◌then◌else◌, List, [], ◌∷◌, ◌++◌, Some, None, length, nat_lt, refl, sym, ap, ap₂, ◌∙◌, subst, arith}
use Rattle.speculation.specs.declared.tracks.Kind.TheVariants.{Normal, Fast}
use Rattle.speculation.specs.declared.tracks.Name.{Name}
use Rattle.speculation.specs.declared.tracks.OpenLoan.{OpenLoan}
use Rattle.speculation.specs.declared.history.Settings.{Settings}
use Rattle.speculation.specs.Machine.{Machine}
use Rattle.speculation.specs.Run.{Mark, marks_upto, fresh, go}
use Rattle.speculation.specs.Verdicts.{Verdict, Kept, Differs, Stopped, Late}
use Rattle.speculation.specs.Core.{Core, Track, Region, Finished, over, name_eq, is_lent, is_named, at_home, front_of, front_name, front_home, verified, track_point, is_kind}
use Rattle.speculation.specs.Due.{Judgement, Due, Finishing, Crossing, Judging, Forking, due}
use Rattle.speculation.specs.Effects.{region_of, base_after_fork, crossed_core, forked_core, judged_core, effect, drop_loans}
use Rattle.speculation.specs.Events.{slice, back_regions, back_lead, end_loan, released_regions, released_lead, released_by, released_core}
use Rattle.speculation_law.specs.Sound.{one_if, Good}
use Rattle.speculation_law.specs.Naming.{Bounded}
use Rattle.speculation_law.proofs.Names.{FoundTrack, Original, Lead, find_track-found, name_eq-refl}
use Rattle.speculation_law.proofs.Pieces.{marks_upto-left_over}
use Rattle.speculation_law.proofs.Dues.{due-finishing, due-crossing, due-forking, cross_test-true, fork_test-true}
use Rattle.speculation_law.proofs.Chains.{boundary-at}
use Rattle.speculation_law.proofs.Judging.{normal-pos}
use Rattle.speculation_law.proofs.Lending.{Lendable}
use Rattle.speculation_law.proofs.Happens.{lent_core, back_core}
use Rattle.speculation_law.proofs.Events.{judges-due}
use Rattle.speculation_law.proofs.Weights.{weigh, digits_of, digits-small, live-falls, left-falls, room-falls, fast-falls, work-falls, shown-falls, work_of, work-back, slice-pos}
use Rattle.speculation_law.proofs.Bounds.{slice-within, length-crossed, length-forked, length-released, length-back}

-- a core of the serial history: nothing is lent or lost, and nobody halted it
pub record Solo {S E D : Type 0} (c : Core S E D) : Type 0 where
  pub loans : c.loans ≡ []
  pub lost : c.lost ≡ []
  pub running : c.halted ≡ false

module _ {S E D : Type 0} where
  -- all tracks are at home
  pub solo-home : (c : Core S E D) (n : Name) → Solo c → at_home c n ≡ true
  solo-home c n h = ap₂ (λ (ls : List OpenLoan) (ns : List Name). not (is_lent n ls) && not (is_named n ns)) h.loans h.lost

  pub solo-front : (c : Core S E D) → Solo c → front_home c ≡ true
  solo-front c h = solo-home c (front_name c c.regions) h

module _ {S E D : Type 0} (m : Machine S E D) (b : Settings) where
  -- Rounds keep a core so

  solo-judged : (c : Core S E D) (v : Judgement S D) (w : Verdict D) → Solo c → Solo (judged_core m b c v w)
  solo-judged c v Kept h = record { loans = h.loans; lost = h.lost; running = h.running }
  solo-judged c v (Differs d) h = record { loans = ap (drop_loans (length c.rows)) h.loans; lost = h.lost; running = h.running }
  solo-judged c v Stopped h = record { loans = ap (drop_loans (length c.rows)) h.loans; lost = h.lost; running = h.running }
  solo-judged c v Late h = record { loans = ap (drop_loans (length c.rows)) h.loans; lost = h.lost; running = h.running }

  pub solo-due : (c : Core S E D) (d : Due S E D) → Solo c → Solo (effect m b c d)
  solo-due c (Finishing f) h = record { loans = h.loans; lost = h.lost; running = h.running }
  solo-due c Crossing h = record { loans = h.loans; lost = h.lost; running = h.running }
  solo-due c (Judging v) h = solo-judged c v v.judged.verdict h
  solo-due c Forking h = record { loans = h.loans; lost = h.lost; running = h.running }

  pub solo-released_by : (c : Core S E D) (home : Bool) (limit : ℕ) (bytes : List Mark) → Solo c → Solo (released_by home limit c bytes)
  solo-released_by c true limit bytes h = record { loans = h.loans; lost = h.lost; running = h.running }
  solo-released_by c false limit bytes h = record { loans = h.loans; lost = h.lost; running = h.running }

  ended-one : (n : Name) (loan : OpenLoan) → loan.name ≡ n → end_loan n (loan ∷ []) ≡ []
  ended-one n loan is = ap (λ t. if t then [] else loan ∷ []) (subst (λ (k : Name). name_eq n k ≡ true) (sym is) (name_eq-refl n))

  pub solo-back : (c : Core S E D) (n : Name) → Solo c → Solo (back_core m b (lent_core c 0 n) n)
  solo-back c n h = record {
    loans = ap (λ ls. end_loan n (ls ++ (record { seat = 0; name = n; dropped = None } ∷ []))) h.loans ∙ ended-one n (record { seat = 0; name = n; dropped = None }) refl;
    lost = h.lost;
    running = h.running;
  }

  -- Rounds make the measure smaller

  over-judged : (c : Core S E D) (v : Judgement S D) (w : Verdict D) → over (judged_core m b c v w) ≡ over c
  over-judged c v Kept = refl
  over-judged c v (Differs d) = refl
  over-judged c v Stopped = refl
  over-judged c v Late = refl

  base-judged : (c : Core S E D) (v : Judgement S D) (w : Verdict D) → c.base + v.region.normal.own ≤ (judged_core m b c v w).base
  base-judged c v Kept = omega arith
  base-judged c v (Differs d) = omega arith
  base-judged c v Stopped = omega arith
  base-judged c v Late = omega arith

  one_if-same : (x y : Bool) → x ≡ y → one_if (not x) ≤ one_if (not y)
  one_if-same x y h = subst (λ z. one_if (not x) ≤ one_if (not z)) h (omega arith)

  falls-judging : (start : S) (c : Core S E D) (v : Judgement S D) → Good m b start c → due m b c ≡ Some (Judging v) → Bounded b (effect m b c (Judging v)) → weigh b (digits_of b (effect m b c (Judging v))) < weigh b (digits_of b c)
  falls-judging start c v g is bounded =
      let j = judges-due m b start c v g is in
      let s : S = (go m (fresh start) c.base).state in
      let pos : 0 < v.region.normal.own = normal-pos m s v.region.normal.own (sym (boundary-at m Normal s v.region.normal j.good.chain.normal.kind j.good.chain.normal.start) ∙ j.boundary) in
      let more = base-judged c v v.judged.verdict in
      let unspent = j.unspent in
      left-falls b (digits_of b c) (digits_of b (effect m b c (Judging v))) (digits-small m b (effect m b c (Judging v)) bounded)
      (one_if-same (over (effect m b c (Judging v))) (over c) (over-judged c v v.judged.verdict)) (omega arith)

  falls-finishing : (c : Core S E D) (f : Finished E) → over c ≡ false → Bounded b (effect m b c (Finishing f)) → weigh b (digits_of b (effect m b c (Finishing f))) < weigh b (digits_of b c)
  falls-finishing c f live bounded =
      let one : one_if (not (over c)) ≡ 1 = ap (λ t. one_if (not t)) live in
      live-falls b (digits_of b c) (digits_of b (effect m b c (Finishing f))) (digits-small m b (effect m b c (Finishing f)) bounded) (omega arith)

  falls-crossing : (c : Core S E D) → c.lead.kind ≡ Fast → Bounded b (effect m b c Crossing) → weigh b (digits_of b (effect m b c Crossing)) < weigh b (digits_of b c)
  falls-crossing c kind bounded =
      let one : one_if (is_kind c.lead.kind Fast) ≡ 1 = ap (λ k. one_if (is_kind k Fast)) kind in
      let same : length (crossed_core m c).regions ≡ length c.regions = length-crossed c.lead.own (track_point m c.lead).state c.regions in
      fast-falls b (digits_of b c) (digits_of b (effect m b c Crossing)) (digits-small m b (effect m b c Crossing) bounded) (omega arith) (omega arith) (omega arith) (omega arith)

  falls-forking : (c : Core S E D) → length c.regions < b.tracks → Bounded b c → Bounded b (effect m b c Forking) → weigh b (digits_of b (effect m b c Forking)) < weigh b (digits_of b c)
  falls-forking c room before bounded =
      let more : length (forked_core m c).regions ≡ suc (length c.regions) = length-forked (record { steps = c.lead.own; pieces = c.lead.held }) (region_of (suc c.last) (track_point m c.lead).state) c.regions in
      let base = base-low c.regions c.base c.lead in
      room-falls b (digits_of b c) (digits_of b (effect m b c Forking)) (digits-small m b (effect m b c Forking) bounded) (omega arith) (omega arith) (omega arith)
    where
      base-low : (rs : List (Region S)) (base : ℕ) (lead : Track S) → base ≤ base_after_fork rs base lead
      base-low [] base lead = omega arith
      base-low (r ∷ rs) base lead = omega arith

  pub falls-due : (start : S) (c : Core S E D) (d : Due S E D) → Good m b start c → Bounded b c → due m b c ≡ Some d → Bounded b (effect m b c d) → weigh b (digits_of b (effect m b c d)) < weigh b (digits_of b c)
  falls-due start c (Finishing f) g before is bounded = falls-finishing c f (due-finishing m b c f is).live bounded
  falls-due start c Crossing g before is bounded = falls-crossing c (cross_test-true m c (due-crossing m b c is).crosses).kind bounded
  falls-due start c (Judging v) g before is bounded = falls-judging start c v g is bounded
  falls-due start c Forking g before is bounded = falls-forking c (fork_test-true m b c (due-forking m b c is).forks).room before bounded

  -- Release

  empty-either : (t : Bool) (ms : List Mark) → ms ≡ [] → (if t then ms else []) ≡ []
  empty-either true ms h = h
  empty-either false ms h = refl

  held-released : (limit : ℕ) (rs : List (Region S)) (lead : Track S) → marks_upto limit (front_of (released_regions limit rs) (released_lead limit rs lead)).held ≡ []
  held-released limit [] lead = marks_upto-left_over limit lead.held
  held-released limit (r ∷ rs) lead = marks_upto-left_over limit r.normal.held

  -- nothing is left to release after a release with the front at home
  pub verified-released : (c : Core S E D) (bytes : List Mark) → verified b (released_by true (b.budget - c.base) c bytes) ≡ []
  unfolding verified
  verified-released c bytes =
      empty-either (front_home (released_by true (b.budget - c.base) c bytes)) (marks_upto (b.budget - c.base) (front_of (released_regions (b.budget - c.base) c.regions) (released_lead (b.budget - c.base) c.regions c.lead)).held)
      (held-released (b.budget - c.base) c.regions c.lead)

  work-released : (budget limit : ℕ) (rs : List (Region S)) (lead : Track S) → work_of budget (released_regions limit rs) + (budget - (released_lead limit rs lead).own) ≡ work_of budget rs + (budget - lead.own)
  work-released budget limit [] lead = refl
  work-released budget limit (r ∷ rs) lead = refl

  kind-released : (limit : ℕ) (rs : List (Region S)) (lead : Track S) → (released_lead limit rs lead).kind ≡ lead.kind
  kind-released limit [] lead = refl
  kind-released limit (r ∷ rs) lead = refl

  pub falls-released : (c : Core S E D) → Solo c → nat_lt 0 (length (verified b c)) ≡ true → Bounded b (released_core b c) → weigh b (digits_of b (released_core b c)) < weigh b (digits_of b c)
  falls-released c solo shown bounded =
      let is : released_core b c ≡ released_by true (b.budget - c.base) c (verified b c) = ap (λ t. released_by t (b.budget - c.base) c (verified b c)) (solo-front c solo) in
      let k : Core S E D = released_by true (b.budget - c.base) c (verified b c) in
      let one : one_if (nat_lt 0 (length (verified b c))) ≡ 1 = ap one_if shown in
      let none : one_if (nat_lt 0 (length (verified b k))) ≡ 0 = ap (λ (ms : List Mark). one_if (nat_lt 0 (length ms))) (verified-released c (verified b c)) in
      let count : length (released_regions (b.budget - c.base) c.regions) ≡ length c.regions = length-released (b.budget - c.base) c.regions in
      let kind : one_if (is_kind (released_lead (b.budget - c.base) c.regions c.lead).kind Fast) ≡ one_if (is_kind c.lead.kind Fast) = ap (λ x. one_if (is_kind x Fast)) (kind-released (b.budget - c.base) c.regions c.lead) in
      let work = work-released b.budget (b.budget - c.base) c.regions c.lead in
      subst (λ (x : Core S E D). weigh b (digits_of b x) < weigh b (digits_of b c)) (sym is)
      (shown-falls b (digits_of b c) (digits_of b k) (digits-small m b k (subst (λ (x : Core S E D). Bounded b x) is bounded)) (omega arith) (omega arith) (omega arith) (omega arith) (omega arith) (omega arith))

  -- Lend and Back

  work-returned : (c : Core S E D) (n : Name) (t : Track S) → FoundTrack c n t → Bounded b c → 0 < slice m b t
      → work_of b.budget (back_core m b c n).regions + (b.budget - (back_core m b c n).lead.own) < work_of b.budget c.regions + (b.budget - c.lead.own)
  work-returned c n t (Original generation normal found) h pos =
      let less = work-back m b n.region c.regions t found h.regions pos in
      subst (λ x. work_of b.budget (back_regions m b x n.region c.regions) + (b.budget - (back_lead m b x c.lead).own) < work_of b.budget c.regions + (b.budget - c.lead.own)) (sym normal) (omega arith)
  work-returned c n t (Lead normal named lead) h pos =
      let some : 0 < slice m b c.lead = subst (λ (x : Track S). 0 < slice m b x) (sym lead) pos in
      let all : c.lead.own + slice m b c.lead ≤ b.budget = slice-within m b c.lead h.lead in
      subst (λ x. work_of b.budget (back_regions m b x n.region c.regions) + (b.budget - (back_lead m b x c.lead).own) < work_of b.budget c.regions + (b.budget - c.lead.own)) (sym normal) (omega arith)

  kind-returned : (normal : Bool) (lead : Track S) → one_if (is_kind (back_lead m b normal lead).kind Fast) ≤ one_if (is_kind lead.kind Fast)
  kind-returned true lead = omega arith
  kind-returned false lead = omega arith

  pub falls-lent : (c : Core S E D) (n : Name) (t : Track S) → Lendable m b c n t → Bounded b c → Bounded b (back_core m b (lent_core c 0 n) n)
      → weigh b (digits_of b (back_core m b (lent_core c 0 n) n)) < weigh b (digits_of b c)
  falls-lent c n t can before bounded =
      let k : Core S E D = back_core m b (lent_core c 0 n) n in
      let count : length k.regions ≡ length c.regions = length-back m b n.normal n.region c.regions in
      let less = work-returned c n t (find_track-found c n t can.found) before (slice-pos m b t can.unstopped can.few) in
      work-falls b (digits_of b c) (digits_of b k) (digits-small m b k bounded) (omega arith) (omega arith) (omega arith) (kind-returned n.normal c.lead) less
