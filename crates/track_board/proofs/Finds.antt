-- What is found from the fields of a board is what is due.
use Rattle.std.proofs.Common.{◌≡◌, ℕ, Bool, true, false, not, ◌&&◌, List, [], ◌∷◌, Option, Some, None, option_map, length, if◌then◌else◌, nat_lt, nat_le, refl, sym, ap, ◌∙◌, subst, arith}
use Rattle.std.proofs.lemmas.Bool.Decides.{nat_tests}
use Rattle.speculation.specs.declared.tracks.Kind.TheVariants.{Fast, Segment}
use Rattle.speculation.specs.Run.{fresh, go}
use Rattle.speculation.specs.Tracks.{point}
use Rattle.speculation.specs.Verdicts.{Judged}
use Rattle.speculation.specs.Core.{Track as CoreTrack, Region as CoreRegion, Part, Open as CoreOpen, Closed as CoreClosed, Between as CoreBetween, Finished as CoreFinished, over, front, front_home, front_of, lead_home, lead_name, is_lent, is_named, track_point, at_boundary, is_kind, most_held}
use Rattle.speculation.specs.Due.{Judgement as CoreJudgement, Finishing, Crossing, Judging, Forking, finish_test, cross_test, verdict_due, fork_test, choose, due}
use Rattle.guest_model.specs.MachineState.{MachineState}
use Rattle.guest_model.specs.Rv32.{rv32}
use Rattle.guest_model.specs.declared.difference.Difference.{Difference}
use Rattle.guest_model.specs.declared.end.End.{End}
use Rattle.region_ledger.specs.Ledger.{core_finished}
use Rattle.region_ledger.specs.declared.finished.Finished.{Finished}
use Rattle.seniority_queue.specs.Listing.{LiveNode}
use Rattle.track_state.specs.Views.{view_of}
use Rattle.rv32_law.specs.GuestStates.{IsGuestState}
use Rattle.rv32_law.proofs.Reached.{IsOwnEnd, go-keeps, point-own_end}
use Rattle.speculation_law.specs.Facts.{Chain, Tail}
use Rattle.track_board.specs.declared.board.Board.TheInside.{Inside}
use Rattle.track_board.specs.declared.due.Due.TheVariants.{Finish, Cross, Judge, Fork}
use Rattle.track_board.specs.declared.due.Judgement.{Judgement}
use Rattle.track_board.specs.declared.ready.Ready.{Ready}
use Rattle.track_board.specs.Value.{Posted, GuestCore, core_of, start_state}
use Rattle.track_board.specs.declared.region.Region.{Region}
use Rattle.track_board.specs.declared.slot.Slot.{Slot}
use Rattle.track_board.specs.declared.slot.Slot.TheVariants.{Home, Away}
use Rattle.track_board.specs.Parts.{ready_marks, RegionsStand, SlotStands, FastKeeps}
use Rattle.track_board.specs.Settles.{IsDue, due_of}
use Rattle.track_board.specs.Invariant.{view_of_board, home_at, StandsFor}
use Rattle.track_board.specs.DueTests.{front_slot, slot_at_boundary, slot_finish, judged_first, judged_of, may_fork, FirstCanCompare, CanCompare}
use Rattle.track_board.proofs.Foundation.{core-stood, core-seen, stands-sound, start-home}
use Rattle.track_board.proofs.DueTests.{IsJudgedAs, finish-slot, boundary-slot, front-slot, regions-count, judged-regions}

-- ---- the first of the tests that passes

module _ (o : Bool) (f : Option (CoreFinished End)) (cross : Bool) (j : Option (CoreJudgement MachineState Difference)) (fork : Bool) where
  choose-over : o ≡ true → choose o f cross j fork ≡ None
  choose-over p = rw p refl

  choose-finish : (x : CoreFinished End) → o ≡ false → f ≡ Some x → choose o f cross j fork ≡ Some (Finishing x)
  choose-finish x p q = rw (p, q) refl

  choose-cross : o ≡ false → f ≡ None → cross ≡ true → choose o f cross j fork ≡ Some Crossing
  choose-cross p q r = rw (p, q, r) refl

  choose-judge : (v : CoreJudgement MachineState Difference) → o ≡ false → f ≡ None → cross ≡ false → j ≡ Some v → choose o f cross j fork ≡ Some (Judging v)
  choose-judge v p q r s = rw (p, q, r, s) refl

  choose-fork : o ≡ false → f ≡ None → cross ≡ false → j ≡ None → fork ≡ true → choose o f cross j fork ≡ Some Forking
  choose-fork p q r s t = rw (p, q, r, s, t) refl

  choose-none : o ≡ false → f ≡ None → cross ≡ false → j ≡ None → fork ≡ false → choose o f cross j fork ≡ None
  choose-none p q r s t = rw (p, q, r, s, t) refl

-- ---- what is judged

record IsFound (j : Judged Difference) (o : Option (CoreJudgement MachineState Difference)) : Type 0 where
  pub judgement : CoreJudgement MachineState Difference
  pub is : o ≡ Some judgement
  pub same : j ≡ judgement.judged

module _ (input : List ℕ) (limit : ℕ) where
  judged-some : (j : Judged Difference) (o : Option (CoreJudgement MachineState Difference)) → IsJudgedAs input limit (Some j) o → IsFound j o
  judged-some j (Some v) h = record { judgement = v; is = refl; same = h }
  judged-some j None h = absurd h

  judged-none : (o : Option (CoreJudgement MachineState Difference)) → IsJudgedAs input limit None o → o ≡ None
  judged-none None h = refl
  judged-none (Some v) h = absurd h

-- ---- fork

not-le : (a b : ℕ) → not (nat_le b a) ≡ nat_lt a b
not-le a b = grind (arith, nat_tests)

fork-by : (home kind boundary room small : Bool) → (if home && (kind && boundary) then (if room then small else false) else false) ≡ (home && (kind && (boundary && (room && small))))
fork-by true true true true small = refl
fork-by true true true false small = refl
fork-by true true false room small = refl
fork-by true false boundary room small = refl
fork-by false kind boundary room small = refl

-- ---- what the core says of the front and the lead

chain-start : (input : List ℕ) (s : MachineState) (rs : List (CoreRegion MachineState)) (lead : CoreTrack MachineState) → Chain (rv32 input) s rs lead → (front_of rs lead).start ≡ s
chain-start input s [] lead h = h.start
chain-start input s (r ∷ rs) lead h = h.normal.start

open-fast : (input : List ℕ) (s : MachineState) (part : Part MachineState) (segment : Option CoreBetween) (rs : List (CoreRegion MachineState)) (lead : CoreTrack MachineState)
    → Tail (rv32 input) s part segment rs lead → part ≡ CoreOpen → lead.kind ≡ Fast
open-fast input s CoreOpen segment [] lead h p = h.lead.kind
open-fast input s CoreOpen segment (r ∷ rs) lead h p = absurd h.link
open-fast input s (CoreClosed k t) segment rs lead h p = absurd (cc)

away-lent : (lent named : Bool) → named ≡ false → (not lent && not named) ≡ false → lent ≡ true
away-lent true named p q = refl
away-lent false true p q = absurd (cc)
away-lent false false p q = absurd (cc)

module _ (i : Inside) (k : GuestCore) (h : StandsFor i k) where
  front-own_end : IsOwnEnd (track_point (rv32 i.input.value) (front k)).end
  front-own_end =
      let sound = stands-sound i k h in
      let start : MachineState = start_state (view_of_board i) in
      let same : (front k).start ≡ (go (rv32 i.input.value) (fresh start) k.base).state = chain-start i.input.value (go (rv32 i.input.value) (fresh start) k.base).state k.regions k.lead sound.good.chain in
      let guest : IsGuestState i.input.value (go (rv32 i.input.value) (fresh start) k.base).state = (go-keeps i.input.value (fresh start) k.base h.guest).state in
      point-own_end i.input.value (front k).kind (front k).start (front k).own (subst (IsGuestState i.input.value) (sym same) guest)

  -- a fast lead that is lent had met nothing
  lead-going : over k ≡ false → (r : CoreRegion MachineState) (rs : List (CoreRegion MachineState)) → k.regions ≡ r ∷ rs → r.part ≡ CoreOpen → lead_home k ≡ false
      → (track_point (rv32 i.input.value) k.lead).end ≡ None
  lead-going live r rs is part away =
      let good = (stands-sound i k h).good in
      let s : MachineState = (go (rv32 i.input.value) (fresh (start_state (view_of_board i))) k.base).state in
      let chain : Chain (rv32 i.input.value) s (r ∷ rs) k.lead = subst (λ (x : List (CoreRegion MachineState)). Chain (rv32 i.input.value) s x k.lead) is good.chain in
      let kind : k.lead.kind ≡ Fast = open-fast i.input.value s r.part r.segment rs k.lead chain.tail part in
      let unnamed : is_named (lead_name k) k.lost ≡ false = ap (is_named (lead_name k)) (good.lost live) in
      let lent : is_lent (lead_name k) k.loans ≡ true = away-lent (is_lent (lead_name k) k.loans) (is_named (lead_name k) k.lost) unnamed away in
      let met = good.waiting kind lent in
      ap (λ t. (point (rv32 i.input.value) t k.lead.start k.lead.own).end) kind ∙ met.going

  -- ---- each test is the core's

  front-finish : option_map core_finished (slot_finish i.settings.budget i.base (front_slot i.regions.nodes i.lead)) ≡ finish_test (rv32 i.input.value) i.settings k.base (front_home k) (front k)
  front-finish =
      ap (λ (n : ℕ). option_map core_finished (slot_finish i.settings.budget n (front_slot i.regions.nodes i.lead))) h.fields.base
      ∙ finish-slot i.input.value i.settings.budget i.settings k.base (front_slot i.regions.nodes i.lead) (front_home k) (front k)
      (front-slot i.input.value i.settings.budget k i.regions.nodes k.regions i.lead h.fields.regions h.fields.lead) front-own_end

  lead-crosses : slot_at_boundary Fast i.lead ≡ cross_test (rv32 i.input.value) k
  lead-crosses = boundary-slot i.input.value i.settings.budget Fast i.lead (lead_home k) k.lead h.fields.lead

  oldest-judged : over k ≡ false → IsJudgedAs i.input.value i.settings.budget (judged_first i.regions.nodes i.lead) (verdict_due (rv32 i.input.value) k k.regions)
  oldest-judged live = judged-regions i.input.value i.settings.budget k i.regions.nodes k.regions i.lead refl h.fields.regions h.fields.lead (lead-going live)

  lead-forks : (room : Bool) → room ≡ nat_lt (length i.regions.nodes) i.settings.tracks → may_fork i.lead room i.ready.items ≡ fork_test (rv32 i.input.value) i.settings k
  lead-forks room is =
      let small : Bool = nat_lt (length k.ready) most_held in
      let count : nat_lt (length i.regions.nodes) i.settings.tracks ≡ nat_lt (length k.regions) i.settings.tracks =
      ap (λ (n : ℕ). nat_lt n i.settings.tracks) (regions-count i.input.value i.settings.budget (home_at k) i.regions.nodes k.regions h.fields.regions) in
      ap (λ (q : Bool). if q then (if room then not (nat_le most_held (length (ready_marks i.ready.items))) else false) else false)
      (boundary-slot i.input.value i.settings.budget Segment i.lead (lead_home k) k.lead h.fields.lead)
      ∙ ap (λ (q : Bool). if lead_home k && (is_kind k.lead.kind Segment && at_boundary (rv32 i.input.value) k.lead) then (if room then q else false) else false)
      (not-le (length (ready_marks i.ready.items)) most_held ∙ ap (λ ms. nat_lt (length ms) most_held) h.fields.ready)
      ∙ fork-by (lead_home k) (is_kind k.lead.kind Segment) (at_boundary (rv32 i.input.value) k.lead) room small
      ∙ ap (λ (q : Bool). lead_home k && (is_kind k.lead.kind Segment && (at_boundary (rv32 i.input.value) k.lead && (q && small)))) (is ∙ count)

  due-is : due_of (view_of_board i) ≡ choose (over k) (finish_test (rv32 i.input.value) i.settings k.base (front_home k) (front k)) (cross_test (rv32 i.input.value) k) (verdict_due (rv32 i.input.value) k k.regions) (fork_test (rv32 i.input.value) i.settings k)
  unfolding due
  due-is = ap (due (rv32 i.input.value) i.settings) (core-stood i k h)

  unfinished : slot_finish i.settings.budget i.base (front_slot i.regions.nodes i.lead) ≡ None → finish_test (rv32 i.input.value) i.settings k.base (front_home k) (front k) ≡ None
  unfinished none = sym front-finish ∙ ap (option_map core_finished) none

  -- ---- each answer

  found-finish : over k ≡ false → (f : Finished) → slot_finish i.settings.budget i.base (front_slot i.regions.nodes i.lead) ≡ Some f → IsDue (Some (Finish f)) (due_of (view_of_board i))
  found-finish live f is =
      subst (IsDue (Some (Finish f))) (sym (due-is ∙ choose-finish _ _ _ _ _ (core_finished f) live (sym front-finish ∙ ap (option_map core_finished) is))) refl

  found-cross : over k ≡ false → slot_finish i.settings.budget i.base (front_slot i.regions.nodes i.lead) ≡ None → slot_at_boundary Fast i.lead ≡ true → IsDue (Some Cross) (due_of (view_of_board i))
  found-cross live none crosses = subst (IsDue (Some Cross)) (sym (due-is ∙ choose-cross _ _ _ _ _ live (unfinished none) (sym lead-crosses ∙ crosses))) tt

  found-judge : over k ≡ false → slot_finish i.settings.budget i.base (front_slot i.regions.nodes i.lead) ≡ None → slot_at_boundary Fast i.lead ≡ false
      → (j : Judgement) → Some (judged_of j) ≡ judged_first i.regions.nodes i.lead → IsDue (Some (Judge j)) (due_of (view_of_board i))
  found-judge live none uncrossed j is =
      let found = judged-some i.input.value i.settings.budget (judged_of j) (verdict_due (rv32 i.input.value) k k.regions)
      (subst (λ (o : Option (Judged Difference)). IsJudgedAs i.input.value i.settings.budget o (verdict_due (rv32 i.input.value) k k.regions)) (sym is) (oldest-judged live)) in
      subst (IsDue (Some (Judge j))) (sym (due-is ∙ choose-judge _ _ _ _ _ found.judgement live (unfinished none) (sym lead-crosses ∙ uncrossed) found.is)) found.same

  unjudged : over k ≡ false → None ≡ judged_first i.regions.nodes i.lead → verdict_due (rv32 i.input.value) k k.regions ≡ None
  unjudged live is =
      judged-none i.input.value i.settings.budget (verdict_due (rv32 i.input.value) k k.regions)
      (subst (λ (o : Option (Judged Difference)). IsJudgedAs i.input.value i.settings.budget o (verdict_due (rv32 i.input.value) k k.regions)) (sym is) (oldest-judged live))

  found-fork : over k ≡ false → slot_finish i.settings.budget i.base (front_slot i.regions.nodes i.lead) ≡ None → slot_at_boundary Fast i.lead ≡ false
      → None ≡ judged_first i.regions.nodes i.lead → (room : Bool) → room ≡ nat_lt (length i.regions.nodes) i.settings.tracks → may_fork i.lead room i.ready.items ≡ true → IsDue (Some Fork) (due_of (view_of_board i))
  found-fork live none uncrossed quiet room is forks =
      subst (IsDue (Some Fork)) (sym (due-is ∙ choose-fork _ _ _ _ _ live (unfinished none) (sym lead-crosses ∙ uncrossed) (unjudged live quiet) (sym (lead-forks room is) ∙ forks))) tt

  found-none : over k ≡ false → slot_finish i.settings.budget i.base (front_slot i.regions.nodes i.lead) ≡ None → slot_at_boundary Fast i.lead ≡ false
      → None ≡ judged_first i.regions.nodes i.lead → (room : Bool) → room ≡ nat_lt (length i.regions.nodes) i.settings.tracks → may_fork i.lead room i.ready.items ≡ false → IsDue None (due_of (view_of_board i))
  found-none live none uncrossed quiet room is forks =
      subst (IsDue None) (sym (due-is ∙ choose-none _ _ _ _ _ live (unfinished none) (sym lead-crosses ∙ uncrossed) (unjudged live quiet) (sym (lead-forks room is) ∙ forks))) tt

  -- ---- the states of the oldest region can be compared

  regions-compare : (x : List (CoreRegion MachineState)) (s : MachineState) → Chain (rv32 i.input.value) s x k.lead → RegionsStand i.input.value i.settings.budget (home_at k) i.regions.nodes x → FirstCanCompare i.regions.nodes
  regions-compare x s chain stand = by-nodes i.input.value i.settings.budget i.regions.nodes x s chain stand
    where
      by-nodes : (input : List ℕ) (limit : ℕ) (ns : List (LiveNode Region)) (x : List (CoreRegion MachineState)) (s : MachineState) → Chain (rv32 input) s x k.lead → RegionsStand input limit (home_at k) ns x → FirstCanCompare ns
      by-nodes input limit [] [] s chain stand = tt
      by-nodes input limit [] (r ∷ rs) s chain stand = absurd stand
      by-nodes input limit (n ∷ ns) [] s chain stand = absurd stand
      by-nodes input limit (n ∷ ns) (r ∷ rs) s chain stand = by-slot n.value.normal stand.0.normal
        where
          by-slot : (y : Slot) → SlotStands input limit y (home_at k r.number) r.normal → CanCompare y n.value.fast
          by-slot (Away own) u = tt
          by-slot (Home t) u =
              let start : r.start ≡ (view_of t).start = chain.start ∙ sym chain.normal.start ∙ start-home input limit t (home_at k r.number) r.normal u in
              subst (λ (a : MachineState). FastKeeps a n.value.fast) start stand.0.keeps

  pub oldest-compare : FirstCanCompare i.regions.nodes
  oldest-compare =
      let s : MachineState = (go (rv32 i.input.value) (fresh (start_state (view_of_board i))) k.base).state in
      regions-compare k.regions s (stands-sound i k h).good.chain h.fields.regions

-- ---- the same of what contracts see

pub over-seen_none : (v : Posted) → over (core_of v) ≡ true → IsDue None (due_of v)
unfolding due
over-seen_none v p = subst (IsDue None) (sym (choose-over (over (core_of v)) _ _ _ _ p)) tt

module _ (i : Inside) (k : GuestCore) (v : Posted) (h : StandsFor i k) (seen : view_of_board i ≡ v) (running : over (core_of v) ≡ false) (front : Slot) (at_front : front ≡ front_slot i.regions.nodes i.lead) where
  live : over k ≡ false
  live = ap over (sym (core-seen i k v h seen)) ∙ running

  finish-is : slot_finish i.settings.budget i.base front ≡ slot_finish i.settings.budget i.base (front_slot i.regions.nodes i.lead)
  finish-is = ap (slot_finish i.settings.budget i.base) at_front

  pub seen-finish : (f : Finished) → Some f ≡ slot_finish i.settings.budget i.base front → IsDue (Some (Finish f)) (due_of v)
  seen-finish f is = subst (λ (u : Posted). IsDue (Some (Finish f)) (due_of u)) seen (found-finish i k h live f (sym finish-is ∙ sym is))

  module _ (none : None ≡ slot_finish i.settings.budget i.base front) where
    unfinished-here : slot_finish i.settings.budget i.base (front_slot i.regions.nodes i.lead) ≡ None
    unfinished-here = sym finish-is ∙ sym none

    pub seen-cross : (b : Bool) → b ≡ slot_at_boundary Fast i.lead → b ≡ true → IsDue (Some Cross) (due_of v)
    seen-cross b is here = subst (λ (u : Posted). IsDue (Some Cross) (due_of u)) seen (found-cross i k h live unfinished-here (sym is ∙ here))

    module _ (b : Bool) (crosses : b ≡ slot_at_boundary Fast i.lead) (uncrossed : b ≡ false) where
      pub seen-judge : (j : Judgement) → Some (judged_of j) ≡ judged_first i.regions.nodes i.lead → IsDue (Some (Judge j)) (due_of v)
      seen-judge j is = subst (λ (u : Posted). IsDue (Some (Judge j)) (due_of u)) seen (found-judge i k h live unfinished-here (sym crosses ∙ uncrossed) j is)

      module _ (quiet : None ≡ judged_first i.regions.nodes i.lead) (count : ℕ) (counts : count ≡ length i.regions.nodes) (ready : List Ready) (is_ready : ready ≡ i.ready.items)
          (f : Bool) (forks : f ≡ may_fork i.lead (nat_lt count i.settings.tracks) ready) where
        forks-here : f ≡ may_fork i.lead (nat_lt count i.settings.tracks) i.ready.items
        forks-here = forks ∙ ap (may_fork i.lead (nat_lt count i.settings.tracks)) is_ready

        room-here : nat_lt count i.settings.tracks ≡ nat_lt (length i.regions.nodes) i.settings.tracks
        room-here = ap (λ (n : ℕ). nat_lt n i.settings.tracks) counts

        pub seen-fork : f ≡ true → IsDue (Some Fork) (due_of v)
        seen-fork here = subst (λ (u : Posted). IsDue (Some Fork) (due_of u)) seen (found-fork i k h live unfinished-here (sym crosses ∙ uncrossed) quiet (nat_lt count i.settings.tracks) room-here (sym forks-here ∙ here))

        pub seen-none : f ≡ false → IsDue None (due_of v)
        seen-none here = subst (λ (u : Posted). IsDue None (due_of u)) seen (found-none i k h live unfinished-here (sym crosses ∙ uncrossed) quiet (nat_lt count i.settings.tracks) room-here (sym forks-here ∙ here))
