-- The tests over the fields of a board are those of the core that these stand for.
use Rattle.std.proofs.Common.{◌≡◌, ◌≢◌, ℕ, suc, ◌+◌, ◌-◌, Bool, true, false, ◌&&◌, List, [], ◌∷◌, Option, Some, None, option_map, length, if◌then◌else◌, nat_le, refl, sym, ap, ◌∙◌, subst}
use Rattle.speculation.specs.declared.tracks.Kind.{Kind}
use Rattle.speculation.specs.declared.tracks.Kind.TheVariants.{Normal}
use Rattle.speculation.specs.declared.history.Settings.{Settings}
use Rattle.speculation.specs.Verdicts.{Judged, Running, judge}
use Rattle.speculation.specs.Core.{Track as CoreTrack, Region as CoreRegion, Part, Open as CoreOpen, Finished as CoreFinished, track_point, at_boundary, is_kind, front_of, front_name, at_home, lead_home}
use Rattle.speculation.specs.Due.{Judgement as CoreJudgement, finish_test, seen_lead, seen, judgement, verdict_due}
use Rattle.guest_model.specs.MachineState.{MachineState}
use Rattle.guest_model.specs.Rv32.{rv32}
use Rattle.guest_model.specs.declared.difference.Difference.{Difference}
use Rattle.guest_model.specs.declared.end.End.{End}
use Rattle.guest_model.specs.declared.end.End.TheVariants.{Exit, Trap, Spent}
use Rattle.region_ledger.specs.Ledger.{core_end, core_finished}
use Rattle.region_ledger.specs.declared.finished.Finished.{Finished}
use Rattle.rv32_law.proofs.Reached.{IsOwnEnd}
use Rattle.seniority_queue.specs.Listing.{LiveNode}
use Rattle.track_state.specs.Views.{TrackView, view_of, is_at_boundary, stop_by, stop_of}
use Rattle.track_board.specs.declared.region.FastVersion.{FastVersion}
use Rattle.track_board.specs.declared.region.FastVersion.TheVariants.{Open, Closed}
use Rattle.track_board.specs.declared.region.Region.{Region}
use Rattle.track_board.specs.declared.slot.Slot.{Slot}
use Rattle.track_board.specs.declared.slot.Slot.TheVariants.{Home, Away}
use Rattle.track_board.specs.Value.{GuestCore}
use Rattle.track_board.specs.Parts.{SlotStands, RegionsStand, core_fast}
use Rattle.track_board.specs.Invariant.{home_at}
use Rattle.speculation_law.proofs.Dues.{finish_on, past-reached}
use Rattle.track_board.specs.DueTests.{front_slot, is_boundary, slot_at_boundary, spent_at, finish_by_stop, track_finish, slot_finish, seen_by_stop, seen_slot, seen_fast, judged_slot, judged_first}
use Rattle.track_board.proofs.Foundation.{kind-home, own-home, end-home, state-home, boundary-home}

-- ---- stops

pub is_boundary-by : (b : Bool) (e : Option End) (spent : Bool) → is_boundary (stop_by b e spent) ≡ b
is_boundary-by true e spent = refl
is_boundary-by false (Some e) spent = refl
is_boundary-by false None true = refl
is_boundary-by false None false = refl

-- a track that met an end is at no boundary
pub boundary-unended : (v : TrackView) → is_at_boundary v ≡ true → v.end ≡ None
boundary-unended v h = by-end v.end h
  where
    by-end : (e : Option End) → is_at_boundary (record v { end = e }) ≡ true → e ≡ None
    by-end (Some e) p = absurd (cc)
    by-end None p = refl

core_end-own : (e : End) → e ≢ Spent → core_end e ≡ Some e
core_end-own (Exit code) h = refl
core_end-own (Trap trap pc) h = refl
core_end-own Spent h = absurd (h refl)

-- ---- finish

ended-finish : (budget count : ℕ) (e : End) (within : Bool) → e ≢ Spent
    → option_map core_finished (Some (if within then record { end = e; count = count } else spent_at budget))
    ≡ (if within then Some (record { end = Some e; count = count }) else Some (record { end = None; count = budget }))
ended-finish budget count e true h = ap (λ (o : Option End). let f : CoreFinished End = record { end = o; count = count } in Some f) (core_end-own e h)
ended-finish budget count e false h = refl

-- an end, or none, where the budget isn't spent
finish-by_end : (budget count : ℕ) (e : Option End) (spent original within reached : Bool) → IsOwnEnd e → (within ≡ false → reached ≡ true)
    → option_map core_finished (finish_by_stop budget count (stop_by false e spent) (if original then within else false) within reached) ≡ finish_on budget count false true e within reached (original && false)
finish-by_end budget count (Some e) spent true true reached own past = ended-finish budget count e true own
finish-by_end budget count (Some e) spent false true reached own past = ended-finish budget count e true own
finish-by_end budget count (Some e) spent true false true own past = refl
finish-by_end budget count (Some e) spent false false true own past = refl
finish-by_end budget count (Some e) spent original false false own past = absurd (let no = past refl in cc)
finish-by_end budget count None true true true true own past = refl
finish-by_end budget count None true true true false own past = refl
finish-by_end budget count None true true false true own past = refl
finish-by_end budget count None true true false false own past = refl
finish-by_end budget count None true false true true own past = refl
finish-by_end budget count None true false true false own past = refl
finish-by_end budget count None true false false true own past = refl
finish-by_end budget count None true false false false own past = refl
finish-by_end budget count None false true true true own past = refl
finish-by_end budget count None false true true false own past = refl
finish-by_end budget count None false true false true own past = refl
finish-by_end budget count None false true false false own past = refl
finish-by_end budget count None false false true true own past = refl
finish-by_end budget count None false false true false own past = refl
finish-by_end budget count None false false false true own past = refl
finish-by_end budget count None false false false false own past = refl

-- a boundary
finish-by_boundary : (budget count : ℕ) (spent original within reached : Bool)
    → option_map core_finished (finish_by_stop budget count (stop_by true None spent) (if original then within else false) within reached) ≡ finish_on budget count false true None within reached (original && true)
finish-by_boundary budget count spent true true true = refl
finish-by_boundary budget count spent true true false = refl
finish-by_boundary budget count spent true false true = refl
finish-by_boundary budget count spent true false false = refl
finish-by_boundary budget count spent false true true = refl
finish-by_boundary budget count spent false true false = refl
finish-by_boundary budget count spent false false true = refl
finish-by_boundary budget count spent false false false = refl

finish-by : (budget count : ℕ) (boundary : Bool) (e : Option End) (spent original within reached : Bool) → IsOwnEnd e → (boundary ≡ true → e ≡ None) → (within ≡ false → reached ≡ true)
    → option_map core_finished (finish_by_stop budget count (stop_by boundary e spent) (if original then within else false) within reached) ≡ finish_on budget count false true e within reached (original && boundary)
finish-by budget count false e spent original within reached own none past = finish-by_end budget count e spent original within reached own past
finish-by budget count true None spent original within reached own none past = finish-by_boundary budget count spent original within reached
finish-by budget count true (Some e) spent original within reached own none past = absurd (let no : Some e ≡ None = none refl in cc)

spent-or : (budget : ℕ) (count : ℕ) (spent : Bool) (end : Option End) (within reached closed : Bool) (o : Option Finished) → option_map core_finished o ≡ finish_on budget count false true end within reached closed
    → option_map core_finished (if spent then Some (spent_at budget) else o) ≡ finish_on budget count spent true end within reached closed
spent-or budget count true end within reached closed o h = refl
spent-or budget count false end within reached closed o h = h

spent-away : (budget count : ℕ) (spent : Bool) (end : Option End) (within reached closed : Bool)
    → option_map core_finished (if spent then Some (spent_at budget) else None) ≡ finish_on budget count spent false end within reached closed
spent-away budget count true end within reached closed = refl
spent-away budget count false end within reached closed = refl

and-if : (a b : Bool) → (if a then b else false) ≡ (true && (a && b))
and-if true b = refl
and-if false b = refl

module _ (input : List ℕ) (limit : ℕ) where
  -- a slot's finish is that of the track that it stands for
  pub finish-slot : (b : Settings) (base : ℕ) (x : Slot) (home : Bool) (t : CoreTrack MachineState) → SlotStands input limit x home t → IsOwnEnd (track_point (rv32 input) t).end
      → option_map core_finished (slot_finish b.budget base x) ≡ finish_test (rv32 input) b base home t
  finish-slot b base (Away own) home t h own_end =
      rw h.away (spent-away b.budget (base + t.own) (nat_le b.budget base) (track_point (rv32 input) t).end (nat_le t.own (b.budget - base)) (nat_le (b.budget - base) t.own) (is_kind t.kind Normal && at_boundary (rv32 input) t))
  finish-slot b base (Home x) home t h own_end =
      let v = view_of x in
      let left : ℕ = b.budget - base in
      let test : Bool → ℕ → Option End → Kind → Bool → Option (CoreFinished End) = λ here own end kind boundary.
      finish_on b.budget (base + own) (nat_le b.budget base) here end (nat_le own left) (nat_le left own) (is_kind kind Normal && boundary) in
      let ended : IsOwnEnd v.end = subst IsOwnEnd (end-home input limit x home t h) own_end in
      let here : option_map core_finished (slot_finish b.budget base (Home x)) ≡ test true v.own v.end v.kind (is_at_boundary v) =
      spent-or b.budget (base + v.own) (nat_le b.budget base) v.end (nat_le v.own left) (nat_le left v.own) (is_kind v.kind Normal && is_at_boundary v) (track_finish b.budget base v)
      (finish-by b.budget (base + v.own) (is_at_boundary v) v.end _ (is_kind v.kind Normal) (nat_le v.own left) (nat_le left v.own) ended (boundary-unended v) (past-reached v.own left)) in
      here
      ∙ ap (λ (t : Bool). test t v.own v.end v.kind (is_at_boundary v)) (sym h.here)
      ∙ ap (λ (n : ℕ). test home n v.end v.kind (is_at_boundary v)) (sym (own-home input limit x home t h))
      ∙ ap (λ (e : Option End). test home t.own e v.kind (is_at_boundary v)) (sym (end-home input limit x home t h))
      ∙ ap (λ (k : Kind). test home t.own (track_point (rv32 input) t).end k (is_at_boundary v)) (sym (kind-home input limit x home t h))
      ∙ ap (λ (q : Bool). test home t.own (track_point (rv32 input) t).end t.kind q) (sym (boundary-home input limit x home t h))

  -- whether a track of this kind is at home at its boundary
  pub boundary-slot : (kind : Kind) (x : Slot) (home : Bool) (t : CoreTrack MachineState) → SlotStands input limit x home t
      → slot_at_boundary kind x ≡ (home && (is_kind t.kind kind && at_boundary (rv32 input) t))
  boundary-slot kind (Away own) home t h = rw h.away refl
  boundary-slot kind (Home x) home t h =
      let v = view_of x in
      ap (λ (q : Bool). if is_kind v.kind kind then q else false) (is_boundary-by (is_at_boundary v) v.end _)
      ∙ and-if (is_kind v.kind kind) (is_at_boundary v)
      ∙ ap (λ (p : Bool). p && (is_kind v.kind kind && is_at_boundary v)) (sym h.here)
      ∙ ap (λ (k : Kind). home && (is_kind k kind && is_at_boundary v)) (sym (kind-home input limit x home t h))
      ∙ ap (λ (q : Bool). home && (is_kind t.kind kind && q)) (sym (boundary-home input limit x home t h))

  -- ---- regions

  pub front-slot : (c : GuestCore) (ns : List (LiveNode Region)) (rs : List (CoreRegion MachineState)) (lead : Slot)
      → RegionsStand input limit (home_at c) ns rs → SlotStands input limit lead (lead_home c) c.lead
      → SlotStands input limit (front_slot ns lead) (at_home c (front_name c rs)) (front_of rs c.lead)
  front-slot c [] [] lead h l = l
  front-slot c (n ∷ ns) (r ∷ rs) lead h l = h.0.normal
  front-slot c [] (r ∷ rs) lead h l = absurd h
  front-slot c (n ∷ ns) [] lead h l = absurd h

  pub regions-count : (home : ℕ → Bool) (ns : List (LiveNode Region)) (rs : List (CoreRegion MachineState)) → RegionsStand input limit home ns rs → length ns ≡ length rs
  regions-count home [] [] h = refl
  regions-count home (n ∷ ns) (r ∷ rs) h = ap (λ (k : ℕ). suc k) (regions-count home ns rs h.1)
  regions-count home [] (r ∷ rs) h = absurd h
  regions-count home (n ∷ ns) [] h = absurd h

  -- ---- judgement

  seen-by_stop : (own : ℕ) (boundary : Bool) (e : Option End) (spent : Bool) → (boundary ≡ true → e ≡ None) → seen_by_stop own (stop_by boundary e spent) ≡ seen_lead own e
  seen-by_stop own true None spent none = refl
  seen-by_stop own true (Some e) spent none = absurd (let no : Some e ≡ None = none refl in cc)
  seen-by_stop own false (Some e) spent none = refl
  seen-by_stop own false None true none = refl
  seen-by_stop own false None false none = refl

  seen-lead : (lead : Slot) (home : Bool) (t : CoreTrack MachineState) → SlotStands input limit lead home t → (home ≡ false → (track_point (rv32 input) t).end ≡ None)
      → seen_slot lead ≡ seen_lead t.own (track_point (rv32 input) t).end
  seen-lead (Home x) home t h away =
      let v = view_of x in
      seen-by_stop v.own (is_at_boundary v) v.end _ (boundary-unended v)
      ∙ ap (λ (n : ℕ). seen_lead n v.end) (sym (own-home input limit x home t h))
      ∙ ap (seen_lead t.own) (sym (end-home input limit x home t h))
  seen-lead (Away own) home t h away =
      let e : seen_lead t.own (track_point (rv32 input) t).end ≡ Running t.own = ap (seen_lead t.own) (away h.away) in
      ap Running h.count ∙ sym e

  pub seen-fast : (fast : FastVersion) (part : Part MachineState) (s : MachineState) (lead : Slot) (home : Bool) (t : CoreTrack MachineState)
      → core_fast fast ≡ part → SlotStands input limit lead home t → (part ≡ CoreOpen → home ≡ false → (track_point (rv32 input) t).end ≡ None)
      → seen_fast fast s lead ≡ seen (rv32 input) part s t
  seen-fast Open part s lead home t is h away =
      seen-lead lead home t h (away (sym is)) ∙ ap (λ (p : Part MachineState). seen (rv32 input) p s t) is
  seen-fast (Closed steps end) part s lead home t is h away = ap (λ (p : Part MachineState). seen (rv32 input) p s t) is

  -- what the code finds is what is judged
  abbrev pub IsJudgedAs : Option (Judged Difference) → Option (CoreJudgement MachineState Difference) → Type 0
  IsJudgedAs None None = Unit {0}
  IsJudgedAs (Some j) (Some v) = j ≡ v.judged
  IsJudgedAs _ _ = ⊥

  judged-by : (r : CoreRegion MachineState) (rs : List (CoreRegion MachineState)) (due : Bool) (j : Option (Judged Difference)) → IsJudgedAs (if due then j else None) (judgement r rs due j)
  judged-by r rs false j = tt
  judged-by r rs true None = tt
  judged-by r rs true (Some j) = refl

  judged-away : (r : CoreRegion MachineState) (rs : List (CoreRegion MachineState)) (j : Option (Judged Difference)) → IsJudgedAs None (judgement r rs false j)
  judged-away r rs j = tt

  judged-region : (n : Region) (r : CoreRegion MachineState) (rs : List (CoreRegion MachineState)) (lead : Slot) (home leads : Bool) (t : CoreTrack MachineState)
      → SlotStands input limit n.normal home r.normal → core_fast n.fast ≡ r.part → SlotStands input limit lead leads t → (r.part ≡ CoreOpen → leads ≡ false → (track_point (rv32 input) t).end ≡ None)
      → IsJudgedAs (judged_slot n.normal n.fast lead) (judgement r rs (home && at_boundary (rv32 input) r.normal) (judge r.normal.own (seen (rv32 input) r.part (track_point (rv32 input) r.normal).state t)))
  judged-region n r rs lead home leads t h fast l away = by-slot n.normal h
    where
      j : Option (Judged Difference)
      j = judge r.normal.own (seen (rv32 input) r.part (track_point (rv32 input) r.normal).state t)

      by-slot : (x : Slot) → SlotStands input limit x home r.normal → IsJudgedAs (judged_slot x n.fast lead) (judgement r rs (home && at_boundary (rv32 input) r.normal) j)
      by-slot (Away own) s = subst (λ (q : Bool). IsJudgedAs None (judgement r rs (q && at_boundary (rv32 input) r.normal) j)) (sym s.away) tt
      by-slot (Home x) s =
          let v = view_of x in
          let own-same : judge v.own (seen_fast n.fast v.state lead) ≡ j =
          ap (λ (k : ℕ). judge k (seen_fast n.fast v.state lead)) (sym (own-home input limit x home r.normal s))
          ∙ ap (λ (u : MachineState). judge r.normal.own (seen_fast n.fast u lead)) (sym (state-home input limit x home r.normal s))
          ∙ ap (judge r.normal.own) (seen-fast n.fast r.part (track_point (rv32 input) r.normal).state lead leads t fast l away) in
          let due-same : is_boundary (stop_of v) ≡ (home && at_boundary (rv32 input) r.normal) =
          is_boundary-by (is_at_boundary v) v.end _
          ∙ ap (λ (q : Bool). q && is_at_boundary v) (sym s.here)
          ∙ ap (λ (q : Bool). home && q) (sym (boundary-home input limit x home r.normal s)) in
          subst (λ (o : Option (Judged Difference)). IsJudgedAs (if is_boundary (stop_of v) then o else None) (judgement r rs (home && at_boundary (rv32 input) r.normal) j)) (sym own-same)
          (subst (λ (q : Bool). IsJudgedAs (if q then j else None) (judgement r rs (home && at_boundary (rv32 input) r.normal) j)) (sym due-same) (judged-by r rs (home && at_boundary (rv32 input) r.normal) j))

  pub judged-regions : (c : GuestCore) (ns : List (LiveNode Region)) (rs : List (CoreRegion MachineState)) (lead : Slot) → c.regions ≡ rs
      → RegionsStand input limit (home_at c) ns rs → SlotStands input limit lead (lead_home c) c.lead
      → ((r : CoreRegion MachineState) (more : List (CoreRegion MachineState)) → rs ≡ r ∷ more → r.part ≡ CoreOpen → lead_home c ≡ false → (track_point (rv32 input) c.lead).end ≡ None)
      → IsJudgedAs (judged_first ns lead) (verdict_due (rv32 input) c rs)
  judged-regions c [] [] lead is h l away = tt
  judged-regions c (n ∷ ns) (r ∷ rs) lead is h l away =
      let front : at_home c (front_name c c.regions) ≡ home_at c r.number = ap (λ (x : List (CoreRegion MachineState)). at_home c (front_name c x)) is in
      subst (λ (q : Bool). IsJudgedAs (judged_first (n ∷ ns) lead) (judgement r rs (q && at_boundary (rv32 input) r.normal) (judge r.normal.own (seen (rv32 input) r.part (track_point (rv32 input) r.normal).state c.lead)))) (sym front)
      (judged-region n.value r rs lead (home_at c r.number) (lead_home c) c.lead h.0.normal h.0.fast l (away r rs refl))
  judged-regions c [] (r ∷ rs) lead is h l away = absurd h
  judged-regions c (n ∷ ns) [] lead is h l away = absurd h
