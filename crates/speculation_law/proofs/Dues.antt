-- Due events taken apart.
use Rattle.std.proofs.Common.{◌≡◌, ℕ, ◌<◌, Bool, true, false, not, ◌&&◌, if◌then◌else◌, List, [], ◌∷◌, Option, Some, None, length, nat_lt, nat_le, refl, subst, ltb-true, le-leb, leb-false, arith}
use Rattle.std.proofs.lemmas.Bool.{and_parts}
use Rattle.speculation.specs.declared.tracks.Kind.TheVariants.{Fast, Segment}
use Rattle.speculation.specs.declared.history.Settings.{Settings}
use Rattle.speculation.specs.Machine.{Machine}
use Rattle.speculation.specs.Verdicts.{Judged, judge}
use Rattle.speculation.specs.Core.{Core, Region, Finished, over, front, front_home, lead_home, track_point, at_boundary, is_kind, most_held}
use Rattle.speculation.specs.Due.{Judgement, Finishing, Crossing, Judging, Forking, finish_by, finish_test, cross_test, seen, judgement, verdict_due, fork_test, choose, due}
use Rattle.speculation_law.proofs.Names.{kind-fast, kind-segment}

-- what each kind of event that is chosen says

pub record ChosenFinish {E : Type 0} (o : Bool) (f : Option (Finished E)) (x : Finished E) : Type 0 where
  pub live : o ≡ false
  pub finish : f ≡ Some x

pub choose-finishing : {S E D : Type 0} (o : Bool) (f : Option (Finished E)) (cross : Bool) (j : Option (Judgement S D)) (fork : Bool) (x : Finished E)
    → choose o f cross j fork ≡ Some (Finishing x) → ChosenFinish o f x
choose-finishing true f cross j fork x h = absurd (cc)
choose-finishing false (Some y) cross j fork x h = record { live = refl; finish = cc }
choose-finishing false None true j fork x h = absurd (cc)
choose-finishing false None false (Some v) fork x h = absurd (cc)
choose-finishing false None false None true x h = absurd (cc)
choose-finishing false None false None false x h = absurd (cc)

pub record ChosenCross {E : Type 0} (o : Bool) (f : Option (Finished E)) (cross : Bool) : Type 0 where
  pub live : o ≡ false
  pub unfinished : f ≡ None
  pub crosses : cross ≡ true

pub choose-crossing : {S E D : Type 0} (o : Bool) (f : Option (Finished E)) (cross : Bool) (j : Option (Judgement S D)) (fork : Bool)
    → choose o f cross j fork ≡ Some Crossing → ChosenCross o f cross
choose-crossing true f cross j fork h = absurd (cc)
choose-crossing false (Some y) cross j fork h = absurd (cc)
choose-crossing false None true j fork h = record { live = refl; unfinished = refl; crosses = refl }
choose-crossing false None false (Some v) fork h = absurd (cc)
choose-crossing false None false None true h = absurd (cc)
choose-crossing false None false None false h = absurd (cc)

pub record ChosenJudgement {S E D : Type 0} (o : Bool) (f : Option (Finished E)) (cross : Bool) (j : Option (Judgement S D)) (v : Judgement S D) : Type 0 where
  pub live : o ≡ false
  pub unfinished : f ≡ None
  pub uncrossed : cross ≡ false
  pub judged : j ≡ Some v

pub choose-judging : {S E D : Type 0} (o : Bool) (f : Option (Finished E)) (cross : Bool) (j : Option (Judgement S D)) (fork : Bool) (v : Judgement S D)
    → choose o f cross j fork ≡ Some (Judging v) → ChosenJudgement o f cross j v
choose-judging true f cross j fork v h = absurd (cc)
choose-judging false (Some y) cross j fork v h = absurd (cc)
choose-judging false None true j fork v h = absurd (cc)
choose-judging false None false (Some w) fork v h = record { live = refl; unfinished = refl; uncrossed = refl; judged = cc }
choose-judging false None false None true v h = absurd (cc)
choose-judging false None false None false v h = absurd (cc)

pub record ChosenFork {E : Type 0} (o : Bool) (f : Option (Finished E)) (cross fork : Bool) : Type 0 where
  pub live : o ≡ false
  pub unfinished : f ≡ None
  pub uncrossed : cross ≡ false
  pub forks : fork ≡ true

pub choose-forking : {S E D : Type 0} (o : Bool) (f : Option (Finished E)) (cross : Bool) (j : Option (Judgement S D)) (fork : Bool)
    → choose o f cross j fork ≡ Some Forking → ChosenFork o f cross fork
choose-forking true f cross j fork h = absurd (cc)
choose-forking false (Some y) cross j fork h = absurd (cc)
choose-forking false None true j fork h = absurd (cc)
choose-forking false None false (Some w) fork h = absurd (cc)
choose-forking false None false None true h = record { live = refl; unfinished = refl; uncrossed = refl; forks = refl }
choose-forking false None false None false h = absurd (cc)

-- Finish

-- the cases in which there is a finish, with what it is
pub data FinishCase {E : Type 0} (budget count : ℕ) (spent home : Bool) (end : Option E) (within reached closed : Bool) (f : Finished E) : Type 0 where
  IsSpent : spent ≡ true → record { end = None; count = budget } ≡ f → FinishCase budget count spent home end within reached closed f
  IsEnded : (e : E) → spent ≡ false → home ≡ true → end ≡ Some e → within ≡ true → record { end = Some e; count = count } ≡ f → FinishCase budget count spent home end within reached closed f
  IsPast : spent ≡ false → home ≡ true → within ≡ false → record { end = None; count = budget } ≡ f → FinishCase budget count spent home end within reached closed f
  IsReached : spent ≡ false → home ≡ true → end ≡ None → within ≡ true → reached ≡ true → closed ≡ false → record { end = None; count = budget } ≡ f → FinishCase budget count spent home end within reached closed f

-- the finish by what the conditions are made of: `within` and `reached`, the front's own count is at most and at least what
-- is left of the budget; `closed`, it is an original at its boundary
abbrev pub finish_on : {E : Type 0} → (budget count : ℕ) → (spent home : Bool) → Option E → (within reached closed : Bool) → Option (Finished E)
finish_on budget count spent home end within reached closed =
    finish_by budget count spent (if home && within then end else None) (home && (reached && not (closed && within)))

pub finish_on-case : {E : Type 0} (budget count : ℕ) (spent home : Bool) (end : Option E) (within reached closed : Bool) (f : Finished E)
    → finish_on budget count spent home end within reached closed ≡ Some f → FinishCase budget count spent home end within reached closed f
finish_on-case budget count true home end within reached closed f h = IsSpent refl (cc)
finish_on-case budget count false false end within reached closed f h = absurd (cc)
finish_on-case budget count false true (Some e) true reached closed f h = IsEnded e refl refl refl refl (cc)
finish_on-case budget count false true None true true false f h = IsReached refl refl refl refl refl refl (cc)
finish_on-case budget count false true None true true true f h = absurd (cc)
finish_on-case budget count false true None true false closed f h = absurd (cc)
finish_on-case budget count false true end false true false f h = IsPast refl refl refl (cc)
finish_on-case budget count false true end false true true f h = IsPast refl refl refl (cc)
finish_on-case budget count false true end false false closed f h = absurd (cc)

-- a count that isn't within what is left reached it
pub past-reached : (own left : ℕ) → nat_le own left ≡ false → nat_le left own ≡ true
past-reached own left h = (let past = leb-false own left h in le-leb left own (omega arith))

-- where there is no finish, the budget isn't spent
pub finish_on-unspent : {E : Type 0} (budget count : ℕ) (spent home : Bool) (end : Option E) (within reached closed : Bool)
    → finish_on budget count spent home end within reached closed ≡ None → spent ≡ false
finish_on-unspent budget count true home end within reached closed h = absurd (cc)
finish_on-unspent budget count false home end within reached closed h = refl

-- and a front at home that met no end is within the budget
pub data Unfinished (within reached closed : Bool) : Type 0 where
  Below : reached ≡ false → Unfinished within reached closed
  AtBoundary : within ≡ true → closed ≡ true → Unfinished within reached closed

pub finish_on-none : {E : Type 0} (budget count : ℕ) (home : Bool) (end : Option E) (within reached closed : Bool) → home ≡ true → end ≡ None
    → finish_on budget count false home end within reached closed ≡ None → Unfinished within reached closed
finish_on-none budget count false end within reached closed p q h = absurd (cc)
finish_on-none budget count true (Some e) within reached closed p q h = absurd (cc)
finish_on-none budget count true None within false closed p q h = Below refl
finish_on-none budget count true None false true false p q h = absurd (cc)
finish_on-none budget count true None false true true p q h = absurd (cc)
finish_on-none budget count true None true true false p q h = absurd (cc)
finish_on-none budget count true None true true true p q h = AtBoundary refl refl

-- Judgements

pub record IsJudged {S E D : Type 0} (m : Machine S E D) (c : Core S E D) (regions : List (Region S)) (v : Judgement S D) : Type 0 where
  pub open_regions : regions ≡ v.region ∷ v.younger
  pub home : front_home c ≡ true
  pub boundary : at_boundary m v.region.normal ≡ true
  pub answer : judge v.region.normal.own (seen m v.region.part (track_point m v.region.normal).state c.lead) ≡ Some v.judged

judgement-some : {S E D : Type 0} (m : Machine S E D) (c : Core S E D) (r : Region S) (rs : List (Region S)) (t : Bool) (o : Option (Judged D)) (v : Judgement S D)
    → (front_home c && at_boundary m r.normal) ≡ t → judge r.normal.own (seen m r.part (track_point m r.normal).state c.lead) ≡ o → judgement r rs t o ≡ Some v → IsJudged m c (r ∷ rs) v
judgement-some m c r rs false o v p q h = absurd (cc)
judgement-some m c r rs true None v p q h = absurd (cc)
judgement-some {S} {E} {D} m c r rs true (Some j) v p q h =
    let both = and_parts (front_home c) (at_boundary m r.normal) p in
    let is : record { region = r; younger = rs; judged = j } ≡ v = cc in
    let made : IsJudged m c (r ∷ rs) (record { region = r; younger = rs; judged = j }) = record { open_regions = refl; home = both.0; boundary = both.1; answer = q } in
    subst (λ (w : Judgement S D). IsJudged m c (r ∷ rs) w) is made

pub verdict_due-some : {S E D : Type 0} (m : Machine S E D) (c : Core S E D) (regions : List (Region S)) (v : Judgement S D) → verdict_due m c regions ≡ Some v → IsJudged m c regions v
verdict_due-some m c [] v h = absurd (cc)
verdict_due-some m c (r ∷ rs) v h =
    judgement-some m c r rs (front_home c && at_boundary m r.normal) (judge r.normal.own (seen m r.part (track_point m r.normal).state c.lead)) v refl refl h

-- Cross and Fork

pub record CrossingLead {S E D : Type 0} (m : Machine S E D) (c : Core S E D) : Type 0 where
  pub home : lead_home c ≡ true
  pub kind : c.lead.kind ≡ Fast
  pub boundary : at_boundary m c.lead ≡ true

pub cross_test-true : {S E D : Type 0} (m : Machine S E D) (c : Core S E D) → cross_test m c ≡ true → CrossingLead m c
cross_test-true m c h =
    let first = and_parts (lead_home c) (is_kind c.lead.kind Fast && at_boundary m c.lead) h in
    let second = and_parts (is_kind c.lead.kind Fast) (at_boundary m c.lead) first.1 in
    record { home = first.0; kind = kind-fast c.lead.kind second.0; boundary = second.1 }

pub record ForkingLead {S E D : Type 0} (m : Machine S E D) (b : Settings) (c : Core S E D) : Type 0 where
  pub home : lead_home c ≡ true
  pub kind : c.lead.kind ≡ Segment
  pub boundary : at_boundary m c.lead ≡ true
  pub room : length c.regions < b.tracks
  pub ready : length c.ready < most_held

pub fork_test-true : {S E D : Type 0} (m : Machine S E D) (b : Settings) (c : Core S E D) → fork_test m b c ≡ true → ForkingLead m b c
fork_test-true m b c h =
    let first = and_parts (lead_home c) (is_kind c.lead.kind Segment && (at_boundary m c.lead && (nat_lt (length c.regions) b.tracks && nat_lt (length c.ready) most_held))) h in
    let second = and_parts (is_kind c.lead.kind Segment) (at_boundary m c.lead && (nat_lt (length c.regions) b.tracks && nat_lt (length c.ready) most_held)) first.1 in
    let third = and_parts (at_boundary m c.lead) (nat_lt (length c.regions) b.tracks && nat_lt (length c.ready) most_held) second.1 in
    let fourth = and_parts (nat_lt (length c.regions) b.tracks) (nat_lt (length c.ready) most_held) third.1 in
    record { home = first.0; kind = kind-segment c.lead.kind second.0; boundary = third.0; room = ltb-true (length c.regions) b.tracks fourth.0; ready = ltb-true (length c.ready) most_held fourth.1 }

module _ {S E D : Type 0} (m : Machine S E D) (b : Settings) (c : Core S E D) where
  pub due-finishing : (f : Finished E) → due m b c ≡ Some (Finishing f) → ChosenFinish (over c) (finish_test m b c.base (front_home c) (front c)) f
  unfolding due
  due-finishing f h = choose-finishing (over c) (finish_test m b c.base (front_home c) (front c)) (cross_test m c) (verdict_due m c c.regions) (fork_test m b c) f h

  pub due-crossing : due m b c ≡ Some Crossing → ChosenCross (over c) (finish_test m b c.base (front_home c) (front c)) (cross_test m c)
  unfolding due
  due-crossing h = choose-crossing (over c) (finish_test m b c.base (front_home c) (front c)) (cross_test m c) (verdict_due m c c.regions) (fork_test m b c) h

  pub due-judging : (v : Judgement S D) → due m b c ≡ Some (Judging v) → ChosenJudgement (over c) (finish_test m b c.base (front_home c) (front c)) (cross_test m c) (verdict_due m c c.regions) v
  unfolding due
  due-judging v h = choose-judging (over c) (finish_test m b c.base (front_home c) (front c)) (cross_test m c) (verdict_due m c c.regions) (fork_test m b c) v h

  pub due-forking : due m b c ≡ Some Forking → ChosenFork (over c) (finish_test m b c.base (front_home c) (front c)) (cross_test m c) (fork_test m b c)
  unfolding due
  due-forking h = choose-forking (over c) (finish_test m b c.base (front_home c) (front c)) (cross_test m c) (verdict_due m c c.regions) (fork_test m b c) h
