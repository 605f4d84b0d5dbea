-- The toy machine misses no difference.
use Rattle.std.proofs.Common.{◌≡◌, Bool, true, false, not, if◌then◌else◌, List, Some, None, nat_eq, refl, eqb-true}
use Rattle.speculation.specs.declared.toy.Instruction.{Instruction}
use Rattle.speculation.specs.declared.toy.State.{State}
use Rattle.speculation.specs.declared.toy.Difference.TheVariants.{Place, Answer, Total}
use Rattle.speculation.specs.Law.{Exact}
use Rattle.speculation.specs.Run.{fresh, go}
use Rattle.speculation.specs.Tracks.{point}
use Rattle.speculation.specs.Toy.{toy, toy_difference}
use Rattle.speculation.specs.declared.tracks.Kind.TheVariants.{Fast}

same_answer : (x y : Bool) → (if x then y else not y) ≡ true → x ≡ y
same_answer true true h = refl
same_answer true false h = absurd (cc)
same_answer false true h = absurd (cc)
same_answer false false h = refl

-- all three tests passed
record AllSame (place answer total : Bool) : Type 0 where
  same_place : place ≡ true
  same_answer : answer ≡ true
  same_total : total ≡ true

all-same : (place answer total : Bool) → (if place then (if answer then (if total then None else Some Total) else Some Answer) else Some Place) ≡ None → AllSame place answer total
all-same true true true h = record { same_place = refl; same_answer = refl; same_total = refl }
all-same true true false h = absurd (cc)
all-same true false total h = absurd (cc)
all-same false answer total h = absurd (cc)

pub toy_difference-none : (x y : State) → toy_difference x y ≡ None → x ≡ y
toy_difference-none x y h =
    let all = all-same (nat_eq x.place y.place) (if x.answer then y.answer else not y.answer) (nat_eq x.total y.total) h in
    let place : x.place ≡ y.place = eqb-true x.place y.place all.same_place in
    let answer : x.answer ≡ y.answer = same_answer x.answer y.answer all.same_answer in
    let total : x.total ≡ y.total = eqb-true x.total y.total all.same_total in
    λ i. record { place = place i; answer = answer i; total = total i }

pub exact-toy : (program : List Instruction) (start : State) → Exact (toy program) start
exact-toy program start a i k h =
    toy_difference-none (go (toy program) (fresh start) a).state (point (toy program) Fast (go (toy program) (fresh start) i).state k).state h
