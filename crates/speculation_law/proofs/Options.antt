-- Tests and options taken apart.
use Rattle.std.proofs.Common.{◌≡◌, Bool, true, false, Option, Some, None, is_some, is_none, refl}
use Rattle.speculation.specs.Events.{some_if}

-- what a guarded value that is there says
pub record Passed {A : Type 0} (test : Bool) (a c : A) : Type 0 where
  pub passes : test ≡ true
  pub is : a ≡ c

pub some_if-some : {A : Type 0} (test : Bool) (a c : A) → some_if test a ≡ Some c → Passed test a c
some_if-some true a c h = record { passes = refl; is = cc }
some_if-some false a c h = absurd (cc)

pub is_some-none : {A : Type 0} (o : Option A) → is_some o ≡ false → o ≡ None
is_some-none (Some a) h = absurd (cc)
is_some-none None h = refl

pub is_none-none : {A : Type 0} (o : Option A) → is_none o ≡ true → o ≡ None
is_none-none (Some a) h = absurd (cc)
is_none-none None h = refl
