use Rattle.std.proofs.Common.{◌≡◌, ℕ, ◌+◌, ◌<◌, true, is_some}
use Rattle.guest_model.specs.AreaMap.{areas_bytes}
use Rattle.guest_model.proofs.access.mapped_across.Given as goal

abbrev pub invariant-loop-k : goal.invariant-loop-k
invariant-loop-k l = (j : ℕ) → j < l.k → is_some (areas_bytes l.areas (l.a + j)) ≡ true
