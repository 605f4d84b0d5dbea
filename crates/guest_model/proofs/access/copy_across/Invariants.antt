use Rattle.std.proofs.Common.{◌≡◌, ℕ, ◌+◌, ◌<◌, get_or}
use Rattle.guest_model.specs.AreaMap.{areas_bytes}
use Rattle.guest_model.specs.ByteMap.{byte}
use Rattle.guest_model.proofs.access.copy_across.Given as goal

abbrev pub invariant-loop-k : goal.invariant-loop-k
invariant-loop-k l = (j : ℕ) → j < l.k → get_or l.into j 0 ≡ byte (areas_bytes l.areas) (l.a + j)
