-- the definitions compute
use Rattle.std.proofs.Common.{refl}
use Rattle.guest_model.proofs.laws.word_rows.Goals as goal

pub returns : goal.returns
returns c = record {
  addi = refl;
  addi_negative = refl;
  add = refl;
  branch_forward = refl;
  branch_back = refl;
  jump = refl;
  upper = refl;
  store = refl;
  load = refl;
  quotient = refl;
  fence = refl;
  fence_i = refl;
  ecall = refl;
  ebreak = refl;
  zero = refl;
}
