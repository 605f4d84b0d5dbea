-- the definitions compute
use Rattle.std.proofs.Common.{refl}
use Rattle.guest_model.proofs.laws.value_rows.Goals as goal

pub returns : goal.returns
returns c = record {
  div_by_zero = refl;
  rem_by_zero = refl;
  div_overflow = refl;
  rem_overflow = refl;
  div_towards_zero = refl;
  mulh = refl;
  mulhsu = refl;
  mulhu = refl;
  rem_sign = refl;
  sra = refl;
  srl = refl;
}
