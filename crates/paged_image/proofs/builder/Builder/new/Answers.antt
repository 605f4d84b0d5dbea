use Rattle.std.proofs.Common.{arith}
use Rattle.paged_image.proofs.OnBuilder.{finds-nil}
use Rattle.paged_image.proofs.builder.Builder.new.Goals as goal

pub invariant_of-result : goal.invariant_of-result
invariant_of-result c =
    let index = c.in_ok-index.ensures in
    record {
      table = omega (arith, index.0);
      finds = finds-nil c.in_ok-index.index.items c.new.result.items c.new.ensures.items;
      places = λ p place h l. index.1 p place h;
    }
