use Rattle.std.proofs.Common.{inr, refl, arith}
use Rattle.byte_runs.proofs.collector.Collector.begin.Goals as goal

pub returns-clause-begun : goal.returns-clause-begun
returns-clause-begun c = inr (
  λ full. c.if-len-self.false (omega (arith, c.len.ensures, c.fits-self, full, c.args.self.now.runs.ok)),
  refl,
  (
    record { address = c.args.address; length = 1; left = c.in_ok-one_byte.field-0; right = c.in_ok-one_byte-2.field-0 },
    c.in_ok-push.ensures.items,
    refl,
    refl,
    c.in_ok-one_byte.ensures,
    c.in_ok-one_byte-2.ensures,
  ),
)
