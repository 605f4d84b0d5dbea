use Rattle.std.proofs.Common.{string_bytes}
use Rattle.report_text.proofs.OnStates.{text-byte}
use Rattle.report_text.proofs.byte.write_digits.Goals as goal

pub loop-byte-preserved : goal.loop-byte-preserved
loop-byte-preserved c =
    text-byte c.args.bytes.now c.loop-byte.byte-index (string_bytes c.args.text.now) (string_bytes c.loop-byte.text) (string_bytes c.write.new.self) c.loop-byte-test.true c.loop-byte.invariant c.in_ok-write.ensures.bytes
