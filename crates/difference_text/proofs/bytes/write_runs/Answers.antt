use Rattle.std.proofs.Common.{◌++◌, string_bytes, ap, ◌∙◌}
use Rattle.difference_text.specs.Found.{found_line}
use Rattle.difference_text.proofs.OnDifferences.{text-run}
use Rattle.difference_text.proofs.bytes.write_runs.Goals as goal

pub loop-run-preserved : goal.loop-run-preserved
loop-run-preserved c =
    text-run c.args.runs.now c.loop-run.run-index c.run-item.result (string_bytes c.args.text.now) (string_bytes c.loop-run.text) (string_bytes c.write_run.new.text)
    c.loop-run-test.true c.loop-run.invariant (c.in_ok-write_run.ensures ∙ ap (λ r. string_bytes c.loop-run.text ++ found_line r) c.run-item.is)
