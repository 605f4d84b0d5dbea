use Rattle.std.proofs.Common.{◌≡◌, take}
use Rattle.paged_image.specs.Commands.{contents, after}
use Rattle.paged_image.proofs.commands.run.run_commands.Given as goal

abbrev pub invariant-loop-done : goal.invariant-loop-done
invariant-loop-done l = contents l.images.items ≡ after (take l.done l.commands) (contents l.fn.images.items)
