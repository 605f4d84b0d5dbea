use Rattle.paged_image.specs.Image.{content}
use Rattle.track_state.specs.Quiet.{QuietRegisters}
use Rattle.track_state.proofs.quiet.run_on_page.Given as goal

abbrev pub invariant-loop-taken : goal.invariant-loop-taken
invariant-loop-taken l = QuietRegisters (content l.memory) l.fn.regs l.taken l.regs
