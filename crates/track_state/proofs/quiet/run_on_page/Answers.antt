use Rattle.paged_image.specs.Image.{content}
use Rattle.track_state.proofs.OnQuiet.{quiet-more}
use Rattle.track_state.proofs.quiet.run_on_page.Goals as goal

pub returns-in-Ends-clause-ran : goal.returns-in-Ends-clause-ran
returns-in-Ends-clause-ran c = λ input place heap. rw (c.in-Ends.ensures place heap).2 (c.loop-taken.invariant input place heap)

pub returns-in-Other-clause-ran : goal.returns-in-Other-clause-ran
returns-in-Other-clause-ran c = λ input place heap. rw (c.in-Other.ensures place heap).1 (c.loop-taken.invariant input place heap)

pub returns-in-Other-clause-next : goal.returns-in-Other-clause-next
returns-in-Other-clause-next c = λ place heap. let h = c.in-Other.ensures place heap in rw h.1 h.0

pub loop-taken-preserved : goal.loop-taken-preserved
loop-taken-preserved c = quiet-more (content c.args.memory.now) c.args.regs.now c.loop-taken.regs c.step_decoded.new.regs c.loop-taken.taken c.loop-taken.invariant c.in-Next.ensures
