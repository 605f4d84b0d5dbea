use Rattle.rv32_step.proofs.one_step.step.Goals as goal

pub step_other-requires-clause-here : goal.step_other-requires-clause-here
step_other-requires-clause-here g c =
    let h = c.in-Other.ensures c.args.state.now.place c.args.state.now.heap in rw h.1 h.0

pub returns-in-Next-clause-means : goal.returns-in-Next-clause-means
returns-in-Next-clause-means g c =
    (c.in-Next.ensures c.args.state.now.place c.args.state.now.heap).0 c.args.fast c.args.input.now

pub returns-in-Ends-clause-means : goal.returns-in-Ends-clause-means
returns-in-Ends-clause-means g c =
    let h = c.in-Ends.ensures c.args.state.now.place c.args.state.now.heap in
    (h.0, h.1 c.args.fast c.args.input.now, rw h.2)

pub returns-in-Other-clause-means : goal.returns-in-Other-clause-means
returns-in-Other-clause-means g c =
    let h = c.in-Other.ensures c.args.state.now.place c.args.state.now.heap in
    rw (← h.1) c.step_other.ensures.means
