use Rattle.std.proofs.Common.{is_some, get_or, option_map, subst, sym, ap, ◌∙◌}
use Rattle.seniority_queue.specs.Listing.{Listing, LiveNode, younger, IsGone}
use Rattle.seniority_queue.proofs.Gone.{IsGone-through}
use Rattle.seniority_queue.proofs.Cut.{cut-step, cut-done}
use Rattle.seniority_queue.proofs.queue.Queue.cut_after.Goals as goal

pub loop-key-preserved-in-loop-key : goal.loop-key-preserved-in-loop-key
loop-key-preserved-in-loop-key g c =
    let follows = ap is_some (sym c.after.ensures.key) ∙ sym c.is_some.ensures ∙ c.loop-key-test.true in
    rw c.pop_back.ensures.popped ((cut-step c.loop-key.self c.args.key follows).0 ∙ c.loop-key.invariant)

pub loop-key-preserved : goal.loop-key-preserved
loop-key-preserved g c =
    let follows = ap is_some (sym c.after.ensures.key) ∙ sym c.is_some.ensures ∙ c.loop-key-test.true in
    rw c.pop_back.ensures.popped ((cut-step c.loop-key.self c.args.key follows).0 ∙ c.loop-key.invariant)

pub returns-clause-cut : goal.returns-clause-cut
returns-clause-cut g c =
    let alone = ap is_some (sym c.after.ensures.key) ∙ sym c.is_some.ensures ∙ c.loop-key-test.false in
    sym (cut-done c.loop-key.self c.args.key alone) ∙ c.loop-key.invariant

pub returns-clause-gone : goal.returns-clause-gone
returns-clause-gone g c = λ k d within.
    let P : Listing g.row.T.Denot → Type 0 = λ q. IsGone q (get_or (younger c.args.key c.args.self.now.nodes) k d).key in
    let gone = IsGone-through c.args.key c.args.self.now.nodes k d c.is_live.ensures.sound.indices_apart within in
    subst P (sym (returns-clause-cut g c)) (ap (option_map (λ (n : LiveNode g.row.T.Denot). n.value)) gone)
