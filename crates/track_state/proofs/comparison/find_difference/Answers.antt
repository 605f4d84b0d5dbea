use Rattle.std.proofs.Common.{Some, None, sym, ◌∙◌, arith}
use Rattle.track_state.specs.Kept.{flat_state}
use Rattle.track_state.proofs.OnComparison.{differs-in_pc, differs-in_register, differs-in_place, differs-in_break, differs-in_bytes}
use Rattle.track_state.proofs.comparison.find_difference.Goals as goal

pub returns-then-pc-clause-first : goal.returns-then-pc-clause-first
returns-then-pc-clause-first g c = differs-in_pc (flat_state c.args.a.now) (flat_state c.args.b.now) (λ e. absurd (omega (arith, c.pc.ensures.value, c.pc-2.ensures.value)))

pub returns-in-Some-clause-first : goal.returns-in-Some-clause-first
returns-in-Some-clause-first g c = differs-in_register (flat_state c.args.a.now) (flat_state c.args.b.now) (omega (arith, c.pc.ensures.value, c.pc-2.ensures.value)) c.in-Some.r c.in-Some.ensures

pub returns-then-a-b-clause-first : goal.returns-then-a-b-clause-first
returns-then-a-b-clause-first g c = differs-in_place (flat_state c.args.a.now) (flat_state c.args.b.now) (omega (arith, c.pc.ensures.value, c.pc-2.ensures.value)) (sym c.in_default.is ∙ c.register_difference.ensures) c.if-a-b.true

pub returns-then-a-b-2-clause-first : goal.returns-then-a-b-2-clause-first
returns-then-a-b-2-clause-first g c = differs-in_break (flat_state c.args.a.now) (flat_state c.args.b.now) (omega (arith, c.pc.ensures.value, c.pc-2.ensures.value)) (sym c.in_default.is ∙ c.register_difference.ensures) c.if-a-b.false c.if-a-b-2.true

pub returns-in-Some-first_difference-clause-first : goal.returns-in-Some-first_difference-clause-first
returns-in-Some-first_difference-clause-first g c = differs-in_bytes (flat_state c.args.a.now) (flat_state c.args.b.now) (omega (arith, c.pc.ensures.value, c.pc-2.ensures.value)) (sym c.in_default.is ∙ c.register_difference.ensures) c.if-a-b.false c.if-a-b-2.false (Some c.in-Some-first_difference.at) (sym c.in-Some-first_difference.is ∙ c.first_difference.ensures.lowest)

pub returns-in-None-clause-first : goal.returns-in-None-clause-first
returns-in-None-clause-first g c = differs-in_bytes (flat_state c.args.a.now) (flat_state c.args.b.now) (omega (arith, c.pc.ensures.value, c.pc-2.ensures.value)) (sym c.in_default.is ∙ c.register_difference.ensures) c.if-a-b.false c.if-a-b-2.false None (sym c.in-None.is ∙ c.first_difference.ensures.lowest)
