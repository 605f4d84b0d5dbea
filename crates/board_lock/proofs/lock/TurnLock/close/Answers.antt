use Rattle.std.proofs.Common.{rules, ◌≡◌, Some, subst, sym, ap, ◌∙◌}
use mathlib.Core.Option.{some-injective}
use Rattle.board_lock.specs.Passes.{ExtendsPass}
use Rattle.board_lock.proofs.Views.{get_or_at}
use Rattle.board_lock.proofs.Resting.{poised_idle}
use Rattle.board_lock.proofs.Turning.{ends, ends_alone}
use Rattle.board_lock.proofs.lock.TurnLock.close.Goals as goal

pub unwrap-requires : goal.unwrap-requires
unwrap-requires g c =
    let equal = get_or_at _ 0 _ c.word-drawn.ensures ∙ (c.if-drawn-served.false ∙ sym (get_or_at _ 1 _ c.word-served.ensures)) in
    let end = ends g.T.Kept.fixed g.T.Kept.entries g.T.Kept.belongs (g.T.Kept.fixed c.self.inside.table.shared.key.value) _ _ _ _ c.close_with-closed.ensures.values.2 equal in
    let is : c.take-value.result ≡ Some end.0 = some-injective _ _ (sym c.take-value.ensures.value ∙ end.1) in
    rw is (search rules)

pub returns-clause-ok : goal.returns-clause-ok
returns-clause-ok g c =
    let equal = get_or_at _ 0 _ c.word-drawn.ensures ∙ (c.if-drawn-served.false ∙ sym (get_or_at _ 1 _ c.word-served.ensures)) in
    let end = ends g.T.Kept.fixed g.T.Kept.entries g.T.Kept.belongs (g.T.Kept.fixed c.self.inside.table.shared.key.value) _ _ _ _ c.close_with-closed.ensures.values.2 equal in
    let both : Some end.0 ≡ Some c.unwrap.result = some-injective _ _ (sym end.1 ∙ c.take-value.ensures.value) ∙ c.unwrap.ensures in
    let is : end.0 ≡ c.unwrap.result = cc in
    subst (λ x. ExtendsPass g.T.Kept.fixed g.T.Kept.entries g.T.Kept.belongs c.args.pass x) is (subst (λ p. ExtendsPass g.T.Kept.fixed g.T.Kept.entries g.T.Kept.belongs p end.0) c.pass.view_is end.2)

pub returns-then-drawn-served-clause-alone : goal.returns-then-drawn-served-clause-alone
returns-then-drawn-served-clause-alone g c = λ first whole.
    let rests = poised_idle _ _ (ap (λ p. p.in_turn) c.pass.view_is ∙ c.requires.idle) c.pass.invariant.3 in
    let equal = ends_alone g.T.Kept.fixed g.T.Kept.entries g.T.Kept.belongs (g.T.Kept.fixed c.self.inside.table.shared.key.value) _ _ _ _ c.close_with-closed.ensures.values.2 rests.0
    (ap (λ p. p.seat) c.pass.view_is ∙ first) (ap (λ p. p.stock) c.pass.view_is ∙ whole) in
    absurd (c.if-drawn-served.true (sym (get_or_at _ 0 _ c.word-drawn.ensures) ∙ (equal ∙ get_or_at _ 1 _ c.word-served.ensures)))
