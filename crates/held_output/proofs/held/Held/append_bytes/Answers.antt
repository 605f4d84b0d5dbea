use Rattle.std.proofs.Common.{◌≡◌, ◌++◌, List, take, ap, ◌∙◌, sym, subst, arith}
use Rattle.std.specs.Result.{OnOk}
use Rattle.speculation.specs.Run.{Mark, marks, marks_upto}
use Rattle.speculation.specs.Core.{held_size}
use Rattle.held_output.proofs.OnHeld.{held_size-take, marks-taken_upto}
use Rattle.held_output.proofs.held.Held.append_bytes.Goals as goal

pub append-requires-clause-fits : goal.append-requires-clause-fits
append-requires-clause-fits c = omega (arith, ap (λ ps. held_size (take c.count_upto.result ps)) c.deref.ensures.value, held_size-take c.count_upto.result c.self.inside.pieces.items, c.self.invariant.0.fits)

pub returns-clause-ok : goal.returns-clause-ok
returns-clause-ok c =
    let same =
    ap (λ ps. marks (take c.count_upto.result ps)) (c.deref.ensures.value ∙ sym c.deref-2.ensures.value) ∙ ap marks c.count_upto.ensures.parted.0
    ∙ marks-taken_upto c.args.limit c.deref-2.result.now ∙ ap (marks_upto c.args.limit) (c.deref-2.ensures.value ∙ c.self.view_is) in
    subst (λ (ms : List Mark). OnOk c.append.result (c.append.new.self ≡ c.args.into.now ++ ms)) same c.append.ensures.ok
