use Rattle.std.proofs.Common.{◌∙◌, ap, arith}
use Rattle.paged_image.specs.Commands.{contents}
use Rattle.paged_image.proofs.OnFaces.{on_err_always}
use Rattle.paged_image.proofs.OnCommands.{contents-no_copy, contents-same, contents-copied}
use Rattle.paged_image.proofs.commands.run.snapshot_of.Goals as goal

pub returns-then-image-len-clause-ok : goal.returns-then-image-len-clause-ok
returns-then-image-len-clause-ok c = contents-no_copy c.args.images.now.items c.args.image (omega arith)

pub returns-in_err-copy-clause-err : goal.returns-in_err-copy-clause-err
returns-in_err-copy-clause-err c =
    on_err_always c.from_residual.result _
    (contents-same c.args.images.now.items c.args.image c.index_mut-target.result.now c.snapshot.new.self (omega arith) c.index_mut-target.ensures.value c.snapshot.ensures.content)

pub returns-in_err-push-clause-err : goal.returns-in_err-push-clause-err
returns-in_err-push-clause-err c =
    on_err_always c.from_residual-in_err-push.result _
    (ap contents c.in_err-push.ensures.items
    ∙ contents-same c.args.images.now.items c.args.image c.index_mut-target.result.now c.snapshot.new.self (omega arith) c.index_mut-target.ensures.value c.snapshot.ensures.content)

pub returns-clause-ok : goal.returns-clause-ok
returns-clause-ok c =
    ap contents c.in_ok-push.ensures.items
    ∙ contents-copied c.args.images.now.items c.args.image c.index_mut-target.result.now c.snapshot.new.self (omega arith) c.index_mut-target.ensures.value c.in_ok-copy.copy
    c.snapshot.ensures.content c.in_ok-copy.ensures.ok.0
