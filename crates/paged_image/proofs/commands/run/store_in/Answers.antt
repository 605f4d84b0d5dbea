use Rattle.std.proofs.Common.{arith}
use Rattle.paged_image.specs.Image.{content}
use Rattle.paged_image.specs.Commands.{stored, bytes_of}
use Rattle.paged_image.proofs.OnCommands.{stored-mapped, stored-unmapped, contents-absent, contents-same, contents-changed}
use Rattle.paged_image.proofs.commands.run.store_in.Goals as goal

pub returns-then-image-len-clause-ok : goal.returns-then-image-len-clause-ok
returns-then-image-len-clause-ok c =
    contents-absent c.args.images.now.items c.args.image (λ m. stored m c.args.at (bytes_of c.args.value.now)) (omega arith)

pub returns-in-Ok-clause-ok : goal.returns-in-Ok-clause-ok
returns-in-Ok-clause-ok c =
    let x = c.index_mut-target.result.now in
    let y = c.store.new.image in
    let bytes = bytes_of c.args.value.now in
    contents-changed c.args.images.now.items c.args.image x y (omega arith) c.index_mut-target.ensures.value (λ m. stored m c.args.at bytes)
    (stored-mapped (content x) (content y) c.args.at bytes c.in-Ok.ensures.0 c.in-Ok.ensures.1)

pub returns-in-Err-Unmapped-clause-ok : goal.returns-in-Err-Unmapped-clause-ok
returns-in-Err-Unmapped-clause-ok c =
    let x = c.index_mut-target.result.now in
    let y = c.store.new.image in
    let bytes = bytes_of c.args.value.now in
    let said = rw c.in-Err-Unmapped.field-0-is at c.in-Err-Unmapped.ensures in
    contents-changed c.args.images.now.items c.args.image x y (omega arith) c.index_mut-target.ensures.value (λ m. stored m c.args.at bytes)
    (stored-unmapped (content x) (content y) c.args.at bytes said.0 said.1)

pub returns-in-Err-NoMemory-clause-err : goal.returns-in-Err-NoMemory-clause-err
returns-in-Err-NoMemory-clause-err c =
    let x = c.index_mut-target.result.now in
    let y = c.store.new.image in
    let said = rw c.in-Err-NoMemory.field-0-is at c.in-Err-NoMemory.ensures in
    contents-same c.args.images.now.items c.args.image x y (omega arith) c.index_mut-target.ensures.value said.2
