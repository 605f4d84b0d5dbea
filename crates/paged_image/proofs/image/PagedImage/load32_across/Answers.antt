use Rattle.std.proofs.Common.{Some, ap, sym, ◌∙◌}
use Rattle.std.specs.Int.{w32}
use Rattle.guest_model.proofs.OnByteMap.{load-mapped, load-unmapped}
use Rattle.paged_image.specs.Image.{content}
use Rattle.paged_image.proofs.image.PagedImage.load32_across.Goals as goal

pub returns-then-fill : goal.returns-then-fill
returns-then-fill c =
    let copied = c.if-fill.ensures in
    ap Some c.from_le_bytes.ensures ∙ sym (load-mapped w32 (content c.args.self.now) c.args.a c.fill.new.into copied.0 (sym copied.1))

pub returns-else-fill : goal.returns-else-fill
returns-else-fill c =
    let copied = c.if-fill.ensures in
    sym (load-unmapped w32 (content c.args.self.now) c.args.a copied.0)
