use Rattle.std.proofs.Common.{Some, List, ℕ, ap, sym, ◌∙◌}
use Rattle.std.specs.Int.{w16, from_le_bytes}
use Rattle.paged_image.specs.Image.{content}
use Rattle.paged_image.proofs.OnLoads.{load-piece, two_of}
use Rattle.paged_image.proofs.image.memory.PagedImageMemory.load16.Goals as goal

pub returns-in-Some : goal.returns-in-Some
returns-in-Some c =
    let piece = c.in-Some.piece.now in
    let there = c.in-Some.ensures.some in
    ap Some c.from_le_bytes.ensures ∙ ap (λ (bs : List ℕ). Some (from_le_bytes w16 bs)) (sym (two_of piece there.count)) ∙ sym (load-piece w16 (content c.args.self.now) c.args.a piece there)
