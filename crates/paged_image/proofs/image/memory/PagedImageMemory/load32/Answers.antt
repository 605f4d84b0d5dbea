use Rattle.std.proofs.Common.{Some, List, ℕ, ap, sym, ◌∙◌}
use Rattle.std.specs.Int.{w32, from_le_bytes}
use Rattle.paged_image.specs.Image.{content}
use Rattle.paged_image.proofs.OnLoads.{load-piece, four_of}
use Rattle.paged_image.proofs.image.memory.PagedImageMemory.load32.Goals as goal

pub returns-in-Some : goal.returns-in-Some
returns-in-Some c =
    let piece = c.in-Some.piece.now in
    let there = c.in-Some.ensures.some in
    ap Some c.from_le_bytes.ensures ∙ ap (λ (bs : List ℕ). Some (from_le_bytes w32 bs)) (sym (four_of piece there.count)) ∙ sym (load-piece w32 (content c.args.self.now) c.args.a piece there)
