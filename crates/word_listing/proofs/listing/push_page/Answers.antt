use Rattle.std.proofs.Common.{◌≡◌, ℕ, ◌+◌, ◌*◌, ◌/◌, List, [], ◌++◌, get_or, take, drop, string_bytes, length, sym, ap, ◌∙◌, append-nil, arith}
use Rattle.std.specs.Int.{w32, from_le_bytes}
use Rattle.word_listing.specs.Listing.{joined, line_unless_zero}
use Rattle.word_listing.specs.Pieces.{word_in}
use Rattle.word_listing.proofs.Areas.{get_or-first_chunks}
use Rattle.word_listing.proofs.Pages.{words-more, line-nonzero, line-zero}
use Rattle.word_listing.proofs.listing.push_page.Goals as goal
use Rattle.word_listing.proofs.listing.push_page.Goals.{then-word-ne0+in_ok-push_line, else-word-ne0}

pub loop-index-init : goal.loop-index-init
unfolding joined
loop-index-init c = sym (append-nil (string_bytes c.args.lines.now))

pub loop-index-preserved : goal.loop-index-preserved
loop-index-preserved c =
    let page = c.args.page.now in
    let k = c.loop-index.index in
    let word = c.from_le_bytes-word.result in
    let address = c.args.base + 4 * k in
    let piece : get_or c.as_chunks.result.0.now k [] ≡ take 4 (drop (4 * k) page) =
    ap (λ (pieces : List (List ℕ)). get_or pieces k []) c.as_chunks.ensures.front ∙ get_or-first_chunks (length page / 4) page k [] (omega arith) in
    let is : word_in page k ≡ word = sym (c.from_le_bytes-word.ensures ∙ ap (λ (bytes : List ℕ). from_le_bytes w32 bytes) piece) in
    let added : string_bytes c.if-word-ne0.lines ≡ string_bytes c.loop-index.lines ++ line_unless_zero address word =
    elim c.if-word-ne0.branch [
      | then-word-ne0+in_ok-push_line w ↦ ap string_bytes w.lines-is ∙ w.in_ok-push_line.ensures ∙ ap (λ (t : List ℕ). string_bytes c.loop-index.lines ++ t) (sym (line-nonzero address word w.if-word-ne0.true))
      | else-word-ne0 w ↦ ap string_bytes w.lines-is ∙ sym (append-nil (string_bytes c.loop-index.lines)) ∙ ap (λ (t : List ℕ). string_bytes c.loop-index.lines ++ t) (sym (line-zero address word w.if-word-ne0.false))
    ] in
    words-more c.args.base page k word (string_bytes c.args.lines.now) (string_bytes c.loop-index.lines) (string_bytes c.if-word-ne0.lines) is c.loop-index.invariant added
