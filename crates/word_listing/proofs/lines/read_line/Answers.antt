use Rattle.std.proofs.Common.{◌≡◌, ℕ, List, inl, subst, sym, ap, ◌∙◌}
use Rattle.word_listing.specs.Packing.{first_line, IsNoWord}
use Rattle.word_listing.proofs.TextLines.{first_line-cut, first_line-whole}
use Rattle.word_listing.proofs.lines.read_line.Goals as goal

pub returns-in-Err : goal.returns-in-Err
returns-in-Err c =
    let first : first_line c.args.text.now ≡ c.in-Some.line.now = ap first_line c.in-Some.ensures.parts ∙ first_line-cut c.in-Some.line.now c.in-Some.behind.now c.in-Some.ensures.first in
    inl (subst (λ (line : List ℕ). IsNoWord line c.in-Err.place) (sym first) c.in-Err.ensures)

pub returns-in-Err-read_word : goal.returns-in-Err-read_word
returns-in-Err-read_word c = inl (subst (λ (line : List ℕ). IsNoWord line c.in-Err-read_word.place) (sym (first_line-whole c.args.text.now c.in-None.ensures.none)) c.in-Err-read_word.ensures)
