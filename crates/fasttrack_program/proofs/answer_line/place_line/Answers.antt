use Rattle.std.proofs.Common.{Some, [], ◌∷◌, ◌++◌, sym, ap, ◌∙◌, append_assoc}
use Rattle.std.specs.Prelude.{codes, decimal}
use Rattle.fasttrack_program.proofs.answer_line.place_line.Goals as goal

pub returns : goal.returns
returns c =
    let at = c.args.at in
    ap Some (ap (λ xs. codes "fasttrack: bad text: line " ++ xs) (append_assoc (decimal at.line) (codes " place " ++ decimal at.place) (10 ∷ [])) ∙ sym c.in_ok-format.ensures.ok)
