use Rattle.std.proofs.Common.{ℕ, List, inr, subst, ◌∙◌}
use Rattle.rv32_text.specs.FaultPlace.{IsFaultPlace}
use Rattle.word_listing.proofs.lines.read_word.Goals as goal

pub returns-in-Err-read : goal.returns-in-Err-read
returns-in-Err-read c =
    let same = c.in-Ok.ensures.cases.0 in
    inr (record {
      utf8 = c.in-Ok.ensures.cases.1;
      no_word = λ w t. c.in-Err-read.ensures.err w t.fits (same ∙ t.is);
      place_is = subst (λ (line : List ℕ). IsFaultPlace line c.in-Err-read.field-0.place) same c.in-Err-read.ensures.place;
    })
