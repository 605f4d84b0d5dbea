use Rattle.std.proofs.Common.{◌≡◌, sym, ◌∙◌, arith}
use Rattle.std.proofs.lemmas.Fmt.{decimal_injective}
use Rattle.state_listing.proofs.words.read_number.Goals as goal
use Rattle.state_listing.proofs.words.read_number.Goals.{else-number-least-via-then-number-least+else-number-greatest, else-number-least-via-else-number-least}

pub returns-else-number-least : goal.returns-else-number-least
returns-else-number-least c = λ v fits is.
    let same : v ≡ c.in_ok-number.number = decimal_injective v c.in_ok-number.number (omega (arith, fits.high)) c.in_ok-number.ensures.0 (is ∙ sym c.in_ok-number.ensures.1) in
    elim c.else-number-least.branch [
      | else-number-least-via-then-number-least+else-number-greatest w ↦ absurd (omega (arith, fits.high))
      | else-number-least-via-else-number-least w ↦ absurd (omega (arith, fits.low))
    ]
