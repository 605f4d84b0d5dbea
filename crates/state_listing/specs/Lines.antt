-- The lines that a text begins with, as far as they are read
use Rattle.std.specs.Prelude.{◌≡◌, ℕ, ◌≤◌, ◌⊎◌, List, length}
use Rattle.state_listing.specs.declared.request.StateRequest.{StateRequest}
use Rattle.state_listing.specs.Counts.{BeginsWith, HasNoLine}

-- The text begins with the lines of these requests, and this follows them. No request's line follows, or there are 1,024.
pub record IsRead (text : List ℕ) (qs : List StateRequest) (rest : List ℕ) : Type 0 where
  pub begins : BeginsWith text qs rest
  pub few : length qs ≤ 1024
  pub stops : HasNoLine rest ⊎ (length qs ≡ 1024)
