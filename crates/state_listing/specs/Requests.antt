-- What a line of a file of counts asks for, and its text. Words are parted by one space, which has the code 32.
use Rattle.std.specs.Prelude.{ℕ, ◌<◌, ◌≤◌, ◌^◌, List, ◌∷◌, ◌++◌, Option, Some, None, IfSome, decimal}
use Rattle.report_text.specs.Texts.{address_text}
use Rattle.state_listing.specs.declared.request.StateRequest.{StateRequest}

-- the address and the length of bytes
abbrev pub range_text : ℕ × ℕ → List ℕ
range_text range = address_text range.0 ++ (32 ∷ decimal range.1)

-- the count, and behind it the bytes that are asked for, if any are
abbrev pub line_text : ℕ → Option (ℕ × ℕ) → List ℕ
line_text count None = decimal count
line_text count (Some range) = decimal count ++ (32 ∷ range_text range)

-- the line of a request, without its line feed
abbrev pub request_text : StateRequest → List ℕ
request_text q = line_text q.count q.bytes

-- bytes that may be asked for: 1 to 256 of them at an address of 32 bits
pub record IsRange (range : ℕ × ℕ) : Type 0 where
  pub address : range.0 < 2 ^ 32
  pub some : 1 ≤ range.1
  pub few : range.1 ≤ 256

-- what may be asked for
pub record IsRequest (q : StateRequest) : Type 0 where
  pub count : q.count ≤ 2 ^ 40
  pub bytes : IfSome q.bytes IsRange
