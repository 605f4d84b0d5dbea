-- Files of counts: what a file asks for, or the line of its first fault
use Rattle.std.specs.Prelude.{◌≡◌, ℕ, ◌+◌, ◌<◌, ◌≤◌, List, [], ◌∷◌, ◌++◌, length, All, Option, Some, None, Result, Ok, Err, Vec}
use Rattle.state_listing.specs.declared.request.StateRequest.{StateRequest}
use Rattle.state_listing.specs.declared.fault.CountsFault.{CountsFault}
use Rattle.state_listing.specs.declared.fault.CountsFault.TheVariants.{Line, NoMemory}
use Rattle.state_listing.specs.Requests.{IsRequest, request_text}

-- ---- lines

-- the lines of these requests, each with its line feed, which has the code 10
abbrev pub requests_text : List StateRequest → List ℕ
requests_text [] = []
requests_text (q ∷ qs) = request_text q ++ (10 ∷ requests_text qs)

-- the text begins with the line of this request, and this follows it
pub record BeginsWithLine (text : List ℕ) (q : StateRequest) (rest : List ℕ) : Type 0 where
  pub fits : IsRequest q
  pub parts : text ≡ request_text q ++ (10 ∷ rest)

-- the text doesn't begin with the line of a request
abbrev pub HasNoLine : List ℕ → Type 0
HasNoLine text = (q : StateRequest) (rest : List ℕ) → BeginsWithLine text q rest → ⊥

-- the text begins with the lines of these requests, and this follows them
pub record BeginsWith (text : List ℕ) (qs : List StateRequest) (rest : List ℕ) : Type 0 where
  pub each : All IsRequest qs
  pub parts : text ≡ requests_text qs ++ rest

-- ---- files

-- 1 to 1,024 lines, those of these requests
pub record IsFileOf (text : List ℕ) (qs : List StateRequest) : Type 0 where
  pub each : All IsRequest qs
  pub text_is : text ≡ requests_text qs
  pub some : 1 ≤ length qs
  pub few : length qs ≤ 1024

-- one of the first 1,024 lines is the first that isn't a request's; a last line without its line feed is none
pub record HasBadLine (text : List ℕ) (line : ℕ) : Type 0 where
  pub before : List StateRequest
  pub rest : List ℕ
  pub begins : BeginsWith text before rest
  pub more : 0 < length rest
  pub bad : HasNoLine rest
  pub number : line ≡ length before + 1
  pub early : line ≤ 1024

-- the first 1,024 lines are those of requests, and more bytes follow
pub record HasTooMany (text : List ℕ) : Type 0 where
  pub before : List StateRequest
  pub rest : List ℕ
  pub begins : BeginsWith text before rest
  pub full : length before ≡ 1024
  pub more : 0 < length rest

-- the line of the first fault, which is the first of these that holds
pub data IsFault (text : List ℕ) (line : ℕ) : Type 0 where
  TooLong : 27648 < length text → line ≡ 0 → IsFault text line
  Empty : text ≡ [] → line ≡ 1 → IsFault text line
  BadLine : length text ≤ 27648 → HasBadLine text line → IsFault text line
  TooMany : length text ≤ 27648 → HasTooMany text → line ≡ 1025 → IsFault text line

-- what a file asks for, or the line of its first fault
abbrev pub IsAnswer : List ℕ → Result (List StateRequest) ℕ → Type 0
IsAnswer text (Ok qs) = IsFileOf text qs
IsAnswer text (Err line) = IsFault text line

-- what is answered of a file; None where memory ran out
abbrev pub answer_of : {A : Type 0} → Result (Vec StateRequest A) CountsFault → Option (Result (List StateRequest) ℕ)
answer_of (Ok requests) = Some (Ok requests.items)
answer_of (Err (Line line)) = Some (Err line)
answer_of (Err NoMemory) = None
