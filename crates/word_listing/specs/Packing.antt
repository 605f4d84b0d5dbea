-- Words from a text of lines, and what is wrong with a text that is none
use Rattle.std.specs.Prelude.{◌≡◌, ◌≢◌, ℕ, ◌+◌, ◌<◌, ◌≤◌, ◌^◌, ◌==◌, if◌then◌else◌, ◌⊎◌, List, [], ◌∷◌, ◌++◌, length, All}
use Rattle.std.specs.Str.{IsUtf8}
use Rattle.rv32_asm.specs.SmallImage.{small_image}
use Rattle.rv32_text.specs.FaultPlace.{IsFaultPlace}
use Rattle.rv32_text.specs.Texts.{text_of}
use Rattle.word_listing.specs.declared.fault.PackFault.{PackFault}
use Rattle.word_listing.specs.declared.fault.PackFault.TheVariants.{Text, NoMemory}
use Rattle.word_listing.specs.declared.fault.TextPlace.{TextPlace}

-- ---- limits

abbrev pub most_bytes : ℕ
most_bytes = 2097152

abbrev pub most_lines : ℕ
most_lines = 65536

-- ---- words and their lines

abbrev pub IsWord : ℕ → Type 0
IsWord w = w < 2 ^ 32

-- the line of each word: its text and a line feed (10)
abbrev pub lines_of : List ℕ → List ℕ
lines_of [] = []
lines_of (w ∷ ws) = text_of w ++ (10 ∷ lines_of ws)

-- the text begins with the lines of these words, and this follows them
pub record BeginsWith (text words behind : List ℕ) : Type 0 where
  pub fit : All IsWord words
  pub parts : text ≡ lines_of words ++ behind

-- a line for each of these words and nothing else, within the limits
pub record IsTextOfWords (text words : List ℕ) : Type 0 where
  pub bytes : length text ≤ most_bytes
  pub count : length words ≤ most_lines
  pub lines : BeginsWith text words []

-- ---- what is wrong with a line

-- the text up to its first line feed, or all of it where there is none
abbrev pub first_line : List ℕ → List ℕ
first_line [] = []
first_line (b ∷ bs) = if b == 10 then [] else b ∷ first_line bs

-- this is the text of this word
pub record IsTextOf (line : List ℕ) (w : ℕ) : Type 0 where
  pub fits : IsWord w
  pub is : line ≡ text_of w

-- UTF-8, but no word's text, which goes wrong at this place
pub record GoesWrong (line : List ℕ) (place : ℕ) : Type 0 where
  pub utf8 : IsUtf8 line
  pub no_word : (w : ℕ) → IsTextOf line w → ⊥
  pub place_is : IsFaultPlace line place

-- a line without its line feed is no word's text, and this place is told of it: 0 where it isn't UTF-8
abbrev pub IsNoWord : List ℕ → ℕ → Type 0
IsNoWord line place = (¬ IsUtf8 line × (place ≡ 0)) ⊎ GoesWrong line place

-- a word's text without a line feed, of which the length is told
pub record LacksLineFeed (text : List ℕ) (place : ℕ) : Type 0 where
  pub word : ℕ
  pub text_is : IsTextOf text word
  pub place_is : place ≡ length text

-- the first line of the text is no word's text with its line feed
abbrev pub IsRefused : List ℕ → ℕ → Type 0
IsRefused text place = IsNoWord (first_line text) place ⊎ LacksLineFeed text place

-- ---- what is wrong with a text

pub record HasTooManyBytes (text : List ℕ) (fault : TextPlace) : Type 0 where
  pub bytes : most_bytes < length text
  pub told : fault ≡ record { line = 0; place = 0 }

-- Lines of words, and behind them more. Lines are counted from 1.
pub record HasMore (text words behind : List ℕ) (fault : TextPlace) : Type 0 where
  pub bytes : length text ≤ most_bytes
  pub lines : BeginsWith text words behind
  pub more : behind ≢ []
  pub line : fault.line ≡ length words + 1

-- one of the first lines is refused
pub record HasBadLine (text : List ℕ) (fault : TextPlace) : Type 0 where
  pub words : List ℕ
  pub behind : List ℕ
  pub has : HasMore text words behind fault
  pub count : length words < most_lines
  pub refused : IsRefused behind fault.place

-- all of the first lines are words', and there are more
pub record HasTooManyLines (text : List ℕ) (fault : TextPlace) : Type 0 where
  pub words : List ℕ
  pub behind : List ℕ
  pub has : HasMore text words behind fault
  pub count : length words ≡ most_lines
  pub place : fault.place ≡ 0

abbrev pub IsFault : List ℕ → TextPlace → Type 0
IsFault text fault = HasTooManyBytes text fault ⊎ (HasBadLine text fault ⊎ HasTooManyLines text fault)

-- ---- answers

-- the fault is the text's; want of memory is free
abbrev pub HasFault : List ℕ → PackFault → Type 0
HasFault text (Text fault) = IsFault text fault
HasFault text NoMemory = Unit {0}

-- the bytes are the small image of the words of the text
pub record IsImageOf (text bytes : List ℕ) : Type 0 where
  pub words : List ℕ
  pub text_is : IsTextOfWords text words
  pub image : bytes ≡ small_image words []
