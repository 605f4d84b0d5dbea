-- Where a text that is no word's text goes wrong
use Rattle.std.specs.Prelude.{◌≡◌, ℕ, ◌<◌, ◌≤◌, ◌^◌, List, ◌++◌, length, take}
use Rattle.rv32_text.specs.Texts.{text_of}

-- some word's text begins with this one
pub record BeginsWordText (front : List ℕ) : Type 0 where
  pub word : ℕ
  pub more : List ℕ
  pub fits : word < 2 ^ 32
  pub is : text_of word ≡ front ++ more

-- the length of the longest beginning of the text that some word's text has too
pub record IsFaultPlace (text : List ℕ) (place : ℕ) : Type 0 where
  pub within : place ≤ length text
  pub shared : BeginsWordText (take place text)
  pub longest : (n : ℕ) → n ≤ length text → BeginsWordText (take n text) → n ≤ place
