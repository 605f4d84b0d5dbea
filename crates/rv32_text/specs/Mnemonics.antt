-- The first letters of a text against all mnemonics
use Rattle.std.specs.Prelude.{ℕ, ◌≤◌, List, [], ◌∷◌}
use Rattle.rv32_text.specs.declared.mnemonic.Mnemonic.{Mnemonic}
use Rattle.rv32_text.specs.Languages.{ended, Differs}
use Rattle.rv32_text.specs.Starts.{start_of}

-- the text and the start of this mnemonic part at `place`, or before
pub record PartsBy (text : List ℕ) (place : ℕ) (mnemonic : Mnemonic) : Type 0 where
  pub shared : ℕ
  pub bound : shared ≤ place
  pub differs : Differs (start_of mnemonic) (ended text) shared

-- all of these do
abbrev pub EachParts : List ℕ → ℕ → List Mnemonic → Type 0
EachParts text place [] = Unit {0}
EachParts text place (m ∷ ms) = PartsBy text place m × EachParts text place ms

-- one of them at `place` itself
pub record Longest (text : List ℕ) (place : ℕ) : Type 0 where
  pub mnemonic : Mnemonic
  pub differs : Differs (start_of mnemonic) (ended text) place

-- the text begins with no mnemonic's start, and shares `place` letters with one, and with none more
pub record HasNoStart (text : List ℕ) (place : ℕ) : Type 0 where
  pub each : (m : Mnemonic) → PartsBy text place m
  pub longest : Longest text place
