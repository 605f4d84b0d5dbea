-- The first line against the first difference, which a ledger's row names
use Rattle.std.specs.Prelude.{◌≡◌, ℕ, List, ◌++◌, codes}
use Rattle.guest_model.specs.declared.difference.Difference.{Difference}
use Rattle.guest_model.specs.declared.difference.Difference.TheVariants.{Pc, Register, Place, Break, Byte}
use Rattle.report_text.specs.Texts.{address_text}
use Rattle.difference_text.specs.Differences.{register_name}

-- how the line of a difference begins
abbrev pub first_words : Difference → List ℕ
first_words Pc = codes "  pc original "
first_words (Register r) = codes "  " ++ (register_name r ++ codes " original ")
first_words Place = codes "  place original "
first_words Break = codes "  break original "
first_words (Byte a) = codes "  bytes " ++ (address_text a ++ codes " ")

abbrev pub BeginsWith : List ℕ → List ℕ → Type 0
BeginsWith text words = (rest : List ℕ) × (text ≡ words ++ rest)
