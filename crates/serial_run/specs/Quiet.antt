-- Entries that release nothing
use Rattle.std.specs.Prelude.{List, [], ◌∷◌}
use Rattle.speculation.specs.declared.history.Entry.{Entry}
use Rattle.speculation.specs.declared.history.Entry.TheVariants.{Release}

-- an entry that releases nothing
abbrev pub IsQuiet : Entry → Type 0
IsQuiet (Release count) = ⊥
IsQuiet _ = Unit {0}

abbrev pub AreQuiet : List Entry → Type 0
AreQuiet [] = Unit {0}
AreQuiet (x ∷ xs) = IsQuiet x × AreQuiet xs
