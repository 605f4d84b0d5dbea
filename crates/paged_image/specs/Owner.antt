-- What an owner of a page holds
use Rattle.std.specs.Prelude.{ℕ, ◌+◌, Bool, true, false, List, ◌++◌, length, take, drop, replicate}
use Rattle.paged_image.specs.declared.owner.Owner.{Owner}
use Rattle.paged_image.specs.declared.owner.Owner.TheVariants.{Own, Shared, Blank}

-- the 4,096 bytes of the page
abbrev pub page_bytes : Owner → List ℕ
page_bytes (Own page) = page.value.bytes
page_bytes (Shared page) = page.value.value.bytes
page_bytes Blank = replicate 4096 0

-- the page may be written in place
abbrev pub is_own : Owner → Bool
is_own (Own page) = true
is_own (Shared page) = false
is_own Blank = false

-- the bytes with those from the offset on replaced
abbrev pub overwritten : List ℕ → ℕ → List ℕ → List ℕ
overwritten bytes offset from = take offset bytes ++ from ++ drop (offset + length from) bytes
