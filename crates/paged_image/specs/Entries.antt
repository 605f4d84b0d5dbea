-- Lists of entries
use Rattle.std.specs.Prelude.{◌≡◌, ℕ, false, List, All}
use Rattle.paged_image.specs.Owner.{page_bytes, is_own}
use Rattle.paged_image.specs.declared.entry.Entry.{Entry}

-- what an entry says of its page, whoever owns it: the number and the bytes
abbrev pub face : Entry → ℕ × List ℕ
face e = (e.number, page_bytes e.page)

-- all pages are shared
abbrev pub NoneOwn : List Entry → Type 0
NoneOwn entries = All (λ e. is_own e.page ≡ false) entries
