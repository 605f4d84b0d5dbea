-- What a store does to an image besides its bytes
use Rattle.std.specs.Prelude.{◌≡◌, ℕ, ◌+◌, ◌/◌, ◌≤◌, Bool, true, ◌||◌, List, [], ◌∷◌, length, Option, Result, Ok, Err, ◌⊎◌}
use Rattle.guest_model.specs.ByteMap.{Stores, Keeps}
use Rattle.guest_model.specs.declared.memory.StoreFault.{StoreFault}
use Rattle.guest_model.specs.declared.memory.StoreFault.TheVariants.{Unmapped, NoMemory}
use Rattle.paged_image.specs.Owner.{is_own}
use Rattle.paged_image.specs.WriteSet.{has}
use Rattle.paged_image.specs.Pages.{bytes_at, own_at, touches}
use Rattle.paged_image.specs.Image.{content, written_of, owned_of, shared_in}
use Rattle.paged_image.specs.declared.entry.Entry.{Entry}
use Rattle.paged_image.specs.declared.image.PagedImage.{PagedImage}

-- The write set after a store to the n bytes from a on: the touched pages are added; a range that is unmapped adds
-- none; and of a store that was refused for want of memory some touched pages may have been added.
abbrev pub Marks : {A : Type 0} → List ℕ → List ℕ → ℕ → ℕ → Result A StoreFault → Type 0
Marks old new a n (Ok _) = (page : ℕ) → has new page ≡ (has old page || touches a n page)
Marks old new a n (Err Unmapped) = new ≡ old
Marks old new a n (Err NoMemory) =
    ((page : ℕ) → has old page ≡ true → has new page ≡ true) × ((page : ℕ) → has new page ≡ true → (has old page || touches a n page) ≡ true)

-- the entries keep their numbers, and those that became own pass the test
abbrev pub Grows : (ℕ → Bool) → List Entry → List Entry → Type 0
Grows may [] [] = Unit {0}
Grows may [] (y ∷ ys) = ⊥
Grows may (x ∷ xs) [] = ⊥
Grows may (x ∷ xs) (y ∷ ys) = (y.number ≡ x.number) × (is_own y.page ≡ true → (is_own x.page ≡ true) ⊎ (may x.number ≡ true)) × Grows may xs ys

-- the image's bytes of a page, and whether it owns it
abbrev pub page_of : PagedImage → ℕ → Option (List ℕ)
page_of t = bytes_at t.index.value.items t.entries.items

abbrev pub owns : PagedImage → ℕ → Bool
owns t = own_at t.index.value.items t.entries.items

-- a step of a store: own pages stay own, and only pages that pass the test may become own or be added to the write set
pub record Advances (may : ℕ → Bool) (old new : PagedImage) : Type 0 where
  pub grows : Grows may old.entries.items new.entries.items
  pub owns : (page : ℕ) → owns old page ≡ true → owns new page ≡ true
  pub marked : (page : ℕ) → has old.written page ≡ true → has new.written page ≡ true
  pub marks : (page : ℕ) → has new.written page ≡ true → (has old.written page || may page) ≡ true

-- what a store of these bytes at a answers, and leaves of the bytes, the write set and the count of own pages
pub record Stored (old new : PagedImage) (a : ℕ) (bs : List ℕ) (r : Result (Unit {0}) StoreFault) : Type 0 where
  pub stores : Stores true (content old) (content new) a bs r
  pub kept : Keeps (λ q. has (written_of old) (q / 4096)) (content old) (λ q. has (written_of new) (q / 4096)) (content new)
  pub marks : Marks (written_of old) (written_of new) a (length bs) r
  pub owned : owned_of new ≤ owned_of old + shared_in old a (length bs)
