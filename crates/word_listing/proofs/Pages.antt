-- The lines of an area page by page
use Rattle.std.proofs.Common.{◌≡◌, ◌≢◌, ℕ, ◌+◌, ◌-◌, ◌*◌, ◌/◌, ◌%◌, ◌<◌, ◌≤◌, List, [], ◌++◌, length, take, drop, refl, sym, ap, ap₂, subst, ◌∙◌, zero-add, append_assoc, arith, length-drop}
use Rattle.std.specs.Int.{w32, from_le_bytes}
use Rattle.std.proofs.lemmas.List.{drop-drop, drop-take, take-take}
use Rattle.std.proofs.Math.ListN.{length-take}
use Rattle.std.proofs.lemmas.Bool.{ne_eqb}
use Rattle.word_listing.specs.Listing.{listing_line, line_unless_zero, joined}
use Rattle.word_listing.specs.Pieces.{word_in, word_line, bytes_lines}
use Rattle.word_listing.proofs.Joined.{joined-split, joined-same, joined-more}

-- ---- the words of one page

pub line-nonzero : (address word : ℕ) → word ≢ 0 → line_unless_zero address word ≡ listing_line address word
line-nonzero address word h = rw (ne_eqb word 0 h) refl

pub line-zero : (address word : ℕ) → word ≡ 0 → line_unless_zero address word ≡ []
line-zero address word h = ap (line_unless_zero address) h

-- one word more, or none where it is 0
pub words-more : (base : ℕ) (bytes : List ℕ) (k word : ℕ) (old now next : List ℕ) → word_in bytes k ≡ word → now ≡ old ++ joined (word_line base bytes) 0 k → next ≡ now ++ line_unless_zero (base + 4 * k) word
    → next ≡ old ++ joined (word_line base bytes) 0 (k + 1)
words-more base bytes k word old now next w e f =
    f
    ∙ ap (λ t. t ++ line_unless_zero (base + 4 * k) word) e
    ∙ append_assoc old (joined (word_line base bytes) 0 k) (line_unless_zero (base + 4 * k) word)
    ∙ ap (λ v. old ++ (joined (word_line base bytes) 0 k ++ line_unless_zero (base + 4 * k) v)) (sym w)
    ∙ ap (λ j. old ++ (joined (word_line base bytes) 0 k ++ word_line base bytes j)) (sym (zero-add k))
    ∙ ap (λ t. old ++ t) (sym (joined-more (word_line base bytes) 0 k))

-- ---- pages

-- the lines of the bytes from the page p on
abbrev pub from_page : ℕ → List ℕ → ℕ → List ℕ
from_page base bytes p = joined (word_line base bytes) (1024 * p) (length bytes / 4 - 1024 * p)

-- a word of a page
page-word : (bytes : List ℕ) (p k : ℕ) → k < 1024 → word_in (take 4096 (drop (4096 * p) bytes)) k ≡ word_in bytes (1024 * p + k)
page-word bytes p k h =
    let whole : 4096 ≡ 4 * k + (4096 - 4 * k) = omega arith in
    let start : 4096 * p + 4 * k ≡ 4 * (1024 * p + k) = omega arith in
    ap (λ n. from_le_bytes w32 (take 4 (drop (4 * k) (take n (drop (4096 * p) bytes))))) whole
    ∙ ap (λ t. from_le_bytes w32 (take 4 t)) (drop-take (4 * k) (4096 - 4 * k) (drop (4096 * p) bytes))
    ∙ ap (from_le_bytes w32) (take-take 4 (4096 - 4 * k) (drop (4 * k) (drop (4096 * p) bytes)) (omega arith))
    ∙ ap (λ t. from_le_bytes w32 (take 4 t)) (drop-drop (4 * k) (4096 * p) bytes)
    ∙ ap (λ n. from_le_bytes w32 (take 4 (drop n bytes))) start

-- the lines of a page
page-lines : (base : ℕ) (bytes : List ℕ) (p : ℕ) → p < length bytes / 4096 → bytes_lines (base + 4096 * p) (take 4096 (drop (4096 * p) bytes)) ≡ joined (word_line base bytes) (1024 * p) 1024
page-lines base bytes p h =
    let count : length (take 4096 (drop (4096 * p) bytes)) / 4 ≡ 1024 = simp (length-take, length-drop) (omega arith) in
    ap (joined (word_line (base + 4096 * p) (take 4096 (drop (4096 * p) bytes))) 0) count
    ∙ joined-same (word_line (base + 4096 * p) (take 4096 (drop (4096 * p) bytes))) (word_line base bytes) 0 (1024 * p) 1024 (λ k l.
    (let place : base + 4096 * p + 4 * (0 + k) ≡ base + 4 * (1024 * p + k) = omega arith in
    let word : word_in (take 4096 (drop (4096 * p) bytes)) (0 + k) ≡ word_in bytes (1024 * p + k) = ap (word_in (take 4096 (drop (4096 * p) bytes))) (zero-add k) ∙ page-word bytes p k l in
    ap₂ line_unless_zero place word))

-- a page, and those behind it
pages-next : (base : ℕ) (bytes : List ℕ) (p start count : ℕ) → p < length bytes / 4096 → start ≡ 4096 * p → count ≡ 4096
    → from_page base bytes p ≡ bytes_lines (base + start) (take count (drop start bytes)) ++ from_page base bytes (p + 1)
pages-next base bytes p start count h s c =
    let parts : length bytes / 4 - 1024 * p ≡ 1024 + (length bytes / 4 - 1024 * (p + 1)) = omega arith in
    let next : 1024 * p + 1024 ≡ 1024 * (p + 1) = omega arith in
    ap (joined (word_line base bytes) (1024 * p)) parts
    ∙ joined-split (word_line base bytes) (1024 * p) 1024 (length bytes / 4 - 1024 * (p + 1))
    ∙ ap₂ (λ x n. x ++ joined (word_line base bytes) n (length bytes / 4 - 1024 * (p + 1))) (sym (page-lines base bytes p h)) next
    ∙ ap₂ (λ n m. bytes_lines (base + n) (take m (drop n bytes)) ++ from_page base bytes (p + 1)) (sym s) (sym c)

-- the same of a page whose lines were added to an empty text
pub page-said : (base : ℕ) (bytes got empty lines said : List ℕ) (p : ℕ) → got ≡ bytes → p < length got / 4096 → empty ≡ [] → said ≡ lines
    → lines ≡ empty ++ bytes_lines (base + p * 4096) (take (p * 4096 + 4096 - p * 4096) (drop (p * 4096) got)) → from_page base bytes p ≡ said ++ from_page base bytes (p + 1)
page-said base bytes got empty lines said p same h none is made =
    let start : p * 4096 ≡ 4096 * p = omega arith in
    let count : p * 4096 + 4096 - p * 4096 ≡ 4096 = omega arith in
    let page : List ℕ = bytes_lines (base + p * 4096) (take (p * 4096 + 4096 - p * 4096) (drop (p * 4096) got)) in
    subst (λ (bs : List ℕ). from_page base bs p ≡ said ++ from_page base bs (p + 1)) same
    (pages-next base got p (p * 4096) (p * 4096 + 4096 - p * 4096) h start count ∙ ap (λ (t : List ℕ). t ++ from_page base got (p + 1)) (sym (is ∙ made ∙ ap (λ (t : List ℕ). t ++ page) none)))

-- all pages
pub pages-all : (base : ℕ) (bytes : List ℕ) → from_page base bytes 0 ≡ bytes_lines base bytes
pages-all base bytes =
    let start : 1024 * 0 ≡ 0 = omega arith in
    let count : length bytes / 4 - 1024 * 0 ≡ length bytes / 4 = omega arith in
    ap₂ (joined (word_line base bytes)) start count

-- none is left
pub pages-none : (base : ℕ) (bytes : List ℕ) (p : ℕ) → length bytes % 4096 ≡ 0 → length bytes / 4096 ≤ p → from_page base bytes p ≡ []
unfolding joined
pages-none base bytes p aligned h =
    let none : length bytes / 4 - 1024 * p ≡ 0 = omega arith in
    ap (joined (word_line base bytes) (1024 * p)) none
