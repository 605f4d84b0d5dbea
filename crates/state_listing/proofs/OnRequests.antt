-- The lines of requests: which bytes they lack, how long they are, and that they tell the request
use Rattle.std.proofs.Common.{◌≡◌, ◌≢◌, ℕ, ◌^◌, ◌≤◌, List, ◌∷◌, ◌++◌, length, All, Option, Some, None, IfSome, decimal, refl, sym, ap, ap₂, ◌∙◌, arith, length-append}
use Rattle.std.proofs.lemmas.Fmt.{decimal_injective, length-decimal-le}
use Rattle.board_events.proofs.Bytes.{Lacks, lacks_cons, lacks_append, lacks_no_cut, cut_same}
use Rattle.board_events.proofs.Numbers.{decimal_lacks}
use Rattle.report_text.specs.Texts.{address_text}
use Rattle.state_listing.specs.declared.request.StateRequest.{StateRequest}
use Rattle.state_listing.specs.Requests.{range_text, line_text, request_text, IsRange, IsRequest}
use Rattle.state_listing.proofs.OnWords.{lacks-all, address_lacks, address_told, length-address_text}

-- ---- which bytes they lack

range_lacks_feed : (r : ℕ × ℕ) → IsRange r → Lacks 10 (range_text r)
range_lacks_feed r fits =
    lacks_append 10 (address_text r.0) (32 ∷ decimal r.1) (address_lacks 10 r.0 (omega arith))
    (lacks_cons 10 32 (decimal r.1) (λ e. omega (arith, e)) (decimal_lacks 10 r.1 (omega (arith, fits.few)) (omega arith)))

line_lacks_feed : (count : ℕ) (bytes : Option (ℕ × ℕ)) → count ≤ 2 ^ 40 → IfSome bytes IsRange → Lacks 10 (line_text count bytes)
line_lacks_feed count None small fits = decimal_lacks 10 count (omega arith) (omega arith)
line_lacks_feed count (Some r) small fits =
    lacks_append 10 (decimal count) (32 ∷ range_text r) (decimal_lacks 10 count (omega arith) (omega arith)) (lacks_cons 10 32 (range_text r) (λ e. omega (arith, e)) (range_lacks_feed r fits))

pub request_lacks_feed : (q : StateRequest) → IsRequest q → Lacks 10 (request_text q)
request_lacks_feed q fits = line_lacks_feed q.count q.bytes fits.count fits.bytes

-- ---- how long they are

line_short : (count : ℕ) (bytes : Option (ℕ × ℕ)) → count ≤ 2 ^ 40 → IfSome bytes IsRange → length (line_text count bytes) ≤ 26
line_short count None small fits = let short = length-decimal-le 13 count (omega arith) (omega arith) (omega arith) in omega (arith, short)
line_short count (Some r) small fits =
    let first : length (decimal count) ≤ 13 = length-decimal-le 13 count (omega arith) (omega arith) (omega arith) in
    let last : length (decimal r.1) ≤ 3 = length-decimal-le 3 r.1 (omega arith) (omega (arith, fits.few)) (omega (arith, fits.few)) in
    omega (arith, length-append (decimal count) (32 ∷ range_text r), length-append (address_text r.0) (32 ∷ decimal r.1), length-address_text r.0)

pub request_short : (q : StateRequest) → IsRequest q → length (request_text q) ≤ 26
request_short q fits = line_short q.count q.bytes fits.count fits.bytes

-- ---- lines cut at their spaces

-- the two words of a range
pub range_cut : (r : ℕ × ℕ) (words address rest : List ℕ) → range_text r ≡ words → words ≡ address ++ (32 ∷ rest) → All (λ b. b ≢ 32) address → (address_text r.0 ≡ address) × (decimal r.1 ≡ rest)
range_cut r words address rest is parts first =
    cut_same 32 (address_text r.0) address (decimal r.1) rest (address_lacks 32 r.0 (omega arith)) (lacks-all 32 address first) (is ∙ parts)

-- a range has a space
pub range_uncut : (r : ℕ × ℕ) (words : List ℕ) → All (λ b. b ≢ 32) words → range_text r ≡ words → ⊥
range_uncut r words whole is = lacks_no_cut 32 (address_text r.0) (decimal r.1) words (lacks-all 32 words whole) (sym is)

line_uncut : (count : ℕ) (bytes : Option (ℕ × ℕ)) (line : List ℕ) → All (λ b. b ≢ 32) line → line_text count bytes ≡ line → decimal count ≡ line
line_uncut count None line whole is = is
line_uncut count (Some r) line whole is = absurd (lacks_no_cut 32 (decimal count) (range_text r) line (lacks-all 32 line whole) (sym is))

-- a line without a space is a count
pub request_uncut : (q : StateRequest) (line : List ℕ) → All (λ b. b ≢ 32) line → request_text q ≡ line → decimal q.count ≡ line
request_uncut q line whole is = line_uncut q.count q.bytes line whole is

-- the words of a line with a space: this count, and those of a range
pub record IsCut (number : ℕ) (count rest : List ℕ) : Type 0 where
  pub range : ℕ × ℕ
  pub fits : IsRange range
  pub count_is : decimal number ≡ count
  pub rest_is : range_text range ≡ rest

line_cut : (number : ℕ) (bytes : Option (ℕ × ℕ)) (line count rest : List ℕ) → number ≤ 2 ^ 40 → IfSome bytes IsRange → line ≡ count ++ (32 ∷ rest) → All (λ b. b ≢ 32) count → line_text number bytes ≡ line → IsCut number count rest
line_cut number None line count rest small fits parts first is =
    absurd (lacks_no_cut 32 count rest line (let lacks : Lacks 32 (decimal number) = decimal_lacks 32 number (omega arith) (omega arith) in rw (← is) lacks) parts)
line_cut number (Some r) line count rest small fits parts first is =
    let both = cut_same 32 (decimal number) count (range_text r) rest (decimal_lacks 32 number (omega arith) (omega arith)) (lacks-all 32 count first) (is ∙ parts) in
    record { range = r; fits = fits; count_is = both.0; rest_is = both.1 }

pub request_cut : (q : StateRequest) (line count rest : List ℕ) → IsRequest q → line ≡ count ++ (32 ∷ rest) → All (λ b. b ≢ 32) count → request_text q ≡ line → IsCut q.count count rest
request_cut q line count rest fits parts first is = line_cut q.count q.bytes line count rest fits.count fits.bytes parts first is

-- ---- that they tell the request

range_told : (r s : ℕ × ℕ) → IsRange r → IsRange s → range_text r ≡ range_text s → r ≡ s
range_told r s p q h =
    let both = cut_same 32 (address_text r.0) (address_text s.0) (decimal r.1) (decimal s.1) (address_lacks 32 r.0 (omega arith)) (address_lacks 32 s.0 (omega arith)) h in
    let address : r.0 ≡ s.0 = address_told r.0 s.0 p.address q.address both.0 in
    let number : r.1 ≡ s.1 = decimal_injective r.1 s.1 (omega (arith, p.few)) (omega (arith, q.few)) both.1 in
    let pair : ℕ → ℕ → ℕ × ℕ = λ a n. (a, n) in
    ap₂ pair address number

line_told : (m n : ℕ) (a b : Option (ℕ × ℕ)) → m ≤ 2 ^ 40 → n ≤ 2 ^ 40 → IfSome a IsRange → IfSome b IsRange → line_text m a ≡ line_text n b → (m ≡ n) × (a ≡ b)
line_told m n None None p q x y h = (decimal_injective m n (omega arith) (omega arith) h, refl)
line_told m n None (Some s) p q x y h = absurd (lacks_no_cut 32 (decimal n) (range_text s) (decimal m) (decimal_lacks 32 m (omega arith) (omega arith)) h)
line_told m n (Some r) None p q x y h = absurd (lacks_no_cut 32 (decimal m) (range_text r) (decimal n) (decimal_lacks 32 n (omega arith) (omega arith)) (sym h))
line_told m n (Some r) (Some s) p q x y h =
    let both = cut_same 32 (decimal m) (decimal n) (range_text r) (range_text s) (decimal_lacks 32 m (omega arith) (omega arith)) (decimal_lacks 32 n (omega arith) (omega arith)) h in
    (decimal_injective m n (omega arith) (omega arith) both.0, ap Some (range_told r s x y both.1))

pub request_told : (q r : StateRequest) → IsRequest q → IsRequest r → request_text q ≡ request_text r → q ≡ r
request_told q r p s h =
    let both = line_told q.count r.count q.bytes r.bytes p.count s.count p.bytes s.bytes h in
    let made : ℕ → Option (ℕ × ℕ) → StateRequest = λ count bytes. record { count = count; bytes = bytes } in
    ap₂ made both.0 both.1
