-- The lines that a text begins with, one more each time
use Rattle.std.proofs.Common.{◌≡◌, ◌≢◌, ℕ, zero, suc, ◌+◌, ◌*◌, ◌<◌, ◌≤◌, ◌⊎◌, inl, inr, Bool, true, false, nat_eq, List, [], ◌∷◌, ◌++◌, length, All, refl, sym, ap, ◌∙◌, subst, append_assoc, append-nil, arith, length-append}
use Rattle.std.proofs.lemmas.Bool.{cases_lt, eqb-true}
use Rattle.std.proofs.lemmas.List.Elements.{All-nil, All-push, All-head, All-tail}
use Rattle.board_events.proofs.Bytes.{lacks_no_cut, cut_same}
use Rattle.state_listing.specs.declared.request.StateRequest.{StateRequest}
use Rattle.state_listing.specs.Requests.{IsRequest, request_text}
use Rattle.state_listing.specs.Counts.{requests_text, BeginsWithLine, HasNoLine, BeginsWith, IsFileOf, IsFault, Empty, BadLine, TooMany}
use Rattle.state_listing.specs.Lines.{IsRead}
use Rattle.state_listing.proofs.OnWords.{lacks-all}
use Rattle.state_listing.proofs.OnRequests.{request_lacks_feed, request_short, request_told}

-- a text begins with the line of one request
pub line_one : (text : List ℕ) (q r : StateRequest) (u v : List ℕ) → BeginsWithLine text q u → BeginsWithLine text r v → (q ≡ r) × (u ≡ v)
line_one text q r u v h k =
    let cut = cut_same 10 (request_text q) (request_text r) u v (request_lacks_feed q h.fits) (request_lacks_feed r k.fits) (sym h.parts ∙ k.parts) in
    (request_told q r h.fits k.fits cut.0, cut.1)

-- nothing has no line
pub nothing_has_no_line : HasNoLine []
nothing_has_no_line q rest h = omega (arith, ap length h.parts, length-append (request_text q) (10 ∷ rest))

-- a text without a line feed
pub none_uncut : (text : List ℕ) → All (λ b. b ≢ 10) text → HasNoLine text
none_uncut text whole q rest h = lacks_no_cut 10 (request_text q) rest text (lacks-all 10 text whole) h.parts

-- a text whose first line is no request's
pub none_cut : (text line more : List ℕ) → text ≡ line ++ (10 ∷ more) → All (λ b. b ≢ 10) line → ((q : StateRequest) → IsRequest q → request_text q ≢ line) → HasNoLine text
none_cut text line more parts first none q rest h =
    none q h.fits (cut_same 10 (request_text q) line rest more (request_lacks_feed q h.fits) (lacks-all 10 line first) (sym h.parts ∙ parts)).0

-- ---- one line more

pub begins_first : (text : List ℕ) (qs : List StateRequest) → qs ≡ [] → BeginsWith text qs text
begins_first text qs none = subst (λ (rs : List StateRequest). BeginsWith text rs text) (sym none) (record { each = All-nil IsRequest; parts = refl })

requests_text-push : (qs : List StateRequest) (q : StateRequest) (rest : List ℕ) → requests_text (qs ++ (q ∷ [])) ++ rest ≡ requests_text qs ++ (request_text q ++ (10 ∷ rest))
requests_text-push [] q rest = append_assoc (request_text q) (10 ∷ []) rest
requests_text-push (x ∷ qs) q rest =
    append_assoc (request_text x) (10 ∷ requests_text (qs ++ (q ∷ []))) rest
    ∙ ap (λ (bs : List ℕ). request_text x ++ (10 ∷ bs)) (requests_text-push qs q rest)
    ∙ sym (append_assoc (request_text x) (10 ∷ requests_text qs) (request_text q ++ (10 ∷ rest)))

pub begins_next : (text rest more : List ℕ) (qs : List StateRequest) (q : StateRequest) → BeginsWith text qs rest → BeginsWithLine rest q more → BeginsWith text (qs ++ (q ∷ [])) more
begins_next text rest more qs q h k = record {
  each = All-push IsRequest qs q h.each k.fits;
  parts = h.parts ∙ ap (λ (bs : List ℕ). requests_text qs ++ bs) k.parts ∙ sym (requests_text-push qs q more);
}

-- ---- what a text is whose lines were read

-- a line is of 27 bytes at most
pub requests_short : (qs : List StateRequest) → All IsRequest qs → length (requests_text qs) ≤ 27 * length qs
requests_short [] each = omega arith
requests_short (q ∷ qs) each =
    let line = request_short q (All-head IsRequest q qs each) in
    let more = requests_short qs (All-tail IsRequest q qs each) in
    omega (arith, line, more, length-append (request_text q) (10 ∷ requests_text qs))

-- nothing is left behind at least one line
pub read_file : (text rest : List ℕ) (qs : List StateRequest) → IsRead text qs rest → 0 < length qs → length rest ≡ 0 → IsFileOf text qs
read_file text [] qs h some none = record { each = h.begins.each; text_is = h.begins.parts ∙ append-nil (requests_text qs); some = omega arith; few = h.few }
read_file text (b ∷ rest) qs h some none = absurd (omega arith)

-- something is left, or there was no line

few_or_full : (n : ℕ) → n ≤ 1024 → (n < 1024) ⊎ (n ≡ 1024)
few_or_full n h = elim (cases_lt n 1024) [ inl less ↦ inl less | inr more ↦ inr (omega arith) ]

too_many : (text rest : List ℕ) (qs : List StateRequest) → length text ≤ 27648 → BeginsWith text qs rest → length qs ≡ 1024 → 0 < length rest → IsFault text (length qs + 1)
too_many text rest qs short begins full more = TooMany short (record { before = qs; rest = rest; begins = begins; full = full; more = more }) (omega arith)

bad_line : (text rest : List ℕ) (qs : List StateRequest) → length text ≤ 27648 → BeginsWith text qs rest → length qs < 1024 → 0 < length rest → HasNoLine rest → IsFault text (length qs + 1)
bad_line text rest qs short begins early more bad = BadLine short (record { before = qs; rest = rest; begins = begins; more = more; bad = bad; number = refl; early = omega arith })

left_over : (text rest : List ℕ) (qs : List StateRequest) → length text ≤ 27648 → IsRead text qs rest → 0 < length rest → (length qs < 1024) ⊎ (length qs ≡ 1024) → IsFault text (length qs + 1)
left_over text rest qs short h more (inr full) = too_many text rest qs short h.begins full more
left_over text rest qs short h more (inl early) =
    elim h.stops [ inl bad ↦ bad_line text rest qs short h.begins early more bad | inr full ↦ too_many text rest qs short h.begins full more ]

nothing_left : (text rest : List ℕ) (qs : List StateRequest) → IsRead text qs rest → length qs ≡ 0 → length rest ≡ 0 → IsFault text (length qs + 1)
nothing_left text [] [] h none empty = Empty h.begins.parts refl
nothing_left text (b ∷ rest) qs h none empty = absurd (omega arith)
nothing_left text rest (q ∷ qs) h none empty = absurd (omega arith)

pub read_fault : (text rest : List ℕ) (qs : List StateRequest) → length text ≤ 27648 → IsRead text qs rest → (length qs ≡ 0) ⊎ (0 < length rest) → IsFault text (length qs + 1)
read_fault text rest qs short h (inr more) = left_over text rest qs short h more (few_or_full (length qs) h.few)
read_fault text [] qs short h (inl none) = nothing_left text [] qs h none refl
read_fault text (b ∷ rest) qs short h (inl none) = left_over text (b ∷ rest) qs short h (omega arith) (inl (omega arith))

-- ---- tests of lengths

pub empty_is : (empty : Bool) (n : ℕ) → empty ≡ nat_eq n 0 → empty ≡ true → n ≡ 0
empty_is empty n is holds = eqb-true n 0 (sym is ∙ holds)

pub some_are : (empty : Bool) (n : ℕ) → empty ≡ nat_eq n 0 → empty ≡ false → 0 < n
some_are empty zero is fails = absurd (cc)
some_are empty (suc n) is fails = omega arith
