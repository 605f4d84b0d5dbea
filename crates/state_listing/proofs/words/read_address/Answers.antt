use Rattle.std.proofs.Common.{◌≡◌, ℕ, List, ◌++◌, length, sym, ap₂, ◌∙◌, arith}
use Rattle.state_listing.proofs.OnWords.{address_text-from_bytes, eight_bytes}
use Rattle.state_listing.proofs.words.read_address.Goals as goal

pub returns-in_ok-read_byte-in-len8-4 : goal.returns-in_ok-read_byte-in-len8-4
returns-in_ok-read_byte-in-len8-4 c =
    let a = c.in_ok-read_byte-in-len8.ensures in
    let b = c.in_ok-read_byte-in-len8-2.ensures in
    let d = c.in_ok-read_byte-in-len8-3.ensures in
    let e = c.in_ok-read_byte-in-len8-4.ensures in
    let len : length c.args.word.now ≡ 8 = omega arith in
    let join : List ℕ → List ℕ → List ℕ = λ xs ys. xs ++ ys in (
      omega arith,
      address_text-from_bytes c.from_be_bytes.result c.in_ok-read_byte-in-len8.field-0 c.in_ok-read_byte-in-len8-2.field-0 c.in_ok-read_byte-in-len8-3.field-0 c.in_ok-read_byte-in-len8-4.field-0 a.0 b.0 d.0 e.0 c.from_be_bytes.ensures
          ∙ (ap₂ join a.1 (ap₂ join b.1 (ap₂ join d.1 e.1)) ∙ sym (eight_bytes c.args.word.now len)),
    )
