-- One more piece of a list that is written or read piece by piece.
use Rattle.std.proofs.Common.{◌≡◌, ℕ, ◌+◌, ◌-◌, List, ◌++◌, length, take, drop, Option, Some, None, IfSome, Ok, sym, ap, subst, ◌∙◌, length-append}
use Rattle.std.proofs.Math.Seq.{take-add}
use Rattle.std.proofs.lemmas.List.{take_rest, take-append-le}
use Rattle.std.proofs.KnownBytes.{Appends-trans}
use Rattle.std.specs.Io.KnownBytes.{Appends}
use Rattle.std.specs.Io.{ReadsAtMost}
use Rattle.host_io.specs.Reads.{ReadsFile}

-- the first d elements were appended, and then the first k of the rest
pub Appends-take_more : (a b c : Option (List ℕ)) (xs : List ℕ) (d k : ℕ) → Appends a b (take d xs) → Appends b c (take k (take (length xs - d) (drop d xs))) → Appends a c (take (d + k) xs)
Appends-take_more a b c xs d k before here =
    let P : List ℕ → Type 0 = λ piece. Appends a c piece in
    let Q : List ℕ → Type 0 = λ rest. Appends b c (take k rest) in
    subst P (sym (take-add d k xs)) (Appends-trans a b c (take d xs) (take k (drop d xs)) before (subst Q (take_rest xs d) here))

-- a list that begins with bs, read on by a piece
begins_with_more : (file bs piece : List ℕ) → take (length bs) file ≡ bs → piece ≡ take (length piece) (drop (length bs) file) → take (length (bs ++ piece)) file ≡ bs ++ piece
begins_with_more file bs piece before here =
    let both : take (length bs) file ++ take (length piece) (drop (length bs) file) ≡ bs ++ piece = ap (λ w. w ++ take (length piece) (drop (length bs) file)) before ∙ ap (λ w. bs ++ w) (sym here) in
    rw (length-append bs piece) (take-add (length bs) (length piece) file ∙ both)

-- the bytes bs begin the file, a read at their end has filled the first k places of a buffer, and
-- these are put behind bs
pub reads_on : (E : Type 0) (told now : Option (List ℕ)) (bs into rest new : List ℕ) (at k : ℕ) → now ≡ told → at ≡ length bs → IfSome told (λ file. take (length bs) file ≡ bs) → ReadsAtMost {E = E} (Ok k) into → ReadsFile {E = E} now at into (Ok k) → new ≡ bs ++ take k (into ++ rest) → IfSome told (λ file. take (length new) file ≡ new)
reads_on E None now bs into rest new at k same place before bound here grown = tt
reads_on E (Some file) now bs into rest new at k same place before bound here grown =
    let Reads : Option (List ℕ) → Type 0 = λ told. ReadsFile {E = E} told at into (Ok k) in
    let told : take k into ≡ take k (drop at file) = (subst Reads same here).0 in
    let Piece : ℕ → Type 0 = λ n. take k into ≡ take n (drop (length bs) file) in
    let From : ℕ → Type 0 = λ n. take k into ≡ take k (drop n file) in
    let more = begins_with_more file bs (take k into) before (subst Piece bound.1 (subst From place told)) in
    let whole : new ≡ bs ++ take k into = grown ∙ ap (λ w. bs ++ w) (take-append-le k into rest bound.0) in
    let Begins : List ℕ → Type 0 = λ w. take (length w) file ≡ w in
    subst Begins (sym whole) more
