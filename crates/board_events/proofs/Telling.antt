-- The line of an entry tells its words, and the words tell the entry.
use Rattle.std.proofs.Common.{◌≡◌, ℕ, Bool, true, false, List, [], ◌∷◌, ◌++◌, codes, decimal, refl, sym, ap, ap₂, ◌∙◌, arith}
use Rattle.std.proofs.lemmas.Fmt.{decimal_injective}
use Rattle.speculation.specs.declared.tracks.Name.{Name}
use Rattle.speculation.specs.declared.history.Entry.{Entry}
use Rattle.speculation.specs.declared.history.Entry.TheVariants.{Lend, Back, Gone, Fork, Cross, Keep, Discard, Release, Finish, Halt}
use Rattle.board_events.specs.Texts.{kind_text, name_text, Words, Word, WithOne, WithTwo, line_of, words_of, text_of, NameFits, EntryFits}
use Rattle.board_events.proofs.Bytes.{lacks_no_cut, cut_same, apart}
use Rattle.board_events.proofs.Numbers.{decimal_lacks}
use Rattle.board_events.proofs.Lines.{Apart, words_apart}

kind_told : (a b : Bool) → kind_text a ≡ kind_text b → a ≡ b
kind_told true true h = refl
kind_told true false h = absurd (apart (kind_text true) (kind_text false) refl h)
kind_told false true h = absurd (apart (kind_text false) (kind_text true) refl h)
kind_told false false h = refl

name_told : (a b : Name) → NameFits a → NameFits b → name_text a ≡ name_text b → a ≡ b
name_told a b x y h =
    let once = cut_same 46 (decimal a.generation) (decimal b.generation) _ _ (decimal_lacks 46 a.generation x.generation (omega arith)) (decimal_lacks 46 b.generation y.generation (omega arith)) h in
    let twice = cut_same 46 (decimal a.region) (decimal b.region) _ _ (decimal_lacks 46 a.region x.region (omega arith)) (decimal_lacks 46 b.region y.region (omega arith)) once.1 in
    let generation : a.generation ≡ b.generation = decimal_injective a.generation b.generation x.generation y.generation once.0 in
    let region : a.region ≡ b.region = decimal_injective a.region b.region x.region y.region twice.0 in
    let normal : a.normal ≡ b.normal = kind_told a.normal b.normal twice.1 in
    rw (generation, region, normal) refl

-- words without a space are told by their line
words_told : (v w : Words) → Apart v → Apart w → line_of v ≡ line_of w → v ≡ w
words_told (Word a) (Word b) p q h = ap Word h
words_told (Word a) (WithOne b x) p q h = absurd (lacks_no_cut 32 b x a p h)
words_told (Word a) (WithTwo b x y) p q h = absurd (lacks_no_cut 32 b (x ++ (32 ∷ y)) a p h)
words_told (WithOne a x) (Word b) p q h = absurd (lacks_no_cut 32 a x b q (sym h))
words_told (WithOne a x) (WithOne b y) p q h =
    let cut = cut_same 32 a b x y p.0 q.0 h in
    ap₂ WithOne cut.0 cut.1
words_told (WithOne a x) (WithTwo b y z) p q h =
    let cut = cut_same 32 a b x (y ++ (32 ∷ z)) p.0 q.0 h in
    absurd (lacks_no_cut 32 y z x p.1 cut.1)
words_told (WithTwo a x y) (Word b) p q h = absurd (lacks_no_cut 32 a (x ++ (32 ∷ y)) b q (sym h))
words_told (WithTwo a x y) (WithOne b z) p q h =
    let cut = cut_same 32 a b (x ++ (32 ∷ y)) z p.0 q.0 h in
    absurd (lacks_no_cut 32 x y z q.1 (sym cut.1))
words_told (WithTwo a x y) (WithTwo b z u) p q h =
    let cut = cut_same 32 a b (x ++ (32 ∷ y)) (z ++ (32 ∷ u)) p.0 q.0 h in
    let again = cut_same 32 x z y u p.1 q.1 cut.1 in
    rw (cut.0, again.0, again.1) refl

abbrev first_word : Words → List ℕ
first_word (Word w) = w
first_word (WithOne w a) = w
first_word (WithTwo w a b) = w

by_words : (e f : Entry) → EntryFits e → EntryFits f → words_of e ≡ words_of f → e ≡ f
by_words (Lend s n) (Lend t m) p q h = ap₂ Lend (decimal_injective s t p.0 q.0 (cc)) (name_told n m p.1 q.1 (cc))
by_words (Lend s n) f p q h = absurd (apart (codes "lend") (first_word (words_of f)) refl (ap first_word h))
by_words (Back n c) (Back m d) p q h = ap₂ Back (name_told n m p.0 q.0 (cc)) (decimal_injective c d p.1 q.1 (cc))
by_words (Back n c) f p q h = absurd (apart (codes "back") (first_word (words_of f)) refl (ap first_word h))
by_words (Gone n) (Gone m) p q h = ap Gone (name_told n m p q (cc))
by_words (Gone n) f p q h = absurd (apart (codes "gone") (first_word (words_of f)) refl (ap first_word h))
by_words (Fork n) (Fork m) p q h = ap Fork (name_told n m p q (cc))
by_words (Fork n) f p q h = absurd (apart (codes "fork") (first_word (words_of f)) refl (ap first_word h))
by_words (Cross n) (Cross m) p q h = ap Cross (name_told n m p q (cc))
by_words (Cross n) f p q h = absurd (apart (codes "cross") (first_word (words_of f)) refl (ap first_word h))
by_words (Keep k) (Keep l) p q h = ap Keep (decimal_injective k l p q (cc))
by_words (Keep k) f p q h = absurd (apart (codes "keep") (first_word (words_of f)) refl (ap first_word h))
by_words (Discard k) (Discard l) p q h = ap Discard (decimal_injective k l p q (cc))
by_words (Discard k) f p q h = absurd (apart (codes "discard") (first_word (words_of f)) refl (ap first_word h))
by_words (Release k) (Release l) p q h = ap Release (decimal_injective k l p q (cc))
by_words (Release k) f p q h = absurd (apart (codes "release") (first_word (words_of f)) refl (ap first_word h))
by_words Finish Finish p q h = refl
by_words Finish f p q h = absurd (apart (codes "finish") (first_word (words_of f)) refl (ap first_word h))
by_words (Halt k) (Halt l) p q h = ap Halt (decimal_injective k l p q (cc))
by_words (Halt k) f p q h = absurd (apart (codes "halt") (first_word (words_of f)) refl (ap first_word h))

pub entry_told : (e f : Entry) → EntryFits e → EntryFits f → text_of e ≡ text_of f → e ≡ f
entry_told e f p q h = by_words e f p q (words_told (words_of e) (words_of f) (words_apart e p) (words_apart f q) h)
