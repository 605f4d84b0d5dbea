-- Lines cut at their spaces, and names at their dots
use Rattle.std.proofs.Common.{◌≡◌, ℕ, Bool, true, false, List, ◌∷◌, ◌++◌, Option, Some, None, MatchOption, IfSome, IfNone, Bor, codes, decimal, refl, ap, sym, ◌∙◌, arith}
use Rattle.std.proofs.lemmas.Str.Pattern.{IsSplitOnceResult, split_after, split_parts}
use Rattle.speculation.specs.declared.tracks.Name.{Name}
use Rattle.speculation.specs.declared.history.Entry.{Entry}
use Rattle.speculation.specs.declared.history.Entry.TheVariants.{Lend, Back, Gone, Fork, Cross, Keep, Discard, Release, Finish, Halt}
use Rattle.board_events.specs.Texts.{kind_text, name_text, Words, Word, WithOne, WithTwo, line_of, words_of, text_of, NameFits, EntryFits}
use Rattle.board_events.proofs.Bytes.{Lacks, lacks_cons, lacks_append, lacks_by, lacks_no_cut}
use Rattle.board_events.proofs.Numbers.{decimal_lacks}

kind_lacks : (normal : Bool) → Lacks 32 (kind_text normal)
kind_lacks true = lacks_by 32 (kind_text true) refl
kind_lacks false = lacks_by 32 (kind_text false) refl

name_lacks : (n : Name) → NameFits n → Lacks 32 (name_text n)
name_lacks n fits =
    lacks_append 32 _ _ (decimal_lacks 32 n.generation fits.generation (omega arith)) (lacks_cons 32 46 _ (λ e. omega (arith, e))
    (lacks_append 32 _ _ (decimal_lacks 32 n.region fits.region (omega arith)) (lacks_cons 32 46 _ (λ e. omega (arith, e)) (kind_lacks n.normal))))

-- no word but the last of three has a space
abbrev pub Apart : Words → Type 0
Apart (Word w) = Lacks 32 w
Apart (WithOne w a) = Lacks 32 w × Lacks 32 a
Apart (WithTwo w a b) = Lacks 32 w × Lacks 32 a

pub words_apart : (e : Entry) → EntryFits e → Apart (words_of e)
words_apart (Lend seat name) fits = (lacks_by 32 (codes "lend") refl, decimal_lacks 32 seat fits.0 (omega arith))
words_apart (Back name count) fits = (lacks_by 32 (codes "back") refl, name_lacks name fits.0)
words_apart (Gone name) fits = (lacks_by 32 (codes "gone") refl, name_lacks name fits)
words_apart (Fork name) fits = (lacks_by 32 (codes "fork") refl, name_lacks name fits)
words_apart (Cross name) fits = (lacks_by 32 (codes "cross") refl, name_lacks name fits)
words_apart (Keep row) fits = (lacks_by 32 (codes "keep") refl, decimal_lacks 32 row fits (omega arith))
words_apart (Discard row) fits = (lacks_by 32 (codes "discard") refl, decimal_lacks 32 row fits (omega arith))
words_apart (Release bytes) fits = (lacks_by 32 (codes "release") refl, decimal_lacks 32 bytes fits (omega arith))
words_apart Finish fits = lacks_by 32 (codes "finish") refl
words_apart (Halt seat) fits = (lacks_by 32 (codes "halt") refl, decimal_lacks 32 seat fits (omega arith))

-- the words of a line that is cut once, and whose rest has no space
module _ (line : List ℕ) (word rest : Bor (List ℕ)) (cut : IsSplitOnceResult 32 line (Some (word, rest))) where
  pub one_cut : IsSplitOnceResult 32 rest.now None → (w : Words) → Apart w → line_of w ≡ line → w ≡ WithOne word.now rest.now
  one_cut whole (Word x) apart is = absurd (lacks_no_cut 32 word.now rest.now x apart (is ∙ (split_parts 32 line (Some (word, rest)) cut (omega arith)).0))
  one_cut whole (WithOne x a) apart is =
      let h = split_after 32 line x a (Some (word, rest)) cut (omega arith) (sym is) apart.0 in
      rw (h.0, h.1) refl
  one_cut whole (WithTwo x a b) apart is =
      let h = split_after 32 line x (a ++ (32 ∷ b)) (Some (word, rest)) cut (omega arith) (sym is) apart.0 in
      absurd (split_after 32 rest.now a b None whole (omega arith) h.1 apart.1)

  pub no_two_words : IsSplitOnceResult 32 rest.now None → (o : Option Entry) → IfNone o ((e : Entry) → EntryFits e → words_of e ≡ WithOne word.now rest.now → ⊥)
      → IfNone o ((e : Entry) → EntryFits e → text_of e ≡ line → ⊥)
  no_two_words whole None none = λ e fits is. none e fits (one_cut whole (words_of e) (words_apart e fits) is)
  no_two_words whole (Some x) none = tt {0}

  -- and of one that is cut twice
  module _ (first second : Bor (List ℕ)) (again : IsSplitOnceResult 32 rest.now (Some (first, second))) where
    pub two_cuts : (w : Words) → Apart w → line_of w ≡ line → w ≡ WithTwo word.now first.now second.now
    two_cuts (Word x) apart is = absurd (lacks_no_cut 32 word.now rest.now x apart (is ∙ (split_parts 32 line (Some (word, rest)) cut (omega arith)).0))
    two_cuts (WithOne x a) apart is =
        let h = split_after 32 line x a (Some (word, rest)) cut (omega arith) (sym is) apart.0 in
        absurd (lacks_no_cut 32 first.now second.now a apart.1 (sym h.1 ∙ (split_parts 32 rest.now (Some (first, second)) again (omega arith)).0))
    two_cuts (WithTwo x a b) apart is =
        let h = split_after 32 line x (a ++ (32 ∷ b)) (Some (word, rest)) cut (omega arith) (sym is) apart.0 in
        let k = split_after 32 rest.now a b (Some (first, second)) again (omega arith) h.1 apart.1 in
        rw (h.0, k.0, k.1) refl

    pub joined : line_of (WithTwo word.now first.now second.now) ≡ line
    joined =
        let h = (split_parts 32 line (Some (word, rest)) cut (omega arith)).0 in
        let k = (split_parts 32 rest.now (Some (first, second)) again (omega arith)).0 in
        rw h (rw k refl)

    pub three_words : (o : Option Entry) → IfSome o (λ e. words_of e ≡ WithTwo word.now first.now second.now) → IfSome o (λ e. text_of e ≡ line)
    three_words None h = tt {0}
    three_words (Some e) h = ap line_of h ∙ joined

    pub no_three_words : (o : Option Entry) → IfNone o ((e : Entry) → EntryFits e → words_of e ≡ WithTwo word.now first.now second.now → ⊥)
        → IfNone o ((e : Entry) → EntryFits e → text_of e ≡ line → ⊥)
    no_three_words None none = λ e fits is. none e fits (two_cuts (words_of e) (words_apart e fits) is)
    no_three_words (Some x) none = tt {0}

pub no_name : (text : List ℕ) (o : Option Name) → ((n : Name) → NameFits n → name_text n ≡ text → ⊥) → IfNone o ((n : Name) → NameFits n → name_text n ≡ text → ⊥)
no_name text None none = none
no_name text (Some n) none = tt {0}

-- the parts of this text, if it is xs, the byte c, and ys
abbrev pub Parts : List ℕ → List ℕ → Option (Bor (List ℕ) × Bor (List ℕ)) → Type 0
Parts xs ys r = MatchOption r ⊥ (λ x. (x.0.now ≡ xs) × (x.1.now ≡ ys))

-- a name cut at its dots
module _ (n : Name) (fits : NameFits n) (text : List ℕ) (is : name_text n ≡ text) where
  pub dot_once : (r : Option (Bor (List ℕ) × Bor (List ℕ))) → IsSplitOnceResult 46 text r → Parts (decimal n.generation) (decimal n.region ++ (46 ∷ kind_text n.normal)) r
  dot_once r cut = split_after 46 text (decimal n.generation) (decimal n.region ++ (46 ∷ kind_text n.normal)) r cut (omega arith) (sym is) (decimal_lacks 46 n.generation fits.generation (omega arith))

  pub dot_twice : (rest : List ℕ) → rest ≡ decimal n.region ++ (46 ∷ kind_text n.normal) → (r : Option (Bor (List ℕ) × Bor (List ℕ))) → IsSplitOnceResult 46 rest r → Parts (decimal n.region) (kind_text n.normal) r
  dot_twice rest rest_is r cut = split_after 46 rest (decimal n.region) (kind_text n.normal) r cut (omega arith) rest_is (decimal_lacks 46 n.region fits.region (omega arith))
