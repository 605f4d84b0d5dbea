-- The line of an entry ends at its first line feed, and is text.
use Rattle.std.proofs.Common.{◌≡◌, ◌≢◌, ℕ, ◌<◌, ◌^◌, Bool, true, false, ◌&&◌, nat_lt, List, [], ◌∷◌, ◌++◌, codes, decimal, All, refl, sym, ap, ◌∙◌, arith, tests}
use Rattle.std.specs.Str.{IsAscii, IsUtf8}
use Rattle.std.proofs.lemmas.Str.{IsUtf8-from_ascii, IsAscii-append}
use Rattle.std.proofs.lemmas.Str.Ascii.{IsAscii-nil, IsAscii-cons}
use Rattle.std.proofs.lemmas.Fmt.{IsAscii-decimal}
use Rattle.speculation.specs.declared.tracks.Name.{Name}
use Rattle.speculation.specs.declared.history.Entry.{Entry}
use Rattle.speculation.specs.declared.history.Entry.TheVariants.{Lend, Back, Gone, Fork, Cross, Keep, Discard, Release, Finish, Halt}
use Rattle.board_events.specs.Texts.{kind_text, name_text, text_of, NameFits, EntryFits}
use Rattle.board_events.proofs.Bytes.{Lacks, lacks_cons, lacks_append, lacks_by, lacks, lacks_no_cut, cut_same}
use Rattle.board_events.proofs.Numbers.{decimal_lacks}
use Rattle.board_events.proofs.Telling.{entry_told}
use Rattle.journal_check.specs.Journals.{BeginsWith, HasNoEntry}

-- ASCII without a line feed
record IsPlain (bs : List ℕ) : Type 0 where
  lacks_feed : Lacks 10 bs
  ascii : IsAscii bs

are_ascii : List ℕ → Bool
are_ascii [] = true
are_ascii (b ∷ bs) = nat_lt b 128 && are_ascii bs

ascii-by : (bs : List ℕ) → are_ascii bs ≡ true → IsAscii bs
unfolding are_ascii
ascii-by [] h = IsAscii-nil
ascii-by (b ∷ bs) h = IsAscii-cons b bs (grind (arith, tests)) (ascii-by bs (grind (arith, tests)))

plain-codes : (bs : List ℕ) → lacks 10 bs ≡ true → are_ascii bs ≡ true → IsPlain bs
plain-codes bs p q = record { lacks_feed = lacks_by 10 bs p; ascii = ascii-by bs q }

plain-decimal : (n : ℕ) → n < 2 ^ 64 → IsPlain (decimal n)
plain-decimal n small = record { lacks_feed = decimal_lacks 10 n small (omega arith); ascii = IsAscii-decimal n small }

-- two parts with a space or a dot between them
plain-joined : (byte : ℕ) (xs ys : List ℕ) → 10 < byte → byte < 128 → IsPlain xs → IsPlain ys → IsPlain (xs ++ (byte ∷ ys))
plain-joined byte xs ys low high p q = record {
  lacks_feed = lacks_append 10 xs (byte ∷ ys) p.lacks_feed (lacks_cons 10 byte ys (λ e. omega (arith, e, low)) q.lacks_feed);
  ascii = IsAscii-append xs (byte ∷ ys) p.ascii (IsAscii-cons byte ys high q.ascii);
}

plain-spaced : (xs ys : List ℕ) → IsPlain xs → IsPlain ys → IsPlain (xs ++ (32 ∷ ys))
plain-spaced xs ys p q = plain-joined 32 xs ys (omega arith) (omega arith) p q

plain-kind : (normal : Bool) → IsPlain (kind_text normal)
unfolding are_ascii
plain-kind true = plain-codes (kind_text true) refl refl
plain-kind false = plain-codes (kind_text false) refl refl

plain-name : (n : Name) → NameFits n → IsPlain (name_text n)
plain-name n fits =
    plain-joined 46 (decimal n.generation) (decimal n.region ++ (46 ∷ kind_text n.normal)) (omega arith) (omega arith) (plain-decimal n.generation fits.generation)
    (plain-joined 46 (decimal n.region) (kind_text n.normal) (omega arith) (omega arith) (plain-decimal n.region fits.region) (plain-kind n.normal))

plain-text : (x : Entry) → EntryFits x → IsPlain (text_of x)
unfolding are_ascii
plain-text (Lend seat name) fits = plain-spaced (codes "lend") _ (plain-codes (codes "lend") refl refl) (plain-spaced (decimal seat) (name_text name) (plain-decimal seat fits.0) (plain-name name fits.1))
plain-text (Back name count) fits = plain-spaced (codes "back") _ (plain-codes (codes "back") refl refl) (plain-spaced (name_text name) (decimal count) (plain-name name fits.0) (plain-decimal count fits.1))
plain-text (Gone name) fits = plain-spaced (codes "gone") (name_text name) (plain-codes (codes "gone") refl refl) (plain-name name fits)
plain-text (Fork name) fits = plain-spaced (codes "fork") (name_text name) (plain-codes (codes "fork") refl refl) (plain-name name fits)
plain-text (Cross name) fits = plain-spaced (codes "cross") (name_text name) (plain-codes (codes "cross") refl refl) (plain-name name fits)
plain-text (Keep row) fits = plain-spaced (codes "keep") (decimal row) (plain-codes (codes "keep") refl refl) (plain-decimal row fits)
plain-text (Discard row) fits = plain-spaced (codes "discard") (decimal row) (plain-codes (codes "discard") refl refl) (plain-decimal row fits)
plain-text (Release bytes) fits = plain-spaced (codes "release") (decimal bytes) (plain-codes (codes "release") refl refl) (plain-decimal bytes fits)
plain-text Finish fits = plain-codes (codes "finish") refl refl
plain-text (Halt seat) fits = plain-spaced (codes "halt") (decimal seat) (plain-codes (codes "halt") refl refl) (plain-decimal seat fits)

-- the text of an entry is text
pub text-utf8 : (x : Entry) → EntryFits x → IsUtf8 (text_of x)
text-utf8 x fits = IsUtf8-from_ascii (text_of x) (plain-text x fits).ascii

-- a text begins with one entry
pub begins-one : (text : List ℕ) (x y : Entry) (more others : List ℕ) → BeginsWith text x more → BeginsWith text y others → (x ≡ y) × (more ≡ others)
begins-one text x y more others h k =
    let cut = cut_same 10 (text_of x) (text_of y) more others (plain-text x h.fits).lacks_feed (plain-text y k.fits).lacks_feed (sym h.parts ∙ k.parts) in
    (entry_told x y h.fits k.fits cut.0, cut.1)

lacks-all : (bs : List ℕ) → All (λ byte. byte ≢ 10) bs → Lacks 10 bs
lacks-all bs h i inside = h i 0 inside

-- a text without a line feed
pub none-uncut : (text : List ℕ) → All (λ byte. byte ≢ 10) text → HasNoEntry text
none-uncut text all x more h = lacks_no_cut 10 (text_of x) more text (lacks-all text all) h.parts

-- a text whose first line is cut off
module _ (text line more : List ℕ) (parts : text ≡ line ++ (10 ∷ more)) (first : All (λ byte. byte ≢ 10) line) where
  pub none-cut : ((x : Entry) → EntryFits x → text_of x ≢ line) → HasNoEntry text
  none-cut none x rest h =
      none x h.fits (cut_same 10 (text_of x) line rest more (plain-text x h.fits).lacks_feed (lacks-all line first) (sym h.parts ∙ parts)).0

  pub begins-cut : (x : Entry) → EntryFits x → text_of x ≡ line → BeginsWith text x more
  begins-cut x fits is = record { fits = fits; parts = parts ∙ ap (λ (bs : List ℕ). bs ++ (10 ∷ more)) (sym is) }
