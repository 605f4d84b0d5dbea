-- Sets of texts, and where a reader that goes through a text letter by letter stops. A letter is a byte.
use Rattle.std.specs.Prelude.{◌≡◌, ◌≢◌, ℕ, ◌+◌, List, [], ◌∷◌, ◌++◌, length, drop, Option, MatchOption}

-- A text with its end, a letter that no text has. So a text that is to end here is read as one letter more.
abbrev pub ended : List ℕ → List ℕ
ended text = text ++ (256 ∷ [])

-- what is left of a text behind this place, with its end
abbrev pub rest : List ℕ → ℕ → List ℕ
rest text place = ended (drop place text)

-- a text of the first set, and behind it one of the second
pub record Joined (First Second : List ℕ → Type 0) (t : List ℕ) : Type 0 where
  pub first : List ℕ
  pub second : List ℕ
  pub in_first : First first
  pub in_second : Second second
  pub is : t ≡ first ++ second

-- What s begins with is no text of the set. It agrees with one of them in its first k letters, and with none in the
-- letter behind these.
pub record Stops (Texts : List ℕ → Type 0) (s : List ℕ) (k : ℕ) : Type 0 where
  pub front : List ℕ
  pub letter : ℕ
  pub after : List ℕ
  pub more : List ℕ
  pub splits : s ≡ front ++ (letter ∷ after)
  pub place_is : length front ≡ k
  pub reached : Texts (front ++ more)
  pub no_further : (t u v : List ℕ) → Texts t → t ++ u ≢ front ++ (letter ∷ v)

-- the same of what is left of a text behind `from`, with the place counted from the text's start
pub record StopsAt (Texts : List ℕ → Type 0) (text : List ℕ) (from place : ℕ) : Type 0 where
  pub count : ℕ
  pub place_is : place ≡ from + count
  pub stops : Stops Texts (rest text from) count

-- s and the literal agree in their first k letters, and not in the next
pub record Differs (literal s : List ℕ) (k : ℕ) : Type 0 where
  pub front : List ℕ
  pub wanted : ℕ
  pub missing : List ℕ
  pub letter : ℕ
  pub after : List ℕ
  pub wanted_is : literal ≡ front ++ (wanted ∷ missing)
  pub letter_is : s ≡ front ++ (letter ∷ after)
  pub differ : wanted ≢ letter
  pub place_is : length front ≡ k

-- s begins with this letter
pub record BeginsBy (s : List ℕ) (letter : ℕ) : Type 0 where
  pub tail : List ℕ
  pub is : s ≡ letter ∷ tail

-- some value's text begins with this one
pub record CanBegin {V : Type 0} (Fits : V → Type 0) (write : V → List ℕ) (front : List ℕ) : Type 0 where
  pub value : V
  pub more : List ℕ
  pub fits : Fits value
  pub is : write value ≡ front ++ more

-- no value's text begins with this one
abbrev pub NoneBegins : {V : Type 0} → (V → Type 0) → (V → List ℕ) → List ℕ → Type 0
NoneBegins {V} Fits write front = (v : V) (more : List ℕ) → Fits v → write v ≢ front ++ more

-- The value whose text this is; none has this text where there is None.
abbrev pub IsValueOf : {V : Type 0} → (V → Type 0) → (V → List ℕ) → List ℕ → Option V → Type 0
IsValueOf {V} Fits write front value = MatchOption value ((v : V) → Fits v → write v ≢ front) (λ v. Fits v × (write v ≡ front))

-- The first `used` letters of s are as many as can begin the text of a value. They are the text of this value, and of
-- none where there is None.
pub record Reads {V : Type 0} (Fits : V → Type 0) (write : V → List ℕ) (s : List ℕ) (used : ℕ) (value : Option V) : Type 0 where
  pub front : List ℕ
  pub after : List ℕ
  pub splits : s ≡ front ++ after
  pub used_is : length front ≡ used
  pub begins : CanBegin Fits write front
  pub longest : (letter : ℕ) (more : List ℕ) → after ≡ letter ∷ more → CanBegin Fits write (front ++ (letter ∷ [])) → ⊥
  pub value_is : IsValueOf Fits write front value

-- the text of a value, and a literal behind it
pub record OneOf {V : Type 0} (Fits : V → Type 0) (write : V → List ℕ) (literal t : List ℕ) : Type 0 where
  pub value : V
  pub fits : Fits value
  pub is : t ≡ write value ++ literal
