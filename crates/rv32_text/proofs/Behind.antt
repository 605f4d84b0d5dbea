-- Values whose texts are those of other values behind a mark
use Rattle.std.proofs.Common.{◌≡◌, ℕ, ◌+◌, List, [], ◌∷◌, ◌++◌, length, sym, ap, ◌∙◌, Option, Some, None, append_assoc, length-append}
use Rattle.std.specs.Prelude.{option_map}
use Rattle.rv32_text.specs.Languages.{BeginsBy, IsValueOf, Reads}
use Rattle.rv32_text.proofs.Languages.{cons_head}

-- the first letter of t, if it has one, is the first of s
abbrev pub StartsAs : List ℕ → List ℕ → Type 0
StartsAs t s = (c : ℕ) (cs : List ℕ) → t ≡ c ∷ cs → BeginsBy s c

starts_front : (s front after : List ℕ) → s ≡ front ++ after → StartsAs front s
starts_front s [] after e c cs is = absurd (cc)
starts_front s (f ∷ fs) after e c cs is = record { tail = fs ++ after; is = e ∙ ap (λ (x : ℕ). x ∷ (fs ++ after)) (cons_head f c fs cs is) }

starts_longer : (s front more tail : List ℕ) (letter : ℕ) → s ≡ front ++ (letter ∷ more) → StartsAs ((front ++ (letter ∷ [])) ++ tail) s
starts_longer s [] more tail letter e c cs is = record { tail = more; is = e ∙ ap (λ (x : ℕ). x ∷ more) (cons_head letter c tail cs is) }
starts_longer s (f ∷ fs) more tail letter e c cs is =
    record { tail = fs ++ (letter ∷ more); is = e ∙ ap (λ (x : ℕ). x ∷ (fs ++ (letter ∷ more))) (cons_head f c ((fs ++ (letter ∷ [])) ++ tail) cs is) }

pub record Source {V : Type 0} (F : V → Type 0) (w : V → List ℕ) (t : List ℕ) : Type 0 where
  pub value : V
  pub fits : F value
  pub is : w value ≡ t

-- a value of the first kind as one of the second, written behind p
pub record Becomes {U : Type 0} (G : U → Type 0) (x : U → List ℕ) (p t : List ℕ) (u : U) : Type 0 where
  pub fits : G u
  pub is : x u ≡ p ++ t

module _ {V U : Type 0} (F : V → Type 0) (w : V → List ℕ) (G : U → Type 0) (x : U → List ℕ) (p : List ℕ) (to : V → U) (s : List ℕ)
    (into : (v : V) → F v → Becomes G x p (w v) (to v))
    (back : (u : U) (t : List ℕ) → G u → x u ≡ p ++ t → StartsAs t s → Source F w t) where
  value_behind : (front after : List ℕ) (o : Option V) → s ≡ front ++ after → IsValueOf F w front o → IsValueOf G x (p ++ front) (option_map to o)
  value_behind front after None e none = λ u fits is. (let h = back u front fits is (starts_front s front after e) in none h.value h.fits h.is)
  value_behind front after (Some v) e some = (let h = into v some.0 in (h.fits, h.is ∙ ap (λ (y : List ℕ). p ++ y) some.1))

  pub reads_behind : (total used : ℕ) (o : Option V) → total ≡ length p + used → Reads F w s used o → Reads G x (p ++ s) total (option_map to o)
  reads_behind total used o sum h = record {
    front = p ++ h.front;
    after = h.after;
    splits = ap (λ (y : List ℕ). p ++ y) h.splits ∙ sym (append_assoc p h.front h.after);
    used_is = length-append p h.front ∙ (ap (λ (n : ℕ). length p + n) h.used_is ∙ sym sum);
    begins =
        (let i = into h.begins.value h.begins.fits in
        record {
          value = to h.begins.value;
          more = h.begins.more;
          fits = i.fits;
          is = i.is ∙ (ap (λ (y : List ℕ). p ++ y) h.begins.is ∙ sym (append_assoc p h.front h.begins.more));
        });
    longest = λ letter more is can.
        (let there : x can.value ≡ p ++ ((h.front ++ (letter ∷ [])) ++ can.more) =
        can.is ∙ (ap (λ (y : List ℕ). y ++ can.more) (append_assoc p h.front (letter ∷ [])) ∙ append_assoc p (h.front ++ (letter ∷ [])) can.more) in
        let b = back can.value ((h.front ++ (letter ∷ [])) ++ can.more) can.fits there
        (starts_longer s h.front more can.more letter (h.splits ∙ ap (λ (y : List ℕ). h.front ++ y) is)) in
        h.longest letter more is (record { value = b.value; more = can.more; fits = b.fits; is = b.is }));
    value_is = value_behind h.front h.after o h.splits h.value_is;
  }
