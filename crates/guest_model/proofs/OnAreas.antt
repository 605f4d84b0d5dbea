-- What areas that rise without a common byte make of memory
use Rattle.std.proofs.Common.{◌≡◌, ℕ, zero, suc, ◌+◌, ◌-◌, ◌%◌, ◌<◌, ◌≤◌, Bool, true, false, ◌&&◌, List, [], ◌∷◌, length, get_or, Some, None, ◌⊎◌, inl, inr, refl, sym, ap, ◌∙◌, arith}
use Rattle.std.specs.Prelude.{nat_le, nat_lt, slice_index, option_map}
use Rattle.std.specs.List.{find, AllPairs}
use Rattle.std.proofs.lemmas.Bool.{cond-true, cond-false}
use Rattle.std.proofs.lemmas.Bool.Decides.{nat_tests}
use Rattle.std.proofs.lemmas.Bool.{cases_eq}
use Rattle.std.proofs.lemmas.Grind.{common_steps}
use Rattle.std.proofs.Math.ListN.{set, length-set}
use Rattle.guest_model.specs.AreaMap.{covers, areas_bytes, IsBelow, IsLayout}
use Rattle.guest_model.specs.declared.areas.Area.{Area}

pub covers-inside : (x : Area) (q : ℕ) → x.base ≤ q → q < x.base + length x.bytes → covers x q ≡ true
covers-inside x q l h = grind (arith, nat_tests)

pub covers-before : (x : Area) (q : ℕ) → q < x.base → covers x q ≡ false
covers-before x q l = grind (arith, nat_tests)

pub covers-after : (x : Area) (q : ℕ) → x.base + length x.bytes ≤ q → covers x q ≡ false
covers-after x q l = grind (arith, nat_tests)

-- the byte at an address of an area, wherever it stands in the list
found : (x : Area) (xs : List Area) (q : ℕ) → covers x q ≡ true → areas_bytes (x ∷ xs) q ≡ Some (slice_index x.bytes (q - x.base))
found x xs q h = ap (λ o. option_map (λ (y : Area). slice_index y.bytes (q - y.base)) o) (cond-true (covers x q) (Some x) (find (λ y. covers y q) xs) h)

skipped : (x : Area) (xs : List Area) (q : ℕ) → covers x q ≡ false → areas_bytes (x ∷ xs) q ≡ areas_bytes xs q
skipped x xs q h = ap (λ o. option_map (λ (y : Area). slice_index y.bytes (q - y.base)) o) (cond-false (covers x q) (Some x) (find (λ y. covers y q) xs) h)

later_pairs : (x : Area) (xs : List Area) → AllPairs IsBelow (x ∷ xs) → AllPairs IsBelow xs
later_pairs x xs h = λ i j d l r. h (suc i) (suc j) d (omega arith) (omega arith)

pub areas_bytes-at : (xs : List Area) (k q : ℕ) (d : Area) → AllPairs IsBelow xs → k < length xs → (get_or xs k d).base ≤ q → q < (get_or xs k d).base + length (get_or xs k d).bytes → areas_bytes xs q ≡ Some (slice_index (get_or xs k d).bytes (q - (get_or xs k d).base))
areas_bytes-at [] k q d p h l r = absurd (omega arith)
areas_bytes-at (x ∷ xs) zero q d p h l r = found x xs q (covers-inside x q l r)
areas_bytes-at (x ∷ xs) (suc k) q d p h l r =
    let below : x.base + length x.bytes ≤ (get_or xs k d).base = p 0 (suc k) d (omega arith) h in
    skipped x xs q (covers-after x q (omega arith)) ∙ areas_bytes-at xs k q d (later_pairs x xs p) (omega arith) l r

-- no byte where no area lies
pub areas_bytes-none : (xs : List Area) (q : ℕ) → ((k : ℕ) (d : Area) → k < length xs → covers (get_or xs k d) q ≡ false) → areas_bytes xs q ≡ None
areas_bytes-none [] q h = refl
areas_bytes-none (x ∷ xs) q h = skipped x xs q (h 0 x (omega arith)) ∙ areas_bytes-none xs q (λ k d l. h (suc k) d (omega arith))

-- ---- an area in another's place, with the same addresses

covers-same : (x y : Area) (q : ℕ) → y.base ≡ x.base → length y.bytes ≡ length x.bytes → covers y q ≡ covers x q
covers-same x y q b l = ap (λ n. covers_by n (length y.bytes)) b ∙ ap (λ n. covers_by x.base n) l
  where
    covers_by : ℕ → ℕ → Bool
    covers_by b n = nat_le b q && nat_lt q (b + n)

by_first : (x : Area) (xs ys : List Area) (q : ℕ) (t : Bool) → covers x q ≡ t → areas_bytes xs q ≡ areas_bytes ys q → areas_bytes (x ∷ xs) q ≡ areas_bytes (x ∷ ys) q
by_first x xs ys q true h e = found x xs q h ∙ sym (found x ys q h)
by_first x xs ys q false h e = skipped x xs q h ∙ e ∙ sym (skipped x ys q h)

-- it changes no byte outside of the area
pub areas_bytes-set_outside : (xs : List Area) (k q : ℕ) (d y : Area) → k < length xs → y.base ≡ (get_or xs k d).base → length y.bytes ≡ length (get_or xs k d).bytes → covers (get_or xs k d) q ≡ false → areas_bytes (set xs k y) q ≡ areas_bytes xs q
areas_bytes-set_outside [] k q d y h b l c = absurd (omega arith)
areas_bytes-set_outside (x ∷ xs) zero q d y h b l c = skipped y xs q (covers-same x y q b l ∙ c) ∙ sym (skipped x xs q c)
areas_bytes-set_outside (x ∷ xs) (suc k) q d y h b l c = by_first x (set xs k y) xs q (covers x q) refl (areas_bytes-set_outside xs k q d y (omega arith) b l c)

-- areas with the same addresses, one by one
pub record SameAddresses (xs ys : List Area) : Type 0 where
  pub count : length ys ≡ length xs
  pub base : (k : ℕ) (d : Area) → k < length xs → (get_or ys k d).base ≡ (get_or xs k d).base
  pub size : (k : ℕ) (d : Area) → k < length xs → length (get_or ys k d).bytes ≡ length (get_or xs k d).bytes

pub SameAddresses-set : (xs : List Area) (k : ℕ) (y : Area) → k < length xs → ((d : Area) → y.base ≡ (get_or xs k d).base) → ((d : Area) → length y.bytes ≡ length (get_or xs k d).bytes) → SameAddresses xs (set xs k y)
SameAddresses-set xs k y h b l = record {
  count = length-set xs k y;
  base = λ j d r. same_base j d r (cases_eq j k);
  size = λ j d r. same_size j d r (cases_eq j k);
}
  where
    same_base : (j : ℕ) (d : Area) → j < length xs → (j ≡ k) ⊎ (j ≡ k → ⊥) → (get_or (set xs k y) j d).base ≡ (get_or xs j d).base
    same_base j d r (inl e) = grind (arith, common_steps, b d)
    same_base j d r (inr n) = grind (arith, common_steps)

    same_size : (j : ℕ) (d : Area) → j < length xs → (j ≡ k) ⊎ (j ≡ k → ⊥) → length (get_or (set xs k y) j d).bytes ≡ length (get_or xs j d).bytes
    same_size j d r (inl e) = grind (arith, common_steps, l d)
    same_size j d r (inr n) = grind (arith, common_steps)

pub IsLayout-same : (xs ys : List Area) → SameAddresses xs ys → IsLayout xs → IsLayout ys
IsLayout-same xs ys s l = record {
  aligned = λ k d h.
      let r : k < length xs = omega (arith, s.count) in
      record {
        base = ap (λ n. n % 4096) (s.base k d r) ∙ (l.aligned k d r).base;
        length = ap (λ n. n % 4096) (s.size k d r) ∙ (l.aligned k d r).length;
      };
  rising = λ i j d h r.
      let q : j < length xs = omega (arith, s.count) in
      omega (arith, s.base i d (omega arith), s.size i d (omega arith), s.base j d q, l.rising i j d h q);
  within = λ k d h.
      let r : k < length xs = omega (arith, s.count) in
      omega (arith, s.base k d r, s.size k d r, l.within k d r);
}
