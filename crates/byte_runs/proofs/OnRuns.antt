-- The runs of the marked addresses below one address, and those below the next
use Rattle.std.proofs.Common.{◌≡◌, ℕ, ◌+◌, ◌-◌, ◌<◌, ◌≤◌, inl, inr, Bool, true, false, ◌&&◌, List, [], ◌∷◌, ◌++◌, length, get_or, refl, sym, ◌∙◌, ap, subst, arith}
use Rattle.std.specs.Prelude.{All}
use Rattle.std.proofs.lemmas.Bool.{cases_eq, cases_lt, false≢true, lt-ltb, le-ltb}
use Rattle.std.proofs.Math.Bool.{and-true, and-false}
use Rattle.std.proofs.lemmas.List.{get_or_append_left, get_or_push, length-append}
use Rattle.std.proofs.lemmas.List.Elements.{All-push}
use Rattle.std.proofs.lemmas.List.Quantifiers.{all_pairs_push}
use Rattle.byte_runs.specs.Runs.{Span, Holds, IsRun, AreRunsOf, marked_below}

-- the same marks have the same runs
pub runs_alike : (p r : ℕ → Bool) (rs : List Span) → ((q : ℕ) → p q ≡ r q) → AreRunsOf p rs → AreRunsOf r rs
runs_alike p r rs h a = record {
  rising = a.rising;
  each = λ k d l.
      let s : Span = get_or rs k d in
      let one : IsRun p s = a.each k d l in
      record {
        some = one.some;
        inside = λ q i. sym (h q) ∙ one.inside q i;
        before = λ q e. sym (h q) ∙ one.before q e;
        behind = sym (h (s.address + s.length)) ∙ one.behind;
      };
  every = λ q m. a.every q (h q ∙ m);
}

pub below_is : (p : ℕ → Bool) (q a : ℕ) → a < q → marked_below p q a ≡ p a
below_is p q a l = ap (λ (b : Bool). p a && b) (lt-ltb a q l) ∙ and-true (p a)

pub below_not : (p : ℕ → Bool) (q a : ℕ) → q ≤ a → marked_below p q a ≡ false
below_not p q a l = ap (λ (b : Bool). p a && b) (le-ltb a q l) ∙ and-false (p a)

pub below_low : (p : ℕ → Bool) (q a : ℕ) → marked_below p q a ≡ true → a < q
below_low p q a m = elim (cases_lt a q) [ inl l ↦ l | inr r ↦ absurd (false≢true (sym (below_not p q a r) ∙ m)) ]

-- no mark lies between the two
pub below_alike : (p : ℕ → Bool) (q t a : ℕ) → q ≤ t → (q ≤ a → a < t → p a ≡ false) → marked_below p q a ≡ marked_below p t a
below_alike p q t a le none = elim (cases_lt a q) [
  | inl l ↦ below_is p q a l ∙ sym (below_is p t a (omega arith))
  | inr r ↦ elim (cases_lt a t) [
    | inl m ↦ below_not p q a r ∙ sym (below_is p t a m ∙ none r m)
    | inr s ↦ below_not p q a r ∙ sym (below_not p t a s)
  ]
]

-- nothing is marked below 0
pub no_runs : (p : ℕ → Bool) → AreRunsOf (marked_below p 0) []
no_runs p = record {
  rising = λ i j d b l. absurd (omega (arith, l));
  each = λ k d l. absurd (omega (arith, l));
  every = λ q m. absurd (omega (arith, below_low p 0 q m));
}

-- a run ends at q at the latest
pub end_low : (p : ℕ → Bool) (q : ℕ) (r : Span) → IsRun (marked_below p q) r → r.address + r.length ≤ q
end_low p q r h =
    let last : ℕ = r.address + r.length - 1 in
    let some : 0 < r.length = h.some in
    let low : last < q = below_low p q last (h.inside last (omega (arith, some), omega (arith, some))) in
    omega (arith, some, low)

-- a run that ends below q is still one
pub run_stays : (p : ℕ → Bool) (q : ℕ) (r : Span) → r.address + r.length < q → IsRun (marked_below p q) r → IsRun (marked_below p (q + 1)) r
run_stays p q r l h =
    let some : 0 < r.length = h.some in
    let wider : (x : ℕ) → x < q → marked_below p (q + 1) x ≡ marked_below p q x = λ x m. below_is p (q + 1) x (omega (arith, m)) ∙ sym (below_is p q x m) in
    record {
      some = h.some;
      inside = λ x i. wider x (omega (arith, l, i.1)) ∙ h.inside x i;
      before = λ x e. wider x (omega (arith, l, e)) ∙ h.before x e;
      behind = wider (r.address + r.length) l ∙ h.behind;
    }

end_at : (rs : List Span) (r d : Span) → get_or (rs ++ (r ∷ [])) (length rs) d ≡ r
end_at rs r d = get_or_push rs r d (length rs) refl

-- behind an unmarked address no run ends
pub ends_before : (p : ℕ → Bool) (q : ℕ) (rs : List Span) → ((a : ℕ) → a + 1 ≡ q → p a ≡ false) → AreRunsOf (marked_below p q) rs → All (λ r. r.address + r.length < q) rs
ends_before p q rs before h k d l =
    let r : Span = get_or rs k d in
    let one : IsRun (marked_below p q) r = h.each k d l in
    let some : 0 < r.length = one.some in
    let low : r.address + r.length ≤ q = end_low p q r one in
    let last : ℕ = r.address + r.length - 1 in
    let marked : marked_below p q last ≡ true = one.inside last (omega (arith, some), omega (arith, some)) in
    elim (cases_eq (r.address + r.length) q) [
      | inl e ↦ absurd (false≢true (sym (before last (omega (arith, e, some))) ∙ sym (below_is p q last (below_low p q last marked)) ∙ marked))
      | inr ne ↦ omega (arith, low, ne)
    ]

-- a marked address behind an unmarked one begins a run
pub runs_begin : (p : ℕ → Bool) (q : ℕ) (rs : List Span) → p q ≡ true → ((a : ℕ) → a + 1 ≡ q → p a ≡ false) → AreRunsOf (marked_below p q) rs → AreRunsOf (marked_below p (q + 1)) (rs ++ (record { address = q; length = 1 } ∷ []))
runs_begin p q rs here before h =
    let new : Span = record { address = q; length = 1 } in
    let ends : (k : ℕ) (d : Span) → k < length rs → (get_or rs k d).address + (get_or rs k d).length < q = ends_before p q rs before h in
    record {
      rising = all_pairs_push (λ (x y : Span). x.address < y.address) rs new h.rising (λ k d l. omega (arith, ends k d l));
      each = All-push (IsRun (marked_below p (q + 1))) rs new (λ k d l. run_stays p q (get_or rs k d) (ends k d l) (h.each k d l)) (record {
        some = omega arith;
        inside = λ x i.
            let e : x ≡ q = omega (arith, i.0, i.1) in
            below_is p (q + 1) x (omega (arith, e)) ∙ ap p e ∙ here;
        before = λ x e. below_is p (q + 1) x (omega (arith, e)) ∙ before x e;
        behind = below_not p (q + 1) (q + 1) (omega arith);
      });
      every = λ x m. elim (cases_lt x q) [
        | inl l ↦
            let old = h.every x (below_is p q x l ∙ sym (below_is p (q + 1) x (omega (arith, l))) ∙ m) in
            (old.0, omega (arith, old.1, length-append rs (new ∷ [])), λ d. subst (λ (r : Span). Holds r x) (sym (get_or_append_left rs (new ∷ []) d old.0 old.1)) (old.2 d))
        | inr r ↦
            let e : x ≡ q = omega (arith, r, below_low p (q + 1) x m) in (
              length rs,
              omega (arith, length-append rs (new ∷ [])),
              λ d. subst (λ (s : Span). Holds s x) (sym (end_at rs new d)) (omega (arith, e), omega (arith, e)),
            )
      ];
    }

-- a marked address right behind the last run belongs to it
pub runs_grow : (p : ℕ → Bool) (q : ℕ) (front : List Span) (last : Span) → p q ≡ true → last.address + last.length ≡ q → AreRunsOf (marked_below p q) (front ++ (last ∷ []))
    → AreRunsOf (marked_below p (q + 1)) (front ++ (record { address = last.address; length = last.length + 1 } ∷ []))
runs_grow p q front last here end h =
    let longer : Span = record { address = last.address; length = last.length + 1 } in
    let size : length (front ++ (last ∷ [])) ≡ length front + 1 = length-append front (last ∷ []) in
    let size2 : length (front ++ (longer ∷ [])) ≡ length front + 1 = length-append front (longer ∷ []) in
    let one : IsRun (marked_below p q) last = subst (IsRun (marked_below p q)) (end_at front last last) (h.each (length front) last (omega (arith, size))) in
    let some : 0 < last.length = one.some in
    let first : (k : ℕ) (d : Span) → k < length front → IsRun (marked_below p q) (get_or front k d) = λ k d l.
    subst (IsRun (marked_below p q)) (get_or_append_left front (last ∷ []) d k l) (h.each k d (omega (arith, l, size))) in
    let low : (k : ℕ) (d : Span) → k < length front → (get_or front k d).address < last.address = λ k d l.
    omega (arith, h.rising k (length front) d l (omega (arith, size)), ap (λ (s : Span). s.address) (get_or_append_left front (last ∷ []) d k l), ap (λ (s : Span). s.address) (end_at front last d)) in
    let ends : (k : ℕ) (d : Span) → k < length front → (get_or front k d).address + (get_or front k d).length < q = λ k d l.
    let r : Span = get_or front k d in
    let le : r.address + r.length ≤ q = end_low p q r (first k d l) in
    let x : ℕ = last.address - 1 in
    let under : r.address < last.address = low k d l in
    elim (cases_eq (r.address + r.length) q) [
      | inl e ↦ absurd (false≢true (sym (one.before x (omega (arith, under))) ∙ (first k d l).inside x (omega (arith, under), omega (arith, under, e, end, some))))
      | inr ne ↦ omega (arith, le, ne)
    ] in
    record {
      rising = all_pairs_push (λ (x y : Span). x.address < y.address) front longer (λ i j d b l.
          omega (arith, h.rising i j d b (omega (arith, l, size)), ap (λ (s : Span). s.address) (get_or_append_left front (last ∷ []) d i (omega (arith, b, l))), ap (λ (s : Span). s.address) (get_or_append_left front (last ∷ []) d j l))) low;
      each = All-push (IsRun (marked_below p (q + 1))) front longer (λ k d l. run_stays p q (get_or front k d) (ends k d l) (first k d l)) (record {
        some = omega arith;
        inside = λ x i. elim (cases_lt x q) [
          | inl l ↦ below_is p (q + 1) x (omega (arith, l)) ∙ sym (below_is p q x l) ∙ one.inside x (i.0, omega (arith, l, end))
          | inr r ↦ let e : x ≡ q = omega (arith, r, i.1, end) in below_is p (q + 1) x (omega (arith, e)) ∙ ap p e ∙ here
        ];
        before = λ x e. below_is p (q + 1) x (omega (arith, e, end)) ∙ sym (below_is p q x (omega (arith, e, end, some))) ∙ one.before x e;
        behind = below_not p (q + 1) (last.address + (last.length + 1)) (omega (arith, end));
      });
      every = λ x m. elim (cases_lt x q) [
        | inl l ↦
            let old = h.every x (below_is p q x l ∙ sym (below_is p (q + 1) x (omega (arith, l))) ∙ m) in
            elim (cases_lt old.0 (length front)) [
              | inl before ↦ (old.0, omega (arith, before, size2), λ d. subst (λ (r : Span). Holds r x) (get_or_append_left front (last ∷ []) d old.0 before ∙ sym (get_or_append_left front (longer ∷ []) d old.0 before)) (old.2 d))
              | inr at ↦
                  let e : old.0 ≡ length front = omega (arith, at, old.1, size) in (
                    length front,
                    omega (arith, size2),
                    λ d.
                        let held : Holds last x = subst (λ (r : Span). Holds r x) (ap (λ (k : ℕ). get_or (front ++ (last ∷ [])) k d) e ∙ end_at front last d) (old.2 d) in
                        subst (λ (r : Span). Holds r x) (sym (end_at front longer d)) (held.0, omega (arith, held.1)),
                  )
            ]
        | inr r ↦
            let e : x ≡ q = omega (arith, r, below_low p (q + 1) x m) in
            (length front, omega (arith, size2), λ d. subst (λ (s : Span). Holds s x) (sym (end_at front longer d)) (omega (arith, e, end), omega (arith, e, end)))
      ];
    }
