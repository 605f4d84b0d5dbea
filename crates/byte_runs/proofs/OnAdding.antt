-- What a collector knows once a byte that differs was added
use Rattle.std.proofs.Common.{◌≡◌, ℕ, ◌+◌, ◌^◌, ◌<◌, ◌≤◌, inl, inr, true, List, [], ◌∷◌, ◌++◌, length, map, take, min, nat_lt, Option, Some, refl, sym, ◌∙◌, ap, subst, arith}
use Rattle.std.specs.Prelude.{All, unwrap_or}
use Rattle.std.specs.List.{range_with_len}
use Rattle.std.proofs.lemmas.Bool.{cases_lt, cond-true, cond-false, lt-ltb, le-ltb}
use Rattle.std.proofs.lemmas.List.{take_all, take-append-le, length-take, length-map, length_push, map_push, same_from_push, get_or_push, get_or_append_left}
use Rattle.std.proofs.lemmas.List.Elements.{All-push}
use Rattle.std.proofs.lemmas.List.FromFn.{length-map-range_with_len, map-range_with_len_more}
use Rattle.guest_model.specs.ByteMap.{ByteMap, byte, bytes_from}
use Rattle.byte_runs.specs.declared.run.Run.{Run}
use Rattle.byte_runs.specs.declared.collector.Collector.{Collector}
use Rattle.byte_runs.specs.Runs.{Span, Shows, differs, runs_below, shown, span_of}
use Rattle.byte_runs.specs.Collection.{Collected, IsEnd, Begins, Lengthens, shown_more}
use Rattle.byte_runs.proofs.OnJoined.{single, longer}
use Rattle.byte_runs.proofs.OnBelow.{below_begins, below_grows}

-- ---- the bytes that are shown

length-bytes : (m : ByteMap) (a k : ℕ) → length (bytes_from m a k) ≡ k
unfolding bytes_from
length-bytes m a k = length-map-range_with_len (λ (i : ℕ). byte m (a + i)) 0 k

bytes_none : (m : ByteMap) (a : ℕ) → bytes_from m a 0 ≡ []
unfolding bytes_from
bytes_none m a = refl

bytes_more : (m : ByteMap) (a k x : ℕ) → m (a + k) ≡ Some x → bytes_from m a (k + 1) ≡ bytes_from m a k ++ (x ∷ [])
unfolding bytes_from
bytes_more m a k x e =
    map-range_with_len_more (λ (i : ℕ). byte m (a + i)) 0 k k (omega arith)
    ∙ ap (λ (o : Option ℕ). map (λ (i : ℕ). byte m (a + i)) (range_with_len 0 k) ++ (unwrap_or o 0 ∷ [])) e

shown_low : (k : ℕ) → k < 16 → shown k ≡ k
shown_low k l = cond-true (nat_lt k 16) k 16 (lt-ltb k 16 l)

shown_high : (k : ℕ) → 16 ≤ k → shown k ≡ 16
shown_high k l = cond-false (nat_lt k 16) k 16 (le-ltb k 16 l)

-- of a run with one byte more
shown_next : (k : ℕ) → k < 16 → shown (k + 1) ≡ k + 1
shown_next k l = elim (cases_lt (k + 1) 16) [ inl low ↦ shown_low (k + 1) low | inr high ↦ shown_high (k + 1) high ∙ omega (arith, l, high) ]

-- a byte more is shown where fewer than 16 are
pub shown_push : (bytes new : List ℕ) (x : ℕ) → length bytes < 16 → new ≡ bytes ++ (x ∷ []) → new ≡ shown_more bytes x
shown_push bytes new x l e = e ∙ sym (cond-true (nat_lt (length bytes) 16) (bytes ++ (x ∷ [])) bytes (lt-ltb (length bytes) 16 l))

pub shown_full : (bytes : List ℕ) (x : ℕ) → 16 ≤ length bytes → bytes ≡ shown_more bytes x
shown_full bytes x l = sym (cond-false (nat_lt (length bytes) 16) (bytes ++ (x ∷ [])) bytes (le-ltb (length bytes) 16 l))

shown_longer : (m : ByteMap) (a k x : ℕ) (bytes : List ℕ) → m (a + k) ≡ Some x → bytes ≡ bytes_from m a (shown k) → shown_more bytes x ≡ bytes_from m a (shown (k + 1))
shown_longer m a k x bytes here is =
    let size : length bytes ≡ shown k = ap length is ∙ length-bytes m a (shown k) in
    elim (cases_lt k 16) [
      | inl l ↦
          sym (shown_push bytes (bytes ++ (x ∷ [])) x (omega (arith, size, shown_low k l, l)) refl)
          ∙ ap (λ (bs : List ℕ). bs ++ (x ∷ [])) (is ∙ ap (bytes_from m a) (shown_low k l))
          ∙ sym (bytes_more m a k x here)
          ∙ ap (bytes_from m a) (sym (shown_next k l))
      | inr l ↦
          sym (shown_full bytes x (omega (arith, size, shown_high k l)))
          ∙ is
          ∙ ap (bytes_from m a) (shown_high k l ∙ sym (shown_high (k + 1) (omega (arith, l))))
    ]

-- a run of one byte
shows_one : (m n : ByteMap) (q x y : ℕ) (run : Run) → m q ≡ Some x → n q ≡ Some y → run.address ≡ q → run.length ≡ 1 → run.left.items ≡ x ∷ [] → run.right.items ≡ y ∷ [] → Shows m n run
shows_one m n q x y run left right at one xs ys =
    let bytes : (o : ByteMap) (z : ℕ) → o q ≡ Some z → z ∷ [] ≡ bytes_from o run.address (shown run.length) = λ o z e.
    let here : q + 0 ≡ q = omega arith in
    sym (bytes_more o q 0 z (ap o here ∙ e) ∙ ap (λ (bs : List ℕ). bs ++ (z ∷ [])) (bytes_none o q)) ∙ ap (λ (a : ℕ). bytes_from o a 1) (sym at) ∙ ap (λ (k : ℕ). bytes_from o run.address (shown k)) (sym one) in
    record { left = xs ∙ bytes m x left; right = ys ∙ bytes n y right }

-- a run with one byte more
shows_longer : (m n : ByteMap) (x y : ℕ) (was is : Run) → m (was.address + was.length) ≡ Some x → n (was.address + was.length) ≡ Some y → is.address ≡ was.address → is.length ≡ was.length + 1
    → is.left.items ≡ shown_more was.left.items x → (length was.left.items ≡ length was.right.items → is.right.items ≡ shown_more was.right.items y) → Shows m n was → Shows m n is
shows_longer m n x y was is left right at more xs ys h =
    let long : length was.left.items ≡ length was.right.items = ap length h.left ∙ length-bytes m was.address (shown was.length) ∙ sym (ap length h.right ∙ length-bytes n was.address (shown was.length)) in
    let same : (o : ByteMap) → bytes_from o was.address (shown (was.length + 1)) ≡ bytes_from o is.address (shown is.length) = λ o.
    ap (λ (a : ℕ). bytes_from o a (shown (was.length + 1))) (sym at) ∙ ap (λ (k : ℕ). bytes_from o is.address (shown k)) (sym more) in
    record {
      left = xs ∙ shown_longer m was.address was.length x was.left.items left h.left ∙ same m;
      right = ys long ∙ shown_longer n was.address was.length y was.right.items right h.right ∙ same n;
    }

-- ---- a byte that begins a run

-- how many runs are kept
size_kept : (items : List Run) (most : ℕ) (rs : List Span) → map span_of items ≡ take most rs → length items ≡ min most (length rs)
size_kept items most rs kept = sym (length-map items span_of) ∙ ap length kept ∙ length-take most rs

pub collected_begin : (m n : ByteMap) (q x y : ℕ) (old new : Collector) → differs m n q ≡ true → m q ≡ Some x → n q ≡ Some y → (old.end ≡ Some q → ⊥)
    → new.most ≡ old.most → new.end ≡ Some (q + 1) → new.more ≤ q + 1 → Collected m n q old → Begins old new q x y → Collected m n (q + 1) new
collected_begin m n q x y old new differ left right apart most end few h (inl full) =
    let rs : List Span = runs_below (differs m n) q in
    let is : runs_below (differs m n) (q + 1) ≡ rs ++ (single q ∷ []) = below_begins (differs m n) q old.end differ h.end apart in
    let size : length old.runs.items ≡ min old.most (length rs) = size_kept old.runs.items old.most rs h.kept in
    let low : old.most ≤ length rs = omega (arith, size, full.0) in
    record {
      kept = ap (map span_of) full.1 ∙ h.kept ∙ sym (take-append-le old.most rs (single q ∷ []) low) ∙ ap (take old.most) (sym is) ∙ ap (λ (k : ℕ). take k (runs_below (differs m n) (q + 1))) (sym most);
      bytes = subst (All (Shows m n)) (sym full.1) h.bytes;
      more = omega (arith, full.2, h.more, ap length is, length_push rs (single q), most, low);
      few = few;
      end = subst (IsEnd (runs_below (differs m n) (q + 1))) (sym end) (rs, single q, is, refl);
    }
collected_begin m n q x y old new differ left right apart most end few h (inr kept) =
    let rs : List Span = runs_below (differs m n) q in
    let is : runs_below (differs m n) (q + 1) ≡ rs ++ (single q ∷ []) = below_begins (differs m n) q old.end differ h.end apart in
    let size : length old.runs.items ≡ min old.most (length rs) = size_kept old.runs.items old.most rs h.kept in
    let low : length rs < old.most = omega (arith, size, kept.0) in
    let long : length (runs_below (differs m n) (q + 1)) ≡ length rs + 1 = ap length is ∙ length_push rs (single q) in
    let run : Run = kept.2.0 in
    let span : span_of run ≡ single q = ap (λ (a : ℕ). record { address = a; length = run.length }) kept.2.2 ∙ ap (λ (k : ℕ). record { address = q; length = k }) kept.2.3 in
    record {
      kept = ap (map span_of) kept.2.1
          ∙ map_push span_of old.runs.items run
          ∙ ap (λ (xs : List Span). xs ++ (span_of run ∷ [])) (h.kept ∙ take_all old.most rs (omega (arith, low)))
          ∙ ap (λ (s : Span). rs ++ (s ∷ [])) span
          ∙ sym is
          ∙ sym (take_all new.most (runs_below (differs m n) (q + 1)) (omega (arith, long, low, most)));
      bytes = subst (All (Shows m n)) (sym kept.2.1) (All-push (Shows m n) old.runs.items run h.bytes (shows_one m n q x y run left right kept.2.2 kept.2.3 kept.2.4 kept.2.5));
      more = omega (arith, kept.1, h.more, long, low, most);
      few = few;
      end = subst (IsEnd (runs_below (differs m n) (q + 1))) (sym end) (rs, single q, is, refl);
    }

-- ---- a byte that belongs to the last run

-- which is kept
pub collected_longer : (m n : ByteMap) (q x y : ℕ) (old new : Collector) → q < 2 ^ 32 → differs m n q ≡ true → m q ≡ Some x → n q ≡ Some y → old.end ≡ Some q → old.more ≡ 0
    → new.most ≡ old.most → new.end ≡ Some (q + 1) → new.more ≡ old.more → Collected m n q old → Lengthens old.runs.items new.runs.items x y → Collected m n (q + 1) new
collected_longer m n q x y old new space differ left right end_is none most end more h (inl empty) =
    let ended : IsEnd (runs_below (differs m n) q) (Some q) = subst (IsEnd (runs_below (differs m n) q)) end_is h.end in
    let size : length old.runs.items ≡ min old.most (length (runs_below (differs m n) q)) = size_kept old.runs.items old.most (runs_below (differs m n) q) h.kept in
    absurd (omega (arith, size, h.more, none, ap length empty.0, ap length ended.2, length_push ended.0 ended.1))
collected_longer m n q x y old new space differ left right end_is none most end more h (inr l) =
    let rs : List Span = runs_below (differs m n) q in
    let ended : IsEnd rs (Some q) = subst (IsEnd rs) end_is h.end in
    let front : List Span = ended.0 in
    let last : Span = ended.1 in
    let is : runs_below (differs m n) (q + 1) ≡ front ++ (longer last ∷ []) = below_grows (differs m n) q front last differ ended.2 ended.3 in
    let size : length rs ≡ length front + 1 = ap length ended.2 ∙ length_push front last in
    let long : length (runs_below (differs m n) (q + 1)) ≡ length front + 1 = ap length is ∙ length_push front (longer last) in
    let low : length rs ≤ old.most = omega (arith, h.more, none) in
    let first : List Run = l.0 in
    let was : Run = l.1 in
    let now : Run = l.2 in
    let parts = same_from_push (map span_of first) front (span_of was) last (sym (map_push span_of first was) ∙ ap (map span_of) (sym l.3) ∙ h.kept ∙ take_all old.most rs low ∙ ended.2) in
    let at : was.address ≡ last.address = ap (λ (s : Span). s.address) parts.1 in
    let count : was.length ≡ last.length = ap (λ (s : Span). s.length) parts.1 in
    let here : was.address + was.length ≡ q = omega (arith, at, count, ended.3) in
    let one : now.length ≡ was.length + 1 = l.6 (omega (arith, here, space)) in
    let span : span_of now ≡ longer last = ap (λ (a : ℕ). record { address = a; length = now.length }) (l.5 ∙ at) ∙ ap (λ (k : ℕ). record { address = last.address; length = k }) (omega (arith, one, count)) in
    let shows : All (Shows m n) (first ++ (was ∷ [])) = subst (All (Shows m n)) l.3 h.bytes in
    let before : All (Shows m n) first = λ k d b. subst (Shows m n) (get_or_append_left first (was ∷ []) d k b) (shows k d (omega (arith, b, length_push first was))) in
    let behind : Shows m n was = subst (Shows m n) (get_or_push first was was (length first) refl) (shows (length first) was (omega (arith, length_push first was))) in
    record {
      kept = ap (map span_of) l.4
          ∙ map_push span_of first now
          ∙ ap (λ (xs : List Span). xs ++ (span_of now ∷ [])) parts.0
          ∙ ap (λ (s : Span). front ++ (s ∷ [])) span
          ∙ sym is
          ∙ sym (take_all new.most (runs_below (differs m n) (q + 1)) (omega (arith, long, size, low, most)));
      bytes = subst (All (Shows m n)) (sym l.4) (All-push (Shows m n) first now before (shows_longer m n x y was now (ap m here ∙ left) (ap n here ∙ right) l.5 one l.7 l.8 behind));
      more = omega (arith, more, none, long, size, low, most);
      few = omega (arith, more, none);
      end = subst (IsEnd (runs_below (differs m n) (q + 1))) (sym end) (front, longer last, is, omega (arith, ended.3));
    }

-- which is only counted
pub collected_counted : (m n : ByteMap) (q : ℕ) (old new : Collector) → differs m n q ≡ true → old.end ≡ Some q → (old.more ≡ 0 → ⊥)
    → new.runs.items ≡ old.runs.items → new.most ≡ old.most → new.end ≡ Some (q + 1) → new.more ≡ old.more → Collected m n q old → Collected m n (q + 1) new
collected_counted m n q old new differ end_is some items most end more h =
    let rs : List Span = runs_below (differs m n) q in
    let ended : IsEnd rs (Some q) = subst (IsEnd rs) end_is h.end in
    let front : List Span = ended.0 in
    let last : Span = ended.1 in
    let is : runs_below (differs m n) (q + 1) ≡ front ++ (longer last ∷ []) = below_grows (differs m n) q front last differ ended.2 ended.3 in
    let size : length rs ≡ length front + 1 = ap length ended.2 ∙ length_push front last in
    let long : length (runs_below (differs m n) (q + 1)) ≡ length front + 1 = ap length is ∙ length_push front (longer last) in
    let low : old.most ≤ length front = omega (arith, h.more, some, size) in
    record {
      kept = ap (map span_of) items
          ∙ h.kept
          ∙ ap (take old.most) ended.2
          ∙ take-append-le old.most front (last ∷ []) low
          ∙ sym (take-append-le old.most front (longer last ∷ []) low)
          ∙ ap (take old.most) (sym is)
          ∙ ap (λ (k : ℕ). take k (runs_below (differs m n) (q + 1))) (sym most);
      bytes = subst (All (Shows m n)) (sym items) h.bytes;
      more = omega (arith, more, h.more, long, size, most);
      few = omega (arith, more, h.few);
      end = subst (IsEnd (runs_below (differs m n) (q + 1))) (sym end) (front, longer last, is, omega (arith, ended.3));
    }
