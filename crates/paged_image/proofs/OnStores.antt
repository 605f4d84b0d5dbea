-- Stores as a whole: what the steps of a store add up to
use Rattle.std.proofs.Common.{◌≡◌, ℕ, ◌+◌, ◌-◌, ◌*◌, ◌/◌, ◌%◌, ◌<◌, ◌≤◌, ◌⊎◌, inl, inr, Bool, true, false, ◌&&◌, ◌||◌, List, ◌++◌, length, take, drop, Ok, Err, Result, refl, sym, ◌∙◌, ap, arith}
use Rattle.std.specs.Prelude.{nat_le, nat_lt, OnOk, is_err}
use Rattle.std.specs.Bool.{OnTrue, OnFalse}
use Rattle.std.proofs.lemmas.Bool.{false≢true, cases_lt}
use Rattle.std.proofs.lemmas.Bool.Decides.{nat_tests}
use Rattle.std.proofs.lemmas.Grind.{common_steps}
use Rattle.std.proofs.lemmas.List.{drop-take, take-take, take-append-drop}
use Rattle.guest_model.specs.ByteMap.{ByteMap, mapped, write, Stores, Keeps}
use Rattle.guest_model.specs.declared.memory.StoreFault.{StoreFault}
use Rattle.guest_model.specs.declared.memory.StoreFault.TheVariants.{Unmapped, NoMemory}
use Rattle.guest_model.proofs.OnByteMap.{write-outside}
use Rattle.paged_image.specs.WriteSet.{has}
use Rattle.paged_image.specs.Pages.{touches}
use Rattle.paged_image.specs.Image.{content, written_of, owned_of, shared_in}
use Rattle.paged_image.specs.Changes.{Marks, Stored, page_of, owns, Advances}
use Rattle.paged_image.specs.declared.image.PagedImage.{PagedImage}
use Rattle.paged_image.proofs.OnPages.{mapped-page}
use Rattle.paged_image.proofs.OnEntries.{own_count-grows, bytes_at-there, entry_at-there}
use Rattle.paged_image.proofs.OnImage.{table_of, own_at-some, owns-written, advances-more, or_left, or_right}
use Rattle.paged_image.proofs.OnRange.{write-append}

pub on_ok : {T E : Type 0} (r : Result T E) (P : Type 0) → false ≡ is_err r → OnOk r P → P
on_ok (Ok x) P e h = h
on_ok (Err x) P e h = absurd (false≢true e)

-- ---- the touched pages

pub touches-at : (a n k : ℕ) → k < n → touches a n ((a + k) / 4096) ≡ true
touches-at a n k l = grind (arith, nat_tests)

touches_some : (a n p : ℕ) → touches a n p ≡ true → 0 < n
touches_some a n p h = grind (arith, nat_tests)

touches_low : (a n p : ℕ) → touches a n p ≡ true → a / 4096 ≤ p
touches_low a n p h = grind (arith, nat_tests)

touches_high : (a n p : ℕ) → touches a n p ≡ true → p * 4096 < a + n
touches_high a n p h = grind (arith, nat_tests)

touches_parts : (a n p : ℕ) → touches a n p ≡ true → (0 < n) × (a / 4096 ≤ p) × (p * 4096 < a + n)
touches_parts a n p h = (touches_some a n p h, touches_low a n p h, touches_high a n p h)

pub touched_address : (a n p : ℕ) → touches a n p ≡ true → (k : ℕ) × (k < n) × ((a + k) / 4096 ≡ p)
touched_address a n p h =
    let parts : (0 < n) × (a / 4096 ≤ p) × (p * 4096 < a + n) = touches_parts a n p h in
    (p * 4096 - a, omega arith, omega arith)

-- the pages from that of the first address to that of the last
pub touches-range : (a n last p : ℕ) → 0 < n → last ≡ a + (n - 1) → (nat_le (a / 4096) p && nat_lt p (last / 4096 + 1)) ≡ true → touches a n p ≡ true
touches-range a n last p some is h = grind (arith, nat_tests)

-- ---- a store that was carried out, and one that was refused for want of memory

owned_after : (s t : PagedImage) (a n : ℕ) → Advances (touches a n) s t → owned_of t ≤ owned_of s + shared_in s a n
unfolding owned_of shared_in
owned_after s t a n f = own_count-grows (touches a n) s.entries.items t.entries.items f.grows

-- ---- written pages and bytes that stay

pub kept : (s t : PagedImage) (a : ℕ) (bs : List ℕ) (r : Result (Unit {0}) StoreFault) → Stores true (content s) (content t) a bs r → Marks (written_of s) (written_of t) a (length bs) r
    → Keeps (λ q. has (written_of s) (q / 4096)) (content s) (λ q. has (written_of t) (q / 4096)) (content t)
kept s t a bs (Ok _) st m = record {
  stays = λ q w. m (q / 4096) ∙ or_left (has (written_of s) (q / 4096)) (touches a (length bs) (q / 4096)) w;
  outside = λ q w. ap (λ (b : ByteMap). b q) st.1 ∙ write-outside (content s) a bs q (untouched q w (cases_lt q a) (cases_lt q (a + length bs)));
}
  where
    untouched : (q : ℕ) → has (written_of t) (q / 4096) ≡ false → (q < a) ⊎ (a ≤ q) → (q < a + length bs) ⊎ (a + length bs ≤ q) → (q < a) ⊎ (a + length bs ≤ q)
    untouched q w (inl l) _ = inl l
    untouched q w (inr l) (inr r) = inr r
    untouched q w (inr l) (inl r) =
        let e : a + (q - a) ≡ q = omega arith in
        let touched : touches a (length bs) (q / 4096) ≡ true = ap (λ (i : ℕ). touches a (length bs) (i / 4096)) (sym e) ∙ touches-at a (length bs) (q - a) (omega arith) in
        absurd (false≢true (sym w ∙ m (q / 4096) ∙ or_right (has (written_of s) (q / 4096)) (touches a (length bs) (q / 4096)) touched))
kept s t a bs (Err Unmapped) st m = record {
  stays = λ q w. ap (λ (ws : List ℕ). has ws (q / 4096)) m ∙ w;
  outside = λ q w. ap (λ (b : ByteMap). b q) st.1;
}
kept s t a bs (Err NoMemory) st m = record {
  stays = λ q w. m.0 (q / 4096) w;
  outside = λ q w. ap (λ (b : ByteMap). b q) st.2;
}

either_way : (old new may : Bool) → (old ≡ true → new ≡ true) → (may ≡ true → new ≡ true) → (new ≡ true → (old || may) ≡ true) → new ≡ (old || may)
either_way true new may f g h = f refl
either_way false new true f g h = g refl
either_way false true false f g h = sym (h refl)
either_way false false false f g h = refl

marks_ok : (s t : PagedImage) (a n : ℕ) → Advances (touches a n) s t → ((k : ℕ) → k < n → owns t ((a + k) / 4096) ≡ true) → (p : ℕ) → has (written_of t) p ≡ (has (written_of s) p || touches a n p)
unfolding written_of
marks_ok s t a n f own p = either_way (has s.written p) (has t.written p) (touches a n p) (f.marked p)
    (λ h. let k = touched_address a n p h in owns-written t p (ap (owns t) (sym k.2) ∙ own k.0 k.1)) (f.marks p)

pub stored_ok : (s t : PagedImage) (a : ℕ) (bs : List ℕ) → mapped (content s) a (length bs) ≡ true → content t ≡ write (content s) a bs → Advances (touches a (length bs)) s t
    → ((k : ℕ) → k < length bs → owns t ((a + k) / 4096) ≡ true) → Stored s t a bs (Ok tt)
unfolding written_of
stored_ok s t a bs there is f own = record {
  stores = (there, is);
  kept = kept s t a bs (Ok tt) (there, is) (marks_ok s t a (length bs) f own);
  marks = marks_ok s t a (length bs) f own;
  owned = owned_after s t a (length bs) f;
}

pub stored_refused : (s t : PagedImage) (a : ℕ) (bs : List ℕ) → mapped (content s) a (length bs) ≡ true → content t ≡ content s → Advances (touches a (length bs)) s t → Stored s t a bs (Err NoMemory)
unfolding written_of
stored_refused s t a bs there is f = record {
  stores = (refl, there, is);
  kept = kept s t a bs (Err NoMemory) (refl, there, is) (f.marked, f.marks);
  marks = (f.marked, f.marks);
  owned = owned_after s t a (length bs) f;
}

-- a range on one own page
pub mapped-own : (s : PagedImage) (a n : ℕ) → owns s (a / 4096) ≡ true → a % 4096 + n ≤ 4096 → mapped (content s) a n ≡ true
unfolding content
mapped-own s a n own fits =
    let at = own_at-some s.index.value.items s.entries.items (a / 4096) own in
    mapped-page (page_of s) (table_of s) a n _ (bytes_at-there s.index.value.items s.entries.items (a / 4096) at.1 (entry_at-there s.index.value.items s.entries.items (a / 4096) at.0 at.2 ∙ at.3)) fits

pub stored_in_page : (s t : PagedImage) (a : ℕ) (bs : List ℕ) → owns s (a / 4096) ≡ true → a % 4096 + length bs ≤ 4096 → content t ≡ write (content s) a bs → Advances (λ _. false) s t → Stored s t a bs (Ok tt)
stored_in_page s t a bs own fits is f =
    stored_ok s t a bs (mapped-own s a (length bs) own fits) is (advances-more (λ _. false) (touches a (length bs)) s t (λ p h. absurd (false≢true h)) f)
    (λ k l. let page : (a + k) / 4096 ≡ a / 4096 = omega arith in ap (owns t) page ∙ f.owns (a / 4096) own)

-- a write into an own page is always carried out where it fits
pub put_done : (b own : Bool) (m : ℕ) (P : Type 0) → OnTrue b P → OnFalse b (own ≡ true → 4096 < m) → own ≡ true → m ≤ 4096 → P
put_done true own m P h why is fits = h
put_done false own m P h why is fits = absurd (let l : 4096 < m = why is in omega arith)

pub write_more : (m n o : ByteMap) (a done k : ℕ) (from : List ℕ) → done + k ≤ length from → n ≡ write m a (take done from) → o ≡ write n (a + done) (take (done + k - done) (drop done from)) → o ≡ write m a (take (done + k) from)
write_more m n o a done k from fits first next =
    let size : length (take done from) ≡ done = front_length done from (omega arith) in
    let whole : take done from ++ take (done + k - done) (drop done from) ≡ take (done + k) from = joined done k from in
    next ∙ ap (λ (x : ByteMap). write x (a + done) (take (done + k - done) (drop done from))) first
    ∙ ap (λ (i : ℕ). write (write m a (take done from)) (a + i) (take (done + k - done) (drop done from))) (sym size)
    ∙ write-append m a (take done from) (take (done + k - done) (drop done from)) ∙ ap (write m a) whole
  where
    front_length : (i : ℕ) (xs : List ℕ) → i ≤ length xs → length (take i xs) ≡ i
    front_length i xs h = grind (arith, common_steps)

    joined : (i k : ℕ) (xs : List ℕ) → take i xs ++ take (i + k - i) (drop i xs) ≡ take (i + k) xs
    joined i k xs =
        let e : i + k - i ≡ k = omega arith in
        ap (λ (j : ℕ). take i xs ++ take j (drop i xs)) e ∙ ap (λ (ys : List ℕ). take i xs ++ ys) (sym (drop-take i k xs))
        ∙ ap (λ (ys : List ℕ). ys ++ drop i (take (i + k) xs)) (sym (take-take i (i + k) xs (omega arith))) ∙ take-append-drop i (take (i + k) xs)
