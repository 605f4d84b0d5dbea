use Rattle.std.proofs.Common.{◌≡◌, ℕ, ◌+◌, ◌/◌, ◌%◌, ◌<◌, ◌≤◌, List, Bool, true, false, length, refl, sym, ◌∙◌, arith}
use Rattle.std.specs.Prelude.{MatchBool}
use Rattle.std.specs.Bool.{OnTrue, OnFalse}
use Rattle.std.proofs.lemmas.Bool.{false≢true}
use Rattle.guest_model.specs.ByteMap.{write}
use Rattle.paged_image.specs.Owner.{page_bytes, is_own, overwritten}
use Rattle.paged_image.specs.Image.{content, written_of}
use Rattle.paged_image.specs.Changes.{owns}
use Rattle.paged_image.specs.declared.entry.Entry.{Entry}
use Rattle.paged_image.specs.declared.image.PagedImage.{PagedImage}
use Rattle.paged_image.proofs.OnEntries.{finds-set}
use Rattle.paged_image.proofs.OnImage.{advances-same, advances-put, content-put, owns-at, owns-absent, read_entry, own_written-put}
use Rattle.paged_image.proofs.image.PagedImage.put_in_own_page.Goals as goal

pub returns-then-from-offset-clause-advances : goal.returns-then-from-offset-clause-advances
returns-then-from-offset-clause-advances c = advances-same (λ _. false) c.args.self.now

pub returns-in_default-clause-why : goal.returns-in_default-clause-why
returns-in_default-clause-why c = λ h. absurd (false≢true (sym (owns-absent c.args.self.now (c.args.a / 4096) c.in_default.ensures.absent) ∙ h))

pub returns-in_default-clause-advances : goal.returns-in_default-clause-advances
returns-in_default-clause-advances c = advances-same (λ _. false) c.args.self.now

pub invariant_of-self : goal.invariant_of-self
invariant_of-self c =
    let s = c.args.self.now in
    let x = c.index_mut-entry.result.now in
    let y : Entry = record { number = x.number; page = c.overwrite.new.self } in
    let at = read_entry s.entries.items c.in-Some.place x c.in-Some.ensures.within c.index_mut-entry.ensures.value in
    record {
      table = s.table;
      finds = finds-set s.index.value.items s.entries.items (c.args.a / 4096) c.in-Some.place x y s.finds c.in-Some.ensures.index at refl;
      own_written = own_written-put s c.in-Some.place x y at refl c.overwrite.ensures.own;
    }

-- by the answer of the write into the page
done_by : (b : Bool) (s t : PagedImage) (a : ℕ) (from : List ℕ) (was : Bool) (new old : List ℕ) (Q : Type 0) → b ≡ was → owns s (a / 4096) ≡ was → a % 4096 + length from ≤ 4096
    → MatchBool b (new ≡ overwritten old (a % 4096) from) Q → (new ≡ overwritten old (a % 4096) from → content t ≡ write (content s) a from)
    → OnTrue b ((owns s (a / 4096) ≡ true) × (a % 4096 + length from ≤ 4096) × (content t ≡ write (content s) a from))
done_by true s t a from was new old Q is own fits m f = (own ∙ sym is, fits, f m)
done_by false s t a from was new old Q is own fits m f = tt

pub returns-clause-done : goal.returns-clause-done
returns-clause-done c =
    let s = c.args.self.now in
    let x = c.index_mut-entry.result.now in
    let y : Entry = record { number = x.number; page = c.overwrite.new.self } in
    let at = read_entry s.entries.items c.in-Some.place x c.in-Some.ensures.within c.index_mut-entry.ensures.value in
    let fits : c.args.a % 4096 + length c.args.from.now ≤ 4096 = omega arith in
    done_by c.overwrite.result s _ c.args.a c.args.from.now (is_own x.page) (page_bytes y.page) (page_bytes x.page) (y.page ≡ x.page) c.overwrite.ensures.answer
    (owns-at s (c.args.a / 4096) c.in-Some.place x c.in-Some.ensures.index at) fits c.overwrite.ensures.written
    (λ h. content-put s _ (c.args.a / 4096) c.in-Some.place x y c.in-Some.ensures.index at refl refl refl c.args.a c.args.from.now refl fits h)

why_by : (b was own : Bool) (Q : Type 0) → b ≡ was → own ≡ was → OnFalse b (own ≡ true → Q)
why_by true was own Q is same = tt
why_by false was own Q is same = λ h. absurd (false≢true (is ∙ sym same ∙ h))

pub returns-clause-why : goal.returns-clause-why
returns-clause-why c =
    let s = c.args.self.now in
    let x = c.index_mut-entry.result.now in
    let at = read_entry s.entries.items c.in-Some.place x c.in-Some.ensures.within c.index_mut-entry.ensures.value in
    why_by c.overwrite.result (is_own x.page) (owns s (c.args.a / 4096)) (4096 < c.args.a % 4096 + length c.args.from.now) c.overwrite.ensures.answer
    (owns-at s (c.args.a / 4096) c.in-Some.place x c.in-Some.ensures.index at)

pub returns-clause-advances : goal.returns-clause-advances
returns-clause-advances c =
    let s = c.args.self.now in
    let x = c.index_mut-entry.result.now in
    let y : Entry = record { number = x.number; page = c.overwrite.new.self } in
    let at = read_entry s.entries.items c.in-Some.place x c.in-Some.ensures.within c.index_mut-entry.ensures.value in
    advances-put s _ (c.args.a / 4096) c.in-Some.place x y c.in-Some.ensures.index at refl refl refl c.overwrite.ensures.own refl

pub returns-clause-written : goal.returns-clause-written
unfolding written_of
returns-clause-written c = refl
