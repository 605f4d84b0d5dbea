use Rattle.std.proofs.Common.{◌≡◌, ◌==◌, true, false, is_some, refl, sym, ◌∙◌, ap}
use Rattle.std.proofs.lemmas.Bool.{false≢true}
use Rattle.paged_image.specs.Owner.{is_own}
use Rattle.paged_image.specs.declared.entry.Entry.{Entry}
use Rattle.paged_image.proofs.OnEntries.{finds-set, bytes_at-set, own_at-set_same}
use Rattle.paged_image.proofs.OnImage.{advances-same, advances-own, advances-equal, page_of-absent, owns-at, read_entry, read_same, own_written-own}
use Rattle.paged_image.proofs.image.PagedImage.own_page.Goals as goal

pub returns-in_default-clause-advances : goal.returns-in_default-clause-advances
returns-in_default-clause-advances c = advances-same (λ p. p == c.args.number) c.args.self.now

pub returns-in_default-clause-own : goal.returns-in_default-clause-own
returns-in_default-clause-own c = λ h. absurd (false≢true (sym (ap is_some (page_of-absent c.args.self.now c.args.number c.in_default.ensures.absent)) ∙ h))

pub returns-then-is_own-clause-advances : goal.returns-then-is_own-clause-advances
returns-then-is_own-clause-advances c = advances-same (λ p. p == c.args.number) c.args.self.now

pub returns-then-is_own-clause-own : goal.returns-then-is_own-clause-own
returns-then-is_own-clause-own c = λ _.
    let s = c.args.self.now in
    let x = c.index.result.now in
    owns-at s c.args.number c.in-Some.place x c.in-Some.ensures.index (read_entry s.entries.items c.in-Some.place x c.in-Some.ensures.within c.index.ensures) ∙ sym c.if-is_own.ensures

pub returns-in_err-insert-clause-advances : goal.returns-in_err-insert-clause-advances
returns-in_err-insert-clause-advances c = advances-equal (λ p. p == c.args.number) c.args.self.now _ refl refl c.in_err-insert.ensures.err

pub invariant_of-self-2 : goal.invariant_of-self-2
invariant_of-self-2 c =
    let s = c.args.self.now in
    let x = c.index_mut-entry.result.now in
    let y : Entry = record { number = x.number; page = c.make_own.new.self } in
    let at = read_entry s.entries.items c.in-Some.place x c.in-Some.ensures.within c.index_mut-entry.ensures.value in
    record {
      table = s.table;
      finds = finds-set s.index.value.items s.entries.items c.args.number c.in-Some.place x y s.finds c.in-Some.ensures.index at refl;
      own_written = own_written-own s c.insert.new.self c.args.number c.in-Some.place x y c.in-Some.ensures.index at refl c.in_ok-insert.ensures.ok;
    }

-- the entry was shared
was_shared : (x y : Entry) (Q : Type 0) → x ≡ y → is_own x.page ≡ false → is_own y.page ≡ true → Q
was_shared x y Q same shared own = absurd (false≢true (sym shared ∙ ap (λ (e : Entry). is_own e.page) same ∙ own))

pub returns-in_err-make_own-clause-advances : goal.returns-in_err-make_own-clause-advances
returns-in_err-make_own-clause-advances c =
    let s = c.args.self.now in
    let x = c.index_mut-entry.result.now in
    let y : Entry = record { number = x.number; page = c.make_own.new.self } in
    let at = read_entry s.entries.items c.in-Some.place x c.in-Some.ensures.within c.index_mut-entry.ensures.value in
    let same = read_same s.entries.items c.in-Some.place c.index.result.now x c.in-Some.ensures.within c.index.ensures c.index_mut-entry.ensures.value in
    advances-own s _ c.args.number c.in-Some.place x y c.in-Some.ensures.index at refl refl refl c.in_ok-insert.ensures.ok
    (was_shared c.index.result.now x (is_own y.page ≡ true) same (sym c.if-is_own.ensures))

pub returns-clause-bytes : goal.returns-clause-bytes
returns-clause-bytes c =
    let s = c.args.self.now in
    let x = c.index_mut-entry.result.now in
    let y : Entry = record { number = x.number; page = c.make_own.new.self } in
    let at = read_entry s.entries.items c.in-Some.place x c.in-Some.ensures.within c.index_mut-entry.ensures.value in
    bytes_at-set s.index.value.items s.entries.items c.args.number c.in-Some.place x y s.finds c.in-Some.ensures.index at refl c.make_own.ensures.bytes

pub returns-clause-advances : goal.returns-clause-advances
returns-clause-advances c =
    let s = c.args.self.now in
    let x = c.index_mut-entry.result.now in
    let y : Entry = record { number = x.number; page = c.make_own.new.self } in
    let at = read_entry s.entries.items c.in-Some.place x c.in-Some.ensures.within c.index_mut-entry.ensures.value in
    let same = read_same s.entries.items c.in-Some.place c.index.result.now x c.in-Some.ensures.within c.index.ensures c.index_mut-entry.ensures.value in
    advances-own s _ c.args.number c.in-Some.place x y c.in-Some.ensures.index at refl refl refl c.in_ok-insert.ensures.ok
    (was_shared c.index.result.now x (is_own y.page ≡ true) same (sym c.if-is_own.ensures))

pub returns-clause-own : goal.returns-clause-own
returns-clause-own c = λ _.
    let s = c.args.self.now in
    let x = c.index_mut-entry.result.now in
    let y : Entry = record { number = x.number; page = c.make_own.new.self } in
    let at = read_entry s.entries.items c.in-Some.place x c.in-Some.ensures.within c.index_mut-entry.ensures.value in
    own_at-set_same s.index.value.items s.entries.items c.args.number c.in-Some.place x y s.finds c.in-Some.ensures.index at refl ∙ c.in_ok-make_own.ensures.ok
