use Rattle.std.proofs.Common.{◌≡◌, ◌+◌, ◌≤◌, ◌/◌, ◌^◌, ◌-◌, [], refl, false, length, sym, ◌∙◌, ap, arith}
use Rattle.guest_model.proofs.OnByteMap.{mapped-bound, write-nothing}
use Rattle.std.proofs.lemmas.List.{nil_from_length}
use Rattle.std.proofs.lemmas.Bool.{false≢true}
use Rattle.guest_model.specs.ByteMap.{ByteMap, write}
use Rattle.paged_image.specs.Image.{content}
use Rattle.paged_image.specs.Pages.{touches}
use Rattle.paged_image.proofs.OnImage.{content-same, advances-same, advances-more, advances-trans}
use Rattle.paged_image.proofs.OnRange.{page-mapped}
use Rattle.paged_image.proofs.OnStores.{on_ok, touches-range, stored_ok, stored_refused}
use Rattle.paged_image.proofs.image.PagedImage.put_across.Goals as goal

pub returns-then-from-eq0 : goal.returns-then-from-eq0
returns-then-from-eq0 c =
    let s = c.args.self.now in
    let from = c.args.from.now in
    let none : from ≡ [] = nil_from_length from c.if-from-eq0.true in
    stored_ok s s c.args.a from (sym c.if-not-is_mapped.ensures) (sym (ap (write (content s) c.args.a) none ∙ write-nothing (content s) c.args.a)) (advances-same (touches c.args.a (length from)) s)
    (λ k l. absurd (omega arith))

pub overflow_add-last : goal.overflow_add-last
overflow_add-last c =
    let b : c.args.a + length c.args.from.now ≤ 2 ^ 32 = mapped-bound (content c.args.self.now) c.args.a (length c.args.from.now) (sym c.if-not-is_mapped.ensures) in
    omega arith

pub own_pages-requires : goal.own_pages-requires
own_pages-requires c =
    let b : c.args.a + length c.args.from.now ≤ 2 ^ 32 = mapped-bound (content c.args.self.now) c.args.a (length c.args.from.now) (sym c.if-not-is_mapped.ensures) in
    omega arith

pub returns-then-is_err : goal.returns-then-is_err
returns-then-is_err c =
    let s = c.args.self.now in
    let t = c.own_pages.new.self in
    let n = length c.args.from.now in
    stored_refused s t c.args.a c.args.from.now (sym c.if-not-is_mapped.ensures) (content-same s t c.own_pages.ensures.bytes)
    (advances-more _ (touches c.args.a n) s t (λ p h. touches-range c.args.a n (c.args.a + (n - 1)) p (omega arith) refl h) c.own_pages.ensures.advances)

pub put_in_own_pages-requires-clause-space : goal.put_in_own_pages-requires-clause-space
put_in_own_pages-requires-clause-space c = mapped-bound (content c.args.self.now) c.args.a (length c.args.from.now) (sym c.if-not-is_mapped.ensures)

pub put_in_own_pages-requires-clause-own : goal.put_in_own_pages-requires-clause-own
put_in_own_pages-requires-clause-own c = λ k l.
    let s = c.args.self.now in
    let n = length c.args.from.now in
    on_ok c.own_pages.result _ c.if-is_err.ensures.value c.own_pages.ensures.own ((c.args.a + k) / 4096) (omega arith) (omega arith) (page-mapped s c.args.a n k (sym c.if-not-is_mapped.ensures) l)

pub returns : goal.returns
returns c =
    let s = c.args.self.now in
    let t = c.own_pages.new.self in
    let u = c.put_in_own_pages.new.self in
    let n = length c.args.from.now in
    stored_ok s u c.args.a c.args.from.now (sym c.if-not-is_mapped.ensures)
    (c.put_in_own_pages.ensures.content ∙ ap (λ (m : ByteMap). write m c.args.a c.args.from.now) (content-same s t c.own_pages.ensures.bytes))
    (advances-trans (touches c.args.a n) s t u
    (advances-more _ (touches c.args.a n) s t (λ p h. touches-range c.args.a n (c.args.a + (n - 1)) p (omega arith) refl h) c.own_pages.ensures.advances)
    (advances-more (λ _. false) (touches c.args.a n) t u (λ p h. absurd (false≢true h)) c.put_in_own_pages.ensures.advances))
    (λ k l. c.put_in_own_pages.ensures.advances.owns ((c.args.a + k) / 4096)
    (on_ok c.own_pages.result _ c.if-is_err.ensures.value c.own_pages.ensures.own ((c.args.a + k) / 4096) (omega arith) (omega arith) (page-mapped s c.args.a n k (sym c.if-not-is_mapped.ensures) l)))
