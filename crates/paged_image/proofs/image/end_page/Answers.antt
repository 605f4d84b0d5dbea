use Rattle.std.proofs.Common.{◌≡◌, ℕ, ◌+◌, ◌-◌, ◌%◌, inl, inr, length, get_or, sym, ap, arith}
use Rattle.std.proofs.lemmas.Bool.{cases_lt}
use Rattle.std.proofs.lemmas.Option.{get_or_from_slice_get}
use Rattle.guest_model.specs.AreaMap.{IsBelow}
use Rattle.guest_model.specs.declared.areas.Area.{Area}
use Rattle.paged_image.proofs.image.end_page.Goals as goal

pub returns-in-Some-clause-behind : goal.returns-in-Some-clause-behind
returns-in-Some-clause-behind c k d l =
    let areas = c.args.areas.now in
    let last = length areas - 1 in
    let is : get_or areas last d ≡ c.in-Some.area.now = get_or_from_slice_get areas last c.in-Some.area.now d (sym c.in-Some.ensures.value) in
    let end : (get_or areas last d).base + length (get_or areas last d).bytes ≡ c.in-Some.area.now.base + c.len.result = omega (arith, ap (λ (x : Area). x.base + length x.bytes) is, c.len.ensures) in
    let whole = c.requires.aligned last d (omega arith) in
    let space : ((get_or areas last d).base + length (get_or areas last d).bytes) % 4096 ≡ 0 = omega (arith, whole.base, whole.length) in
    elim (cases_lt k last) [
      | inl below ↦ let under : IsBelow (get_or areas k d) (get_or areas last d) = c.requires.rising k last d below (omega arith) in omega (arith, under, end, space)
      | inr above ↦ let same : k ≡ last = omega arith in omega (arith, ap (λ (i : ℕ). (get_or areas i d).base + length (get_or areas i d).bytes) same, end, space)
    ]
