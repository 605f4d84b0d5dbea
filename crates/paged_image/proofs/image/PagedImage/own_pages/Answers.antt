use Rattle.std.proofs.Common.{◌≡◌, ℕ, ◌<◌, ◌≤◌, ◌==◌, ◌&&◌, Bool, true, is_some, inl, inr, refl, sym, ◌∙◌, ap, arith}
use Rattle.std.specs.Prelude.{nat_le, nat_lt}
use Rattle.std.proofs.lemmas.Bool.{cases_eq}
use Rattle.std.proofs.lemmas.Bool.Decides.{nat_tests}
use Rattle.paged_image.specs.Changes.{page_of, owns}
use Rattle.paged_image.proofs.OnImage.{advances-same, advances-more, advances-trans}
use Rattle.paged_image.proofs.image.PagedImage.own_pages.Goals as goal

-- a page of the range passes the test of the range
in_range : (first end number p : ℕ) → first ≤ number → number < end → (p == number) ≡ true → (nat_le first p && nat_lt p end) ≡ true
in_range first end number p l r h = grind (arith, nat_tests)

pub loop-number-init : goal.loop-number-init
loop-number-init c = (
  λ p. refl,
  advances-same (λ p. nat_le c.args.first p && nat_lt p c.args.end) c.args.self.now,
  λ p l r. absurd (omega arith),
)

pub returns-in_err-own_page-clause-advances : goal.returns-in_err-own_page-clause-advances
returns-in_err-own_page-clause-advances c =
    let may : ℕ → Bool = λ p. nat_le c.args.first p && nat_lt p c.args.end in
    let number = c.loop-number.number in
    let low : c.args.first ≤ number = omega arith in
    let high : number < c.args.end = omega arith in
    advances-trans may c.args.self.now c.loop-number.self c.own_page.new.self c.loop-number.invariant.1
    (advances-more (λ p. p == number) may c.loop-number.self c.own_page.new.self (λ p h. in_range c.args.first c.args.end number p low high h) c.own_page.ensures.advances)

pub loop-number-preserved : goal.loop-number-preserved
loop-number-preserved c =
    let s = c.args.self.now in
    let l = c.loop-number.self in
    let t = c.own_page.new.self in
    let may : ℕ → Bool = λ p. nat_le c.args.first p && nat_lt p c.args.end in
    let number = c.loop-number.number in
    let low : c.args.first ≤ number = omega arith in
    let high : number < c.args.end = omega arith in (
      λ p. c.own_page.ensures.bytes p ∙ c.loop-number.invariant.0 p,
      advances-trans may s l t c.loop-number.invariant.1 (advances-more (λ p. p == number) may l t (λ p h. in_range c.args.first c.args.end number p low high h) c.own_page.ensures.advances),
      λ p first below there. elim (cases_eq p number) [
        | inl same ↦
            let here : is_some (page_of l number) ≡ true = ap is_some (c.loop-number.invariant.0 number) ∙ ap (λ (q : ℕ). is_some (page_of s q)) (sym same) ∙ there in
            ap (owns t) same ∙ c.in_ok-own_page.ensures.own here
        | inr other ↦ c.own_page.ensures.advances.owns p (c.loop-number.invariant.2 p first (omega (arith, other)) there)
      ],
    )
