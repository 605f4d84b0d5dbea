use Rattle.std.proofs.Common.{◌≡◌, ℕ, ◌+◌, true, false, eqb, Option, Some, None, refl, sym, ◌∙◌, ap, arith}
use Rattle.std.specs.Option.{option_eq}
use Rattle.std.proofs.lemmas.Bool.{eqb-true, eq-eqb, false≢true}
use Rattle.std.proofs.lemmas.Result.{on_ok_weaker}
use Rattle.byte_runs.specs.declared.collector.Collector.{Collector}
use Rattle.byte_runs.proofs.OnAdding.{collected_begin, collected_longer, collected_counted}
use Rattle.byte_runs.proofs.collector.Collector.add.Goals as goal

ends_there : (o : Option ℕ) (q : ℕ) → option_eq eqb o (Some q) ≡ true → o ≡ Some q
ends_there None q e = absurd (false≢true e)
ends_there (Some x) q e = ap Some (eqb-true x q e)

ends_elsewhere : (o : Option ℕ) (q : ℕ) → option_eq eqb o (Some q) ≡ false → o ≡ Some q → ⊥
ends_elsewhere o q e at = false≢true (sym e ∙ ap (λ (p : Option ℕ). option_eq eqb p (Some q)) at ∙ eq-eqb q q refl)

pub returns-then-not-goes_on-clause-byte : goal.returns-then-not-goes_on-clause-byte
returns-then-not-goes_on-clause-byte c = λ m n h left right differ.
    let old : Collector = c.args.self.now in
    on_ok_weaker c.begin.result
    (collected_begin m n c.args.address c.args.left c.args.right old c.begin.new.self differ left right (ends_elsewhere old.end c.args.address (sym c.eq-goes_on.ensures ∙ c.if-not-goes_on.true))
    c.begin.ensures.most c.begin.ensures.end (omega (arith, c.begin.ensures.few, c.requires.few)) h)
    c.begin.ensures.begun

pub returns-then-self-eq0-clause-byte : goal.returns-then-self-eq0-clause-byte
returns-then-self-eq0-clause-byte c = λ m n h left right differ.
    let old : Collector = c.args.self.now in
    on_ok_weaker c.lengthen.result
    (collected_longer m n c.args.address c.args.left c.args.right old c.lengthen.new.self (omega (arith, c.ranges.address.fits)) differ left right (ends_there old.end c.args.address (sym c.eq-goes_on.ensures ∙ c.if-not-goes_on.false))
    c.if-self-eq0.true c.lengthen.ensures.most c.lengthen.ensures.end c.lengthen.ensures.more h)
    c.lengthen.ensures.longer

pub returns-clause-byte : goal.returns-clause-byte
returns-clause-byte c = λ m n h left right differ.
    let old : Collector = c.args.self.now in
    let new : Collector = record { alloc = old.alloc; most = old.most; runs = old.runs; more = old.more; end = Some (c.args.address + 1) } in
    collected_counted m n c.args.address old new differ (ends_there old.end c.args.address (sym c.eq-goes_on.ensures ∙ c.if-not-goes_on.false)) c.if-self-eq0.false refl refl refl refl h
