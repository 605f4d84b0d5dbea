use Rattle.std.proofs.Common.{◌≡◌, ℕ, ◌+◌, true, false, is_some, None, Some, Option, Bool, not, refl, sym, ap, ◌∙◌, below_more, arith}
use Rattle.guest_model.specs.AreaMap.{areas_bytes}
use Rattle.guest_model.proofs.OnByteMap.{mapped-all, mapped-past, mapped-absent}
use Rattle.guest_model.proofs.access.mapped_across.Goals as goal

absent : (o : Option ℕ) (none : Bool) → is_some o ≡ not none → none ≡ true → o ≡ None
absent None none h e = refl
absent (Some x) none h e = let f : is_some (Some x) ≡ false = h ∙ ap not e in cc

pub returns-then-a-n-clause-value : goal.returns-then-a-n-clause-value
returns-then-a-n-clause-value c = sym (mapped-past (areas_bytes c.args.areas.now) c.args.a c.args.n c.if-a-n.true)

pub returns-then-is_none-clause-value : goal.returns-then-is_none-clause-value
returns-then-is_none-clause-value c = sym (mapped-absent (areas_bytes c.args.areas.now) c.args.a c.args.n c.loop-k.k c.loop-k-test.true (absent (areas_bytes c.args.areas.now (c.args.a + c.loop-k.k)) c.is_none.result (ap is_some (sym c.byte_at.ensures) ∙ c.is_none.ensures) c.if-is_none.true))

pub loop-k-preserved : goal.loop-k-preserved
loop-k-preserved c = below_more _ _ c.loop-k.invariant (ap is_some (sym c.byte_at.ensures) ∙ c.is_none.ensures ∙ ap not c.if-is_none.false)

pub returns-clause-value : goal.returns-clause-value
returns-clause-value c = sym (mapped-all (areas_bytes c.args.areas.now) c.args.a c.args.n (omega arith) (λ k l. c.loop-k.invariant k (omega arith)))
