use Rattle.std.proofs.Common.{◌+◌, ◌∙◌, Some, sym, ap, subst, arith}
use Rattle.std.specs.Prelude.{slice_index}
use Rattle.byte_runs.specs.declared.collector.Collector.{Collector}
use Rattle.byte_runs.specs.Collection.{Collected}
use Rattle.byte_runs.proofs.OnCollected.{differs-at, step_same, step_next}
use Rattle.byte_runs.proofs.collector.Collector.add_bytes.Goals as goal
use Rattle.byte_runs.proofs.collector.Collector.add_bytes.Goals.{then-left-k+in_ok-add, else-left-k}

pub loop-k-preserved : goal.loop-k-preserved
loop-k-preserved c = elim c.if-left-k.branch [
  | then-left-k+in_ok-add w ↦
      let k = c.loop-k.k in
      let at = c.args.first + k in
      let known = c.loop-k.invariant in (
        ap (λ (s : Collector). s.most) w.self-is ∙ w.add.ensures.most ∙ known.0,
        omega (arith, ap (λ (s : Collector). s.more) w.self-is, w.add.ensures.few),
        λ m n h each.
            let here = each k c.loop-k-test.true in
            step_next m n c.args.first k c.if-left-k.self
            (subst (λ (s : Collector). Collected m n (at + 1) s) (sym w.self-is)
            (w.in_ok-add.ensures.byte m n (known.2 m n h each) here.0 here.1 (differs-at m n at (slice_index c.args.left.now k) (slice_index c.args.right.now k) here.0 here.1 w.if-left-k.true))),
      )
  | else-left-k w ↦
      let k = c.loop-k.k in
      let known = c.loop-k.invariant in (
        ap (λ (s : Collector). s.most) w.self-is ∙ known.0,
        omega (arith, ap (λ (s : Collector). s.more) w.self-is, known.1),
        λ m n h each.
            let here = each k c.loop-k-test.true in
            subst (λ (s : Collector). Collected m n (c.args.first + (k + 1)) s) (sym w.self-is)
            (step_same m n c.args.first k c.loop-k.self (here.0 ∙ ap Some w.if-left-k.false ∙ sym here.1) (known.2 m n h each)),
      )
]
