use Rattle.std.proofs.Common.{suc, ap, ◌∙◌, arith}
use Rattle.elf32_loader.specs.PageRanges.{has_range}
use Rattle.elf32_loader.proofs.OnMergedRanges.{merging-start, merging-joined, merging-apart, merging-rising, merging-pages}
use Rattle.elf32_loader.proofs.mapped_pages.merged_from.Goals as goal
use Rattle.elf32_loader.proofs.mapped_pages.merged_from.Goals.{in-Some, in-None+in_ok-push-in-None}

pub loop-range-init : goal.loop-range-init
loop-range-init c = rw c.in_ok-merged.ensures.items (merging-start c.args.first c.args.rest.now c.requires.ranges c.requires.order)

pub joined-requires-clause-this : goal.joined-requires-clause-this
joined-requires-clause-this c = c.loop-range.invariant.range

pub joined-requires-clause-that : goal.joined-requires-clause-that
joined-requires-clause-that c = c.requires.ranges (suc c.loop-range.range-index) (record { first = 0; end = 0 }) (omega arith)

pub joined-requires-clause-order : goal.joined-requires-clause-order
joined-requires-clause-order c = c.loop-range.invariant.ahead c.loop-range.range-index (record { first = 0; end = 0 }) (omega arith) c.loop-range-test.true

pub loop-range-preserved : goal.loop-range-preserved
loop-range-preserved c =
    elim c.match-joined.branch [
      | in-Some w ↦ rw (w.merged-is, w.current-is)
          (merging-joined c.args.first c.args.rest.now c.loop-range.range-index c.loop-range.merged.items c.loop-range.current w.in-Some.both (record { first = 0; end = 0 }) c.loop-range-test.true c.loop-range.invariant
          w.in-Some.ensures.pages w.in-Some.ensures.first w.in-Some.ensures.range)
      | in-None+in_ok-push-in-None w ↦ rw (w.merged-is, w.current-is, w.in_ok-push-in-None.ensures.items)
          (merging-apart c.args.first c.args.rest.now c.loop-range.range-index c.loop-range.merged.items c.loop-range.current (record { first = 0; end = 0 }) c.loop-range-test.true c.loop-range.invariant
          w.in-None.ensures.apart c.requires.ranges c.requires.order)
    ]

pub returns-clause-pages : goal.returns-clause-pages
returns-clause-pages c = λ p.
    ap (λ rs. has_range rs p) c.in_ok-push.ensures.items
    ∙ merging-pages c.args.first c.args.rest.now c.loop-range.range-index c.loop-range.merged.items c.loop-range.current c.loop-range-test.false c.loop-range.invariant p

pub returns-clause-rising : goal.returns-clause-rising
returns-clause-rising c = rw c.in_ok-push.ensures.items (merging-rising c.args.first c.args.rest.now c.loop-range.range-index c.loop-range.merged.items c.loop-range.current c.loop-range.invariant)
