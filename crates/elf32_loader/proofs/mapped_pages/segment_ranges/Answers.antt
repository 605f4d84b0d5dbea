use Rattle.std.proofs.Common.{◌≡◌, ◌≤◌, true, sym, ap, ◌∙◌, get_or, take, arith}
use Rattle.guest_model.specs.Image.{last_end}
use Rattle.guest_model.specs.Segment.{has_bytes, end_of}
use Rattle.elf32_loader.proofs.OnSegments.{last_end-at}
use Rattle.elf32_loader.proofs.OnRangesSoFar.{SoFar, so_far-more, so_far-same}
use Rattle.elf32_loader.proofs.mapped_pages.segment_ranges.Goals as goal
use Rattle.elf32_loader.proofs.mapped_pages.segment_ranges.Goals.{then-has_bytes+in_ok-push, else-has_bytes}

pub pages-requires-clause-end : goal.pages-requires-clause-end
pages-requires-clause-end c =
    let hs = c.args.segments.now in
    let s = c.segment-item.result in
    let i = c.loop-segment.segment-index in
    let at : s ≡ get_or hs i s = c.segment-item.is in
    let some : has_bytes (get_or hs i s) ≡ true = ap has_bytes (sym at) ∙ sym c.has_bytes.ensures ∙ c.if-has_bytes.true in
    let e : end_of (get_or hs i s) ≤ last_end hs = last_end-at hs i s c.loop-segment-test.true some in
    let same : end_of s ≡ end_of (get_or hs i s) = ap end_of at in
    omega arith

pub loop-segment-preserved : goal.loop-segment-preserved
loop-segment-preserved c =
    let hs = c.args.segments.now in
    let s = c.segment-item.result in
    let i = c.loop-segment.segment-index in
    let so_far : SoFar (take i hs) c.loop-segment.ranges.items = record { pages = c.loop-segment.invariant.pages; ranges = c.loop-segment.invariant.ranges } in
    elim c.if-has_bytes.branch [
      | then-has_bytes+in_ok-push w ↦
          let more = so_far-more hs i s c.loop-segment.ranges.items w.pages.result c.loop-segment-test.true c.segment-item.is so_far w.pages.ensures.pages w.pages.ensures.range in
          rw (w.ranges-is, w.in_ok-push.ensures.items) (record { pages = more.pages; ranges = more.ranges })
      | else-has_bytes w ↦
          let more = so_far-same hs i s c.loop-segment.ranges.items c.loop-segment-test.true c.segment-item.is (sym c.has_bytes.ensures ∙ w.if-has_bytes.false) so_far in
          rw w.ranges-is (record { pages = more.pages; ranges = more.ranges })
    ]
