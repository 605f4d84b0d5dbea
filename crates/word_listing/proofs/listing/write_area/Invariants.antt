use Rattle.word_listing.specs.Pieces.{area_lines}
use Rattle.word_listing.proofs.Pages.{from_page}
use Rattle.sink_text.proofs.OnTexts.{TextSoFar}
use Rattle.word_listing.proofs.listing.write_area.Given as goal

abbrev pub invariant-loop-page : goal.invariant-loop-page
invariant-loop-page g l =
    TextSoFar (g.O.Sink.contents l.fn.out) (g.O.Sink.contents l.out) (g.O.Sink.faults l.fn.out) (g.O.Sink.faults l.out) (area_lines l.area) (from_page l.area.base l.area.bytes l.page)
