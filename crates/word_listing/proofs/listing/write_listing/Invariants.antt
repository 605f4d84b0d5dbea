use Rattle.std.proofs.Common.{drop}
use Rattle.elf32_loader.specs.LoadedImage.{image_of_loaded}
use Rattle.sink_text.proofs.OnTexts.{TextSoFar}
use Rattle.word_listing.specs.Listing.{listing_text}
use Rattle.word_listing.proofs.Areas.{areas_lines}
use Rattle.word_listing.proofs.listing.write_listing.Given as goal

abbrev pub invariant-loop-area : goal.invariant-loop-area
invariant-loop-area g l =
    TextSoFar (g.O.Sink.contents l.fn.out) (g.O.Sink.contents l.out) (g.O.Sink.faults l.fn.out) (g.O.Sink.faults l.out) (listing_text (image_of_loaded l.loaded)) (areas_lines (drop l.area-index l.loaded.areas))
