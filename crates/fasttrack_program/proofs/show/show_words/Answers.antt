use Rattle.std.proofs.Common.{refl}
use Rattle.elf32_loader.specs.LoadedImage.{image_of_loaded}
use Rattle.guest_streams.specs.GuestStreams.{Sinks, with_out}
use Rattle.word_listing.specs.Listing.{listing_text}
use Rattle.fasttrack_program.specs.Showing.{OfWords}
use Rattle.fasttrack_program.proofs.OnShowing.{shows-text}
use Rattle.fasttrack_program.proofs.show.show_words.Goals as goal

pub returns : goal.returns
returns g c = λ (s : Sinks).
    let i = image_of_loaded c.args.loaded.now in
    rw c.shown.ensures
    (shows-text (OfWords i) (with_out g.O.Sink c.args.out.now s) (g.O.Sink.contents c.write_listing.new.out) (g.O.Sink.faults c.write_listing.new.out) (listing_text i) c.write_listing.result refl c.write_listing.ensures)
