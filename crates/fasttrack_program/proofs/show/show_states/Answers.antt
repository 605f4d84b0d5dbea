use Rattle.std.proofs.Common.{refl}
use Rattle.elf32_loader.specs.LoadedImage.{image_of_loaded}
use Rattle.guest_streams.specs.GuestStreams.{Sinks, with_out}
use Rattle.sink_text.specs.TextOnSink.{WritesOn}
use Rattle.state_listing.specs.Listing.{states_text}
use Rattle.fasttrack_program.specs.Showing.{OfStates}
use Rattle.fasttrack_program.proofs.OnShowing.{shows-text}
use Rattle.fasttrack_program.proofs.show.show_states.Goals as goal

pub returns-in-Ok : goal.returns-in-Ok
returns-in-Ok g c = λ (s : Sinks).
    let i = image_of_loaded c.args.guest.now.loaded in
    let input = c.args.guest.now.input in
    let requests = c.in-Ok.requests.items in
    let written : WritesOn g.O.Sink c.args.out.now c.write_states.new.out (states_text i input requests) c.write_states.result =
    rw (c.as_slice.ensures, c.as_slice-in-Ok.ensures.value) at c.write_states.ensures in
    rw c.shown.ensures
    (shows-text (OfStates i input c.args.counts.now) (with_out g.O.Sink c.args.out.now s) (g.O.Sink.contents c.write_states.new.out) (g.O.Sink.faults c.write_states.new.out)
    (states_text i input requests) c.write_states.result (requests, c.in-Ok.ensures.read, refl) written)
