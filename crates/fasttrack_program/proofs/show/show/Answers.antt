use Rattle.std.proofs.Common.{sym}
use Rattle.guest_streams.specs.GuestStreams.{Sinks}
use Rattle.fasttrack_program.proofs.show.show.Goals as goal

pub returns-in-Journal : goal.returns-in-Journal
returns-in-Journal g c = λ (s : Sinks). rw (c.in-Journal.is, sym c.as_slice.ensures) (c.show_check.ensures s)

pub returns-in-States : goal.returns-in-States
returns-in-States g c = λ (s : Sinks). rw (c.in-States.is, sym c.as_slice-in-States.ensures) (c.show_states.ensures s)

pub returns-in-Words : goal.returns-in-Words
returns-in-Words g c = λ (s : Sinks). rw c.in-Words.is (c.show_words.ensures s)

pub returns-in-Text : goal.returns-in-Text
returns-in-Text g c = λ (s : Sinks). rw (c.in-Text.is, sym c.as_slice-in-Text.ensures) (c.show_image.ensures s)
