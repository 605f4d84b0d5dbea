-- Texts that are shown whole or in part
use Rattle.std.proofs.Common.{ℕ, List, Option, Result, Ok, Err, inl, inr, refl}
use Rattle.speculation.specs.Run.{marked}
use Rattle.guest_streams.specs.GuestStreams.{Sinks}
use Rattle.guest_streams.specs.declared.fault.OutputFault.{OutputFault}
use Rattle.guest_streams.specs.declared.fault.OutputFault.TheVariants.{Write, NoMemory}
use Rattle.speculation.specs.declared.history.Settings.{Settings}
use Rattle.elf32_loader.specs.LoadedImage.{image_of_loaded}
use Rattle.elf32_loader.specs.declared.loaded.Loaded.{Loaded}
use Rattle.journal_check.specs.Checks.{program_by, HasFault}
use Rattle.journal_check.specs.declared.fault.CheckFault.{CheckFault}
use Rattle.journal_check.specs.declared.fault.CheckFault.TheVariants as C
use Rattle.fasttrack_program.specs.Answers.{answer_of_check}
use Rattle.sink_text.specs.TextOnSink.{WritesText}
use Rattle.fasttrack_program.specs.Serving.{plainly, IsWritten, IsShown, shown}
use Rattle.fasttrack_program.specs.Showing.{Showing, OfJournal, Tells}
use Rattle.fasttrack_program.specs.declared.answer.Answer.{Answer}
use Rattle.fasttrack_program.specs.declared.answer.Answer.TheVariants as A
use Rattle.fasttrack_program.proofs.OnReports.{text_shown, text_stops, text_within}

-- what a text that was written leaves on `out`
written : (s : Sinks) (got : Option (List ℕ)) (faults : ℕ) (text : List ℕ) (r : Result (Unit {0}) OutputFault) → WritesText {T = Unit {0}} s.out got s.out_faults faults text r
    → IsWritten (marked 1 text) (plainly A.Shown) s (record s { out = got; out_faults = faults }) (shown r)
written s got faults text (Ok _) h = inl (refl, text_shown s got faults text h.0 h.1)
written s got faults text (Err Write) h = inr (inl (refl, text_stops s got faults text h))
written s got faults text (Err NoMemory) h = inr (inr (refl, text_within s got faults text h))

module _ (x : Showing) (s : Sinks) where
  pub shows-text : (got : Option (List ℕ)) (faults : ℕ) (text : List ℕ) (r : Result (Unit {0}) OutputFault) → Tells x (Ok text) → WritesText {T = Unit {0}} s.out got s.out_faults faults text r
      → IsShown x s (record s { out = got; out_faults = faults }) (shown r)
  shows-text got faults text r tells h = inl (text, tells, written s got faults text r h)

  pub shows-refusal : (answer : Answer) → Tells x (Err answer) → IsShown x s s (plainly answer)
  shows-refusal answer tells = inr (inl (answer, tells, refl, refl))

  pub shows-nothing : IsShown x s s (plainly A.NoMemory)
  shows-nothing = inr (inr (refl, refl))

-- a journal that was not checked to its end
module _ (l : Loaded) (input : List ℕ) (b : Settings) (journal : List ℕ) (s : Sinks) where
  pub shows-fault : (fault : CheckFault) → HasFault (program_by b l input) journal fault → IsShown (OfJournal (image_of_loaded l) input b journal) s s (plainly (answer_of_check fault))
  shows-fault (C.Journal f) h = shows-refusal (OfJournal (image_of_loaded l) input b journal) s (A.BadJournal f) (record { loaded = l; image = refl; fault = f; is = h; answer_is = refl })
  shows-fault C.NoMemory h = shows-nothing (OfJournal (image_of_loaded l) input b journal) s
