-- What was read has a text or a refusal, and never both
use Rattle.std.proofs.Common.{◌≡◌, List, ℕ, Ok, Err, sym, ◌∙◌, subst}
use Rattle.speculation.specs.Law.{IsHistory}
use Rattle.speculation.specs.declared.history.Settings.{Settings}
use Rattle.guest_model.specs.Image.{Image, start_of}
use Rattle.guest_model.specs.Rv32.{rv32}
use Rattle.elf32_loader.specs.LoadedImage.{image_of_loaded}
use Rattle.elf32_loader.specs.declared.loaded.Loaded.{Loaded}
use Rattle.journal_check.specs.Checks.{program_by}
use Rattle.track_board.specs.Value.{GuestCore}
use Rattle.journal_check.specs.Journals.{HasCause, IsFault}
use Rattle.journal_check.specs.declared.fault.Cause.{Cause}
use Rattle.journal_check.specs.declared.fault.Cause.TheVariants.{Text, NotAllowed, Unfinished}
use Rattle.journal_check.specs.declared.fault.JournalFault.{JournalFault}
use Rattle.journal_check.proofs.OneAnswer.{legal-faultless}
use Rattle.state_listing.proofs.OneAnswer.{one_answer}
use Rattle.word_listing.proofs.OneAnswer.{words-faultless}
use Rattle.fasttrack_program.specs.declared.answer.Answer.{Answer}
use Rattle.fasttrack_program.specs.Showing.{Showing, OfJournal, OfStates, OfWords, OfText, Tells}

module _ (l m : Loaded) (b : Settings) (input : List ℕ) where
  same-cause : (core : GuestCore) (text : List ℕ) (cause : Cause) → HasCause (program_by b l input) core text cause → HasCause (program_by b m input) core text cause
  same-cause core text Text h = h
  same-cause core text NotAllowed h = record { entry = h.entry; rest = h.rest; line = h.line; refused = h.refused }
  same-cause core text Unfinished h = h

-- a fault of a journal is one for each value that stands for the same image
same-fault : (l m : Loaded) (b : Settings) (input journal : List ℕ) (f : JournalFault) → image_of_loaded l ≡ image_of_loaded m → IsFault (program_by b l input) journal f → IsFault (program_by b m input) journal f
same-fault l m b input journal f e h = record {
  before = h.before;
  behind = h.behind;
  parts = h.parts;
  entries = h.entries;
  core = h.core;
  legal = record {
    text = h.legal.text;
    fit = h.legal.fit;
    legal = subst (λ (i : Image). IsHistory (rv32 input) b (start_of i) h.entries h.core) e h.legal.legal;
  };
  line = h.line;
  cause = same-cause l m b input h.core h.behind f.cause h.cause;
}

pub told-once : (x : Showing) (text : List ℕ) (answer : Answer) → Tells x (Ok text) → Tells x (Err answer) → ⊥
told-once (OfJournal i input b journal) text answer h k =
    legal-faultless (program_by b h.loaded input) journal k.fault h.is.legal (same-fault k.loaded h.loaded b input journal k.fault (k.image ∙ sym h.image) k.is)
told-once (OfStates i input counts) text answer h k = (let both = one_answer counts (Ok h.0) (Err k.0) h.1 k.1 in cc)
told-once (OfWords i) text answer h k = k
told-once (OfText bytes) text answer h k = words-faultless bytes h.words k.0 h.text_is k.1
