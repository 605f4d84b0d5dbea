-- The tasks that show a text: what each is done on, and the text that it shows, or the answer that refuses what was read
use Rattle.std.specs.Prelude.{◌≡◌, ℕ, List, Result, Ok, Err}
use Rattle.speculation.specs.declared.history.Settings.{Settings}
use Rattle.guest_model.specs.Image.{Image}
use Rattle.elf32_loader.specs.LoadedImage.{image_of_loaded}
use Rattle.elf32_loader.specs.declared.loaded.Loaded.{Loaded}
use Rattle.journal_check.specs.Journals.{IsFault as IsJournalFault}
use Rattle.journal_check.specs.Checks.{program_by, IsChecked}
use Rattle.journal_check.specs.declared.checking.Checked.{Checked}
use Rattle.journal_check.specs.declared.fault.JournalFault.{JournalFault}
use Rattle.check_report.specs.CheckedTexts.{checked_text}
use Rattle.state_listing.specs.declared.request.StateRequest.{StateRequest}
use Rattle.state_listing.specs.Counts.{IsAnswer}
use Rattle.state_listing.specs.Listing.{states_text}
use Rattle.word_listing.specs.Listing.{listing_text}
use Rattle.word_listing.specs.Packing.{IsImageOf, IsFault as IsTextFault}
use Rattle.word_listing.specs.declared.fault.TextPlace.{TextPlace}
use Rattle.fasttrack_program.specs.declared.answer.Answer.{Answer}
use Rattle.fasttrack_program.specs.declared.answer.Answer.TheVariants.{BadJournal, BadCounts, BadText}

-- what such a task is done on
pub data Showing : Type 0 where
  -- a journal of the program of this image and input, by these settings
  OfJournal : Image → List ℕ → Settings → List ℕ → Showing
  -- the states of that program at the counts of a file
  OfStates : Image → List ℕ → List ℕ → Showing
  -- the words of this image
  OfWords : Image → Showing
  -- an image of the words of a text
  OfText : List ℕ → Showing

-- what a check of the journal answers, for an image as it is loaded
pub record TellsJournal (i : Image) (input : List ℕ) (b : Settings) (journal text : List ℕ) : Type 0 where
  pub loaded : Loaded
  pub image : image_of_loaded loaded ≡ i
  pub checked : Checked
  pub is : IsChecked (program_by b loaded input) journal checked
  pub text_is : text ≡ checked_text checked.entries checked.released checked.left checked.rows checked.finished

pub record RefusesJournal (i : Image) (input : List ℕ) (b : Settings) (journal : List ℕ) (answer : Answer) : Type 0 where
  pub loaded : Loaded
  pub image : image_of_loaded loaded ≡ i
  pub fault : JournalFault
  pub is : IsJournalFault (program_by b loaded input) journal fault
  pub answer_is : answer ≡ BadJournal fault

-- the text that is shown, or the answer that refuses what was read
abbrev pub Tells : Showing → Result (List ℕ) Answer → Type 0
Tells (OfJournal i input b journal) (Ok text) = TellsJournal i input b journal text
Tells (OfJournal i input b journal) (Err answer) = RefusesJournal i input b journal answer
Tells (OfStates i input counts) (Ok text) = (qs : List StateRequest) × IsAnswer counts (Ok qs) × (text ≡ states_text i input qs)
Tells (OfStates i input counts) (Err answer) = (line : ℕ) × IsAnswer counts (Err line) × (answer ≡ BadCounts line)
Tells (OfWords i) (Ok text) = text ≡ listing_text i
Tells (OfWords i) (Err answer) = ⊥
Tells (OfText text) (Ok bytes) = IsImageOf text bytes
Tells (OfText text) (Err answer) = (at : TextPlace) × IsTextFault text at × (answer ≡ BadText at)
