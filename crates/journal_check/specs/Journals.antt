-- Journals: the text of a legal history, and what is wrong with a text that is none
use Rattle.std.specs.Prelude.{◌≡◌, ◌≢◌, ℕ, ◌+◌, List, [], ◌∷◌, ◌++◌, None, length}
use Rattle.speculation.specs.declared.history.Entry.{Entry}
use Rattle.speculation.specs.Events.{event}
use Rattle.speculation.specs.Law.{IsHistory}
use Rattle.guest_model.specs.Image.{start_of}
use Rattle.guest_model.specs.Rv32.{rv32}
use Rattle.elf32_loader.specs.LoadedImage.{image_of_loaded}
use Rattle.board_events.specs.Texts.{text_of, EntryFits}
use Rattle.track_board.specs.declared.kept.Program.{Program}
use Rattle.track_board.specs.Value.{GuestCore}
use Rattle.journal_check.specs.declared.fault.Cause.{Cause}
use Rattle.journal_check.specs.declared.fault.Cause.TheVariants.{Text, NotAllowed, Unfinished}
use Rattle.journal_check.specs.declared.fault.JournalFault.{JournalFault}

-- ---- the text of a history

-- the line of each entry, with its line feed (10)
abbrev pub journal_text : List Entry → List ℕ
journal_text [] = []
journal_text (x ∷ xs) = text_of x ++ (10 ∷ journal_text xs)

-- the numbers of these entries fit 64 bits
abbrev pub AllFit : List Entry → Type 0
AllFit [] = Unit {0}
AllFit (x ∷ xs) = EntryFits x × AllFit xs

-- These bytes are the journal of these entries. They are a legal history of the program and lead to this core.
pub record IsJournal (p : Program) (bytes : List ℕ) (entries : List Entry) (core : GuestCore) : Type 0 where
  pub text : bytes ≡ journal_text entries
  pub fit : AllFit entries
  pub legal : IsHistory (rv32 p.input) p.settings (start_of (image_of_loaded p.loaded)) entries core

-- ---- faults

-- the text begins with the line of this entry, and this follows it
pub record BeginsWith (text : List ℕ) (x : Entry) (rest : List ℕ) : Type 0 where
  pub fits : EntryFits x
  pub parts : text ≡ text_of x ++ (10 ∷ rest)

-- the text doesn't begin with the line of an entry
abbrev pub HasNoEntry : List ℕ → Type 0
HasNoEntry text = (x : Entry) (rest : List ℕ) → BeginsWith text x rest → ⊥

-- it begins with the line of an entry that isn't allowed after a history that leads to this core
pub record IsNotAllowed (p : Program) (core : GuestCore) (text : List ℕ) : Type 0 where
  pub entry : Entry
  pub rest : List ℕ
  pub line : BeginsWith text entry rest
  pub refused : event (rv32 p.input) p.settings core entry ≡ None

-- what is wrong with the line that follows a history, where this text is what follows
abbrev pub HasCause : Program → GuestCore → List ℕ → Cause → Type 0
HasCause p core text Text = (text ≢ []) × HasNoEntry text
HasCause p core text NotAllowed = IsNotAllowed p core text
HasCause p core text Unfinished = (text ≡ []) × (core.finish ≡ None)

-- The first line of a journal that is refused: the lines before it are the journal of a legal history.
pub record IsFault (p : Program) (journal : List ℕ) (f : JournalFault) : Type 0 where
  pub before : List ℕ
  pub behind : List ℕ
  pub parts : journal ≡ before ++ behind
  pub entries : List Entry
  pub core : GuestCore
  pub legal : IsJournal p before entries core
  pub line : f.line ≡ length entries + 1
  pub cause : HasCause p core behind f.cause
