-- A journal has one answer: it is legal, or it has one fault.
use Rattle.std.proofs.Common.{◌≡◌, ◌≢◌, ℕ, ◌+◌, List, [], ◌∷◌, ◌++◌, length, Option, Some, None, refl, sym, ap, ap₂, ◌∙◌, subst, append_assoc, append-nil, Result, Ok, Err, IfOk, IfErr, IsOkUnless}
use Rattle.std.proofs.lemmas.Option.{same_Some}
use Rattle.speculation.specs.declared.history.Entry.{Entry}
use Rattle.speculation.specs.Core.{opening}
use Rattle.speculation.specs.Events.{event, core_run}
use Rattle.guest_model.specs.Image.{start_of}
use Rattle.guest_model.specs.Rv32.{rv32}
use Rattle.elf32_loader.specs.LoadedImage.{image_of_loaded}
use Rattle.board_events.specs.Texts.{text_of}
use Rattle.track_board.specs.declared.kept.Program.{Program}
use Rattle.track_board.specs.Value.{GuestCore}
use Rattle.journal_check.specs.declared.checking.Checked.{Checked}
use Rattle.journal_check.specs.declared.fault.Cause.{Cause}
use Rattle.journal_check.specs.declared.fault.Cause.TheVariants.{Text, NotAllowed, Unfinished}
use Rattle.journal_check.specs.declared.fault.CheckFault.{CheckFault}
use Rattle.journal_check.specs.declared.fault.CheckFault.TheVariants.{Journal, NoMemory}
use Rattle.journal_check.specs.declared.fault.JournalFault.{JournalFault}
use Rattle.journal_check.specs.Journals.{journal_text, AllFit, BeginsWith, HasCause, IsFault}
use Rattle.journal_check.specs.Checks.{IsLegal, IsChecked, HasFault, Tells}
use Rattle.journal_check.proofs.OnLines.{begins-one}

some-appended : (xs ys : List ℕ) (b : ℕ) → xs ++ (b ∷ ys) ≡ [] → ⊥
some-appended [] ys b h = cc
some-appended (x ∷ xs) ys b h = cc

begins-some : (text : List ℕ) (x : Entry) (rest : List ℕ) → BeginsWith text x rest → text ≡ [] → ⊥
begins-some text x rest h none = some-appended (text_of x) rest 10 (sym h.parts ∙ none)

-- ---- where a journal stops

-- by the cause, if there is one: a legal journal has a finish and ends
abbrev pub Ends : Program → GuestCore → List ℕ → Option Cause → Type 0
Ends p core text None = (text ≡ []) × (core.finish ≢ None)
Ends p core text (Some cause) = HasCause p core text cause

-- from a core on, the text is that of these entries, which are allowed, and stops so
record Stops (p : Program) (from : GuestCore) (text : List ℕ) (entries : List Entry) (o : Option Cause) : Type 0 where
  core : GuestCore
  behind : List ℕ
  parts : text ≡ journal_text entries ++ behind
  fit : AllFit entries
  leads : core_run (rv32 p.input) p.settings (Some from) entries ≡ Some core
  ends : Ends p core behind o

module _ (p : Program) where
  ends-one : (core : GuestCore) (text : List ℕ) (o u : Option Cause) → Ends p core text o → Ends p core text u → o ≡ u
  ends-one core text None None h k = refl
  ends-one core text None (Some Text) h k = absurd (k.0 h.0)
  ends-one core text None (Some NotAllowed) h k = absurd (begins-some text k.entry k.rest k.line h.0)
  ends-one core text None (Some Unfinished) h k = absurd (h.1 k.1)
  ends-one core text (Some Text) None h k = absurd (h.0 k.0)
  ends-one core text (Some Text) (Some Text) h k = refl
  ends-one core text (Some Text) (Some NotAllowed) h k = absurd (h.1 k.entry k.rest k.line)
  ends-one core text (Some Text) (Some Unfinished) h k = absurd (h.0 k.0)
  ends-one core text (Some NotAllowed) None h k = absurd (begins-some text h.entry h.rest h.line k.0)
  ends-one core text (Some NotAllowed) (Some Text) h k = absurd (k.1 h.entry h.rest h.line)
  ends-one core text (Some NotAllowed) (Some NotAllowed) h k = refl
  ends-one core text (Some NotAllowed) (Some Unfinished) h k = absurd (begins-some text h.entry h.rest h.line k.0)
  ends-one core text (Some Unfinished) None h k = absurd (k.1 h.1)
  ends-one core text (Some Unfinished) (Some Text) h k = absurd (k.0 h.0)
  ends-one core text (Some Unfinished) (Some NotAllowed) h k = absurd (begins-some text k.entry k.rest k.line h.0)
  ends-one core text (Some Unfinished) (Some Unfinished) h k = refl

  -- it doesn't stop where it begins with an entry that is allowed
  ends-here : (core mid : GuestCore) (text : List ℕ) (o : Option Cause) (x : Entry) (more : List ℕ) → Ends p core text o → BeginsWith text x more → event (rv32 p.input) p.settings core x ≡ Some mid → ⊥
  ends-here core mid text None x more h line is = begins-some text x more line h.0
  ends-here core mid text (Some Text) x more h line is = h.1 x more line
  ends-here core mid text (Some NotAllowed) x more h line is =
      let same = (begins-one text h.entry x h.rest more h.line line).0 in
      let none : event (rv32 p.input) p.settings core x ≡ None = ap (event (rv32 p.input) p.settings core) (sym same) ∙ h.refused in
      let both : None ≡ Some mid = sym none ∙ is in cc
  ends-here core mid text (Some Unfinished) x more h line is = begins-some text x more line h.0

  run-some : (o : Option GuestCore) (xs : List Entry) (new : GuestCore) → core_run (rv32 p.input) p.settings o xs ≡ Some new → (mid : GuestCore) × (o ≡ Some mid)
  unfolding core_run
  run-some (Some mid) xs new h = (mid, refl)
  run-some None [] new h = absurd (cc)
  run-some None (x ∷ xs) new h = absurd (cc)

  -- the first entry is allowed
  first-allowed : (from : GuestCore) (text : List ℕ) (x : Entry) (xs : List Entry) (o : Option Cause) → Stops p from text (x ∷ xs) o → (mid : GuestCore) × (event (rv32 p.input) p.settings from x ≡ Some mid)
  unfolding core_run
  first-allowed from text x xs o h = run-some (event (rv32 p.input) p.settings from x) xs h.core h.leads

  first-line : (from : GuestCore) (text : List ℕ) (x : Entry) (xs : List Entry) (o : Option Cause) (h : Stops p from text (x ∷ xs) o) → BeginsWith text x (journal_text xs ++ h.behind)
  first-line from text x xs o h = record { fits = h.fit.0; parts = h.parts ∙ append_assoc (text_of x) (10 ∷ journal_text xs) h.behind }

  -- and the rest stops as the whole does
  rest-stops : (from mid : GuestCore) (text rest : List ℕ) (x : Entry) (xs : List Entry) (o : Option Cause) (h : Stops p from text (x ∷ xs) o) → event (rv32 p.input) p.settings from x ≡ Some mid
      → rest ≡ journal_text xs ++ h.behind → Stops p mid rest xs o
  unfolding core_run
  rest-stops from mid text rest x xs o h is parts = record {
    core = h.core;
    behind = h.behind;
    parts = parts;
    fit = h.fit.1;
    leads = ap (λ (c : Option GuestCore). core_run (rv32 p.input) p.settings c xs) (sym is) ∙ h.leads;
    ends = h.ends;
  }

  stops-nothing : (from : GuestCore) (text : List ℕ) (o : Option Cause) → Stops p from text [] o → Ends p from text o
  unfolding core_run
  stops-nothing from text o h =
      let same : from ≡ h.core = same_Some from h.core h.leads in
      subst (λ (c : GuestCore). Ends p c text o) (sym same) (subst (λ (bs : List ℕ). Ends p h.core bs o) (sym h.parts) h.ends)

  one-stop : (xs ys : List Entry) (from : GuestCore) (text : List ℕ) (o u : Option Cause) → Stops p from text xs o → Stops p from text ys u → (xs ≡ ys) × (o ≡ u)
  one-stop [] [] from text o u h k = (refl, ends-one from text o u (stops-nothing from text o h) (stops-nothing from text u k))
  one-stop [] (y ∷ ys) from text o u h k =
      let next = first-allowed from text y ys u k in
      absurd (ends-here from next.0 text o y (journal_text ys ++ k.behind) (stops-nothing from text o h) (first-line from text y ys u k) next.1)
  one-stop (x ∷ xs) [] from text o u h k =
      let next = first-allowed from text x xs o h in
      absurd (ends-here from next.0 text u x (journal_text xs ++ h.behind) (stops-nothing from text u k) (first-line from text x xs o h) next.1)
  one-stop (x ∷ xs) (y ∷ ys) from text o u h k =
      let next = first-allowed from text x xs o h in
      let same = begins-one text x y (journal_text xs ++ h.behind) (journal_text ys ++ k.behind) (first-line from text x xs o h) (first-line from text y ys u k) in
      let too : event (rv32 p.input) p.settings from y ≡ Some next.0 = ap (event (rv32 p.input) p.settings from) (sym same.0) ∙ next.1 in
      let rest = one-stop xs ys next.0 (journal_text xs ++ h.behind) o u
      (rest-stops from next.0 text (journal_text xs ++ h.behind) x xs o h next.1 refl)
      (rest-stops from next.0 text (journal_text xs ++ h.behind) y ys u k too same.1) in
      (ap₂ (λ (z : Entry) (zs : List Entry). z ∷ zs) same.0 rest.0, rest.1)

  abbrev start : GuestCore
  start = opening (start_of (image_of_loaded p.loaded))

  module _ (journal : List ℕ) where
    fault-stops : (f : JournalFault) (h : IsFault p journal f) → Stops p start journal h.entries (Some f.cause)
    fault-stops f h = record {
      core = h.core;
      behind = h.behind;
      parts = h.parts ∙ ap (λ (bs : List ℕ). bs ++ h.behind) h.legal.text;
      fit = h.legal.fit;
      leads = h.legal.legal;
      ends = h.cause;
    }

    legal-stops : (h : IsLegal p journal) → Stops p start journal h.entries None
    legal-stops h = record {
      core = h.core;
      behind = [];
      parts = h.is.text ∙ sym (append-nil (journal_text h.entries));
      fit = h.is.fit;
      leads = h.is.legal;
      ends = (refl, λ none. (let both : None ≡ Some h.finish = sym none ∙ h.finished in cc));
    }

    -- a journal has one fault
    pub one-fault : (f g : JournalFault) → IsFault p journal f → IsFault p journal g → f ≡ g
    one-fault f g h k =
        let same = one-stop h.entries k.entries start journal (Some f.cause) (Some g.cause) (fault-stops f h) (fault-stops g k) in
        let line : f.line ≡ g.line = h.line ∙ ap (λ (xs : List Entry). length xs + 1) same.0 ∙ sym k.line in
        let cause : f.cause ≡ g.cause = same_Some f.cause g.cause same.1 in
        λ i. record { line = line i; cause = cause i }

    -- and a legal journal has none
    pub legal-faultless : (f : JournalFault) → IsLegal p journal → IsFault p journal f → ⊥
    legal-faultless f h k =
        let same = one-stop h.entries k.entries start journal None (Some f.cause) (legal-stops h) (fault-stops f k) in
        let differ : None ≡ Some f.cause = same.1 in cc

    -- so an answer that is right is the only one, want of memory aside
    pub answer-taken : (r : Result Checked CheckFault) → IfErr r (HasFault p journal) → IsLegal p journal → IsOkUnless r NoMemory
    answer-taken (Ok c) h legal = tt
    answer-taken (Err (Journal f)) h legal = absurd (legal-faultless f legal h)
    answer-taken (Err NoMemory) h legal = refl

    pub answer-refused : (r : Result Checked CheckFault) → IfOk r (IsChecked p journal) → IfErr r (HasFault p journal) → (f : JournalFault) → IsFault p journal f → Tells f r
    answer-refused (Ok c) h k f fault = legal-faultless f h.legal fault
    answer-refused (Err (Journal g)) h k f fault = one-fault g f k fault
    answer-refused (Err NoMemory) h k f fault = tt
