-- A whole journal: what its lines so far are, and what comes of all of them.
use Rattle.std.proofs.Common.{◌≡◌, ℕ, suc, ◌+◌, ◌*◌, ◌≤◌, ◌<◌, ◌-◌, ◌^◌, ◌≢◌, ◌==◌, true, false, List, [], ◌∷◌, ◌++◌, length, codes, decimal, Result, Ok, Err, IfOk, IfErr, length-append, refl, sym, ap, ◌∙◌, subst, append_assoc, append-nil, eqb-true, arith}
use Rattle.speculation.specs.declared.history.Entry.{Entry}
use Rattle.speculation.specs.declared.history.Entry.TheVariants.{Lend, Back, Gone, Fork, Cross, Keep, Discard, Release, Finish, Halt}
use Rattle.speculation.specs.declared.history.Settings.{Settings}
use Rattle.speculation.specs.Run.{Mark}
use Rattle.speculation.specs.Law.{IsComplete}
use Rattle.speculation_law.proofs.Histories.{law-complete}
use Rattle.region_ledger.specs.Ledger.{core_finished}
use Rattle.elf32_loader.specs.declared.loaded.Loaded.{Loaded}
use Rattle.board_events.specs.Texts.{name_text, text_of, EntryFits}
use Rattle.track_board.specs.declared.kept.Program.{Program}
use Rattle.track_board.specs.Value.{Posted, IsKnown, machine_of, start_state, core_of, posted}
use Rattle.track_board.specs.Owners.{program_of}
use Rattle.track_board.specs.Settles.{verified_of}
use Rattle.journal_check.specs.declared.checking.Checked.{Checked}
use Rattle.journal_check.specs.declared.fault.Cause.{Cause}
use Rattle.journal_check.specs.declared.fault.CheckFault.{CheckFault}
use Rattle.journal_check.specs.declared.fault.CheckFault.TheVariants.{Journal, NoMemory}
use Rattle.journal_check.specs.declared.fault.JournalFault.{JournalFault}
use Rattle.journal_check.specs.declared.replay.Replay.{Replay}
use Rattle.journal_check.specs.Journals.{journal_text, AllFit, IsJournal, BeginsWith, IsNotAllowed, HasCause, IsFault}
use Rattle.journal_check.specs.Checks.{program_by, IsLegal, IsChecked, HasFault}
use Rattle.journal_check.specs.Replays.{IsFollowing, IsRefused, HasRead, Summarizes, TellsOutcome}
use Rattle.journal_check.proofs.Staying.{exact-of}

-- ---- the text of entries

text-more : (xs : List Entry) (x : Entry) → journal_text (xs ++ (x ∷ [])) ≡ journal_text xs ++ (text_of x ++ (10 ∷ []))
text-more [] x = refl
text-more (y ∷ ys) x = ap (λ (bs : List ℕ). text_of y ++ (10 ∷ bs)) (text-more ys x) ∙ sym (append_assoc (text_of y) (10 ∷ journal_text ys) (text_of x ++ (10 ∷ [])))

fit-more : (xs : List Entry) (x : Entry) → AllFit xs → EntryFits x → AllFit (xs ++ (x ∷ []))
fit-more [] x h fits = (fits, tt)
fit-more (y ∷ ys) x h fits = (h.0, fit-more ys x h.1 fits)

some-appended : (xs ys : List ℕ) (b : ℕ) → 1 ≤ length (xs ++ (b ∷ ys))
some-appended xs ys b = (let both = length-append xs (b ∷ ys) in omega arith)

some-text : (x : Entry) → 1 ≤ length (text_of x)
some-text (Lend seat n) = some-appended (codes "lend") (decimal seat ++ (32 ∷ name_text n)) 32
some-text (Back n count) = some-appended (codes "back") (name_text n ++ (32 ∷ decimal count)) 32
some-text (Gone n) = some-appended (codes "gone") (name_text n) 32
some-text (Fork n) = some-appended (codes "fork") (name_text n) 32
some-text (Cross n) = some-appended (codes "cross") (name_text n) 32
some-text (Keep row) = some-appended (codes "keep") (decimal row) 32
some-text (Discard row) = some-appended (codes "discard") (decimal row) 32
some-text (Release bytes) = some-appended (codes "release") (decimal bytes) 32
some-text Finish = omega arith
some-text (Halt seat) = some-appended (codes "halt") (decimal seat) 32

text-length : (xs : List Entry) → 2 * length xs ≤ length (journal_text xs)
text-length [] = omega arith
text-length (x ∷ xs) =
    let rest = text-length xs in
    let one = some-text x in
    let whole = length-append (text_of x) (10 ∷ journal_text xs) in
    omega arith

-- ---- the lines so far

pub read-first : (journal : List ℕ) (v : Posted) → v.entries ≡ [] → HasRead (program_of v) journal journal v
read-first journal v none = record {
  program = refl;
  text = sym (ap (λ (xs : List Entry). journal_text xs ++ journal) none);
  fit = subst AllFit (sym none) tt;
}

-- one line more
pub read-more : (p : Program) (journal text behind : List ℕ) (v w : Posted) (x : Entry) → HasRead p journal text v → BeginsWith text x behind → w ≡ posted v x → HasRead p journal behind w
read-more p journal text behind v w x h line is =
    subst (λ (u : Posted). HasRead p journal behind u) (sym is) (record {
      program = h.program;
      text =
          h.text ∙ ap (λ (bs : List ℕ). journal_text v.entries ++ bs) line.parts
          ∙ sym (ap (λ (bs : List ℕ). bs ++ behind) (text-more v.entries x) ∙ append_assoc (journal_text v.entries) (text_of x ++ (10 ∷ [])) behind
          ∙ ap (λ (bs : List ℕ). journal_text v.entries ++ bs) (append_assoc (text_of x) (10 ∷ []) behind));
      fit = fit-more v.entries x h.fit line.fits;
    })

-- there are fewer lines than bytes
pub lines-bound : (p : Program) (journal text : List ℕ) (v : Posted) → HasRead p journal text v → 2 * length v.entries + length text ≤ length journal
lines-bound p journal text v h =
    let whole = ap (length {A = ℕ}) h.text in
    let parts = length-append (journal_text v.entries) text in
    let lines = text-length v.entries in
    omega arith

pub count-more : (v w : Posted) (x : Entry) (lines : ℕ) → lines ≡ length v.entries → w ≡ posted v x → lines + 1 ≡ length w.entries
count-more v w x lines count is =
    ap (λ (n : ℕ). n + 1) count ∙ sym (length-append v.entries (x ∷ [])) ∙ sym (ap (λ (u : Posted). length u.entries) is)

-- so their number fits
pub few-lines : (p : Program) (journal text : List ℕ) (v : Posted) (lines : ℕ) → HasRead p journal text v → lines ≡ length v.entries → length journal < 2 ^ 64 → lines < 2 ^ 64 - 1
few-lines p journal text v lines h count fits = (let bound = lines-bound p journal text v h in omega arith)

pub some-behind : (text : List ℕ) → (length text == 0) ≡ false → text ≢ []
some-behind [] h = absurd (cc)
some-behind (x ∷ xs) h = λ same. cc

pub none-behind : (text : List ℕ) → (length text == 0) ≡ true → text ≡ []
none-behind [] h = refl
none-behind (x ∷ xs) h = absurd (let none : length (x ∷ xs) ≡ 0 = eqb-true (length (x ∷ xs)) 0 h in omega arith)

-- what follows a line is shorter
pub behind-shorter : (text behind : List ℕ) (x : Entry) → BeginsWith text x behind → suc (length behind) ≤ length text
behind-shorter text behind x h =
    let whole = ap (length {A = ℕ}) h.parts in
    let parts = length-append (text_of x) (10 ∷ behind) in
    omega arith

-- ---- faults

read-journal : (v : Posted) → IsKnown v → AllFit v.entries → IsJournal (program_of v) (journal_text v.entries) v.entries (core_of v)
read-journal v known fit = record { text = refl; fit = fit; legal = known.legal }

pub not_allowed : (v : Posted) (text behind : List ℕ) (x : Entry) → BeginsWith text x behind → IsRefused v x → IsNotAllowed (program_of v) (core_of v) text
not_allowed v text behind x line refused = record { entry = x; rest = behind; line = line; refused = refused }

-- the line that follows has this cause
pub line-fault : (p : Program) (journal text : List ℕ) (v : Posted) (f : JournalFault) → HasRead p journal text v → IsKnown v → f.line ≡ length v.entries + 1 → HasCause (program_of v) (core_of v) text f.cause → IsFault p journal f
line-fault p journal text v f h known line cause =
    subst (λ (q : Program). IsFault q journal f) h.program (record {
      before = journal_text v.entries;
      behind = text;
      parts = h.text;
      entries = v.entries;
      core = core_of v;
      legal = read-journal v known h.fit;
      line = line;
      cause = cause;
    })

pub told-fault : (p : Program) (journal text : List ℕ) (v : Posted) (lines : ℕ) (cause : Cause) (fault : CheckFault) → HasRead p journal text v → IsKnown v → lines ≡ length v.entries
    → HasCause (program_of v) (core_of v) text cause → fault ≡ Journal (record { line = lines + 1; cause = cause }) → HasFault p journal fault
told-fault p journal text v lines cause fault h known count is told =
    subst (HasFault p journal) (sym told) (line-fault p journal text v (record { line = lines + 1; cause = cause }) h known (ap (λ n. n + 1) count) is)

-- ---- the program

pub program-is : (b v : Posted) (settings : Settings) (loaded : Loaded) (input : List ℕ) → b ≡ v → v ≡ record { settings = settings; loaded = loaded; input = input; entries = [] } → program_of b ≡ program_by settings loaded input
program-is b v settings loaded input same is = ap program_of (same ∙ is)

-- ---- the end

module _ (p : Program) (journal : List ℕ) (r : Replay) (on : IsFollowing r) (h : HasRead p journal [] r.board) where
  whole-checked : (c : Checked) → Summarizes r c → IsChecked p journal c
  whole-checked c s =
      let v = r.board in
      let complete : IsComplete (machine_of v) v.settings (start_state v) (core_of v) (core_finished c.finished) =
      law-complete (machine_of v) v.settings (start_state v) v.entries (core_of v) (core_finished c.finished) (exact-of v) on.known.legal s.finish in
      let legal : IsLegal (program_of v) journal = record {
        entries = v.entries;
        core = core_of v;
        is = record { text = h.text ∙ append-nil (journal_text v.entries); fit = h.fit; legal = on.known.legal };
        finish = core_finished c.finished;
        finished = s.finish;
      } in
      subst (λ (q : Program). IsChecked q journal c) h.program (record {
        legal = legal;
        finished = λ i. record { end = complete.end i; count = complete.count i };
        rows = s.rows ∙ complete.rows;
        entries = s.entries;
        released = s.released;
        left = s.left;
        total =
            (let whole = ap (length {A = Mark}) complete.output in
            let parts = length-append (core_of v).released (verified_of v) in
            let released = s.released in
            let left = s.left in
            omega arith);
      })

  whole-fault : (fault : CheckFault) → TellsOutcome r (Err fault) → HasFault p journal fault
  whole-fault (Journal f) told =
      line-fault p journal [] r.board f h on.known (ap (λ (g : JournalFault). g.line) told.1)
      (subst (HasCause (program_of r.board) (core_of r.board) []) (sym (ap (λ (g : JournalFault). g.cause) told.1)) (refl, told.0))
  whole-fault NoMemory told = tt

  pub outcome-checked : (answer : Result Checked CheckFault) → TellsOutcome r answer → IfOk answer (IsChecked p journal)
  outcome-checked (Ok c) told = whole-checked c told
  outcome-checked (Err fault) told = tt

  pub outcome-fault : (answer : Result Checked CheckFault) → TellsOutcome r answer → IfErr answer (HasFault p journal)
  outcome-fault (Ok c) told = tt
  outcome-fault (Err fault) told = whole-fault fault told
