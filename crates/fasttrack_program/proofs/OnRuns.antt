-- A run with tracks and the texts behind its output, and the summary of a bench
use Rattle.std.proofs.Common.{◌≡◌, ℕ, zero, suc, ◌^◌, ◌<◌, ◌≤◌, true, List, [], ◌++◌, length, Option, None, Some, Ok, Err, inl, inr, refl, sym, ap, ◌∙◌, subst, append-nil, arith}
use Rattle.std.specs.Prelude.{All, IfSome, if◌then◌else◌}
use Rattle.std.specs.Io.KnownBytes.{Appends}
use Rattle.speculation.specs.declared.history.Entry.{Entry}
use Rattle.speculation.specs.Run.{Mark, marked, fresh, out}
use Rattle.speculation.specs.Record.{alone, output_of}
use Rattle.speculation.specs.Ledger.{originals}
use Rattle.speculation.proofs.Records.{output-alone}
use Rattle.guest_model.specs.Image.{program_alone, start_of}
use Rattle.guest_model.specs.Rv32.{rv32}
use Rattle.rv32_law.specs.GuestStates.{IsGuestState}
use Rattle.rv32_law.proofs.Starts.{start-is-guest}
use Rattle.rv32_law.proofs.OutputBounds.{out-bound}
use Rattle.elf32_loader.specs.LoadedImage.{image_of_loaded}
use Rattle.elf32_loader.specs.declared.loaded.Loaded.{Loaded}
use Rattle.region_ledger.specs.Ledger.{ledger_rows, totals_of, SavesAtMostAll}
use Rattle.region_ledger.specs.declared.finished.Finished.{Finished}
use Rattle.report_text.specs.Reports.{bench_lines}
use Rattle.guest_streams.specs.GuestStreams.{Sinks, Gets, GetsAll, GetsPart, StopsShort, FailsAt}
use Rattle.guest_streams.specs.declared.fault.OutputFault.{OutputFault}
use Rattle.guest_streams.specs.declared.fault.OutputFault.TheVariants.{Write, NoMemory}
use Rattle.guest_streams.proofs.OnStreams.{marked-append, IsNext-marked, WritesPiece-on_notes, GetsAll-more, StopsShort-amid, GetsPart-more}
use Rattle.track_board.specs.Value.{Posted}
use Rattle.track_board.specs.Owners.{program_of, posted_by}
use Rattle.track_board.specs.declared.outcome.Outcome.{Outcome}
use Rattle.serial_run.specs.Conducting.{IsWhole, IsSameRun, HasSerialHistory, Conducts, released_total}
use Rattle.serial_run.specs.declared.conducted.Conducted.{Conducted}
use Rattle.serial_run.specs.declared.conducted.Conducted.TheVariants as C
use Rattle.worker_gate.specs.Histories.{IsRunHistory, HasWorkedHistory, HasRunHistory}
use Rattle.worker_gate.specs.Seats.{BoardPass, seen_of}
use Rattle.program_words.specs.declared.request.Task.TheVariants.{Run, Bench}
use Rattle.fasttrack_program.specs.declared.options.Options.{Options}
use Rattle.fasttrack_program.specs.declared.answer.Answer.TheVariants as A
use Rattle.fasttrack_program.specs.Answers.{answer_of, answer_of_fault}
use Rattle.fasttrack_program.specs.Promise.{Given, alone_on, texts_behind, promise_of, settings_of, IsHistory}
use Rattle.journal_check.specs.Journals.{journal_text}
use Rattle.fasttrack_program.specs.Reports.{bench_report, asked_texts}
use Rattle.fasttrack_program.specs.declared.served.Told.TheVariants.{One}
use Rattle.fasttrack_program.specs.Serving.{plainly, KeepsPromise}
use Rattle.sink_text.specs.TextOnSink.{WritesText}
use Rattle.fasttrack_program.specs.Tracks.{given_of, board_for, RunsTracks, HasOutcome}
use Rattle.fasttrack_program.proofs.OnHistories.{history_of_run}
use Rattle.fasttrack_program.proofs.OnKeeping.{BreaksOff, BreaksOff-longer, GetsPart-nothing, kept-whole, kept-part}
use Rattle.fasttrack_program.proofs.OnReports.{TellsProgram, report-is, summary-is, rows-inside, rows-save, report-whole, report-part}

-- ---- a text on `notes`, behind an output

-- the same sinks with these bytes and this count of notes
abbrev pub noted : Sinks → Option (List ℕ) → ℕ → Sinks
noted s held faults = record s { notes = held; notes_faults = faults }

not_out : ◌≡◌ {A = ℕ} 2 1 → ⊥
not_out h = absurd (omega (arith, h))

text_noted : (s : Sinks) (held : Option (List ℕ)) (faults : ℕ) (text : List ℕ) → Appends s.notes held text → faults ≡ s.notes_faults → GetsAll s (noted s held faults) (marked 2 text)
text_noted s held faults text a calm = WritesPiece-on_notes {T = Unit {0}} {E = Unit {0}} s held faults 2 text (Ok tt) (inr refl) not_out a calm

-- both sinks got a beginning of the text, whatever was counted
gets_noted : (s : Sinks) (held : Option (List ℕ)) (faults : ℕ) (text : List ℕ) → Appends s.notes held text → Gets s (noted s held faults) (marked 2 text)
gets_noted s held faults text a = (let all = text_noted s held s.notes_faults text a refl in record { stream_1 = all.gets.stream_1; stream_2 = all.gets.stream_2 })

parts_noted : (got rest text : List ℕ) → got ++ rest ≡ text → marked 2 got ++ marked 2 rest ≡ marked 2 text
parts_noted got rest text e = sym (marked-append 2 got rest) ∙ ap (marked 2) e

module _ (s t : Sinks) (held : Option (List ℕ)) (faults : ℕ) (output : List Mark) (text : List ℕ) (first : GetsAll s t output) where
  pub behind_all : WritesText {T = Unit {0}} t.notes held t.notes_faults faults text (Ok tt) → GetsAll s (noted t held faults) (output ++ marked 2 text)
  behind_all w = GetsAll-more s t (noted t held faults) output (marked 2 text) first (text_noted t held faults text w.0 w.1)

  pub behind_stops : WritesText {T = Unit {0}} t.notes held t.notes_faults faults text (Err Write) → StopsShort s (noted t held faults) (output ++ marked 2 text)
  behind_stops w =
      let b = w.0.beginning in
      let piece : StopsShort t (noted t held faults) (marked 2 text) = record {
        got = marked 2 b.got;
        rest = marked 2 b.rest;
        parts = parts_noted b.got b.rest text b.parts;
        gets = gets_noted t held faults b.got b.appends;
        fails = inr (w.1, refl, IsNext-marked 2 b.rest w.0.more);
      } in
      subst (StopsShort s (noted t held faults)) (ap (λ ms. output ++ ms) (append-nil (marked 2 text))) (StopsShort-amid s t (noted t held faults) output (marked 2 text) [] first piece)

  pub behind_within : WritesText {T = Unit {0}} t.notes held t.notes_faults faults text (Err NoMemory) → GetsPart s (noted t held faults) (output ++ marked 2 text)
  behind_within w =
      let piece : GetsPart t (noted t held faults) (marked 2 text) = record {
        got = marked 2 w.0.got;
        rest = marked 2 w.0.rest;
        parts = parts_noted w.0.got w.0.rest text w.0.parts;
        gets = gets_noted t held faults w.0.got w.0.appends;
        calm = record { on_out = refl; on_notes = w.1 };
      } in
      GetsPart-more s t (noted t held faults) output (marked 2 text) first piece

-- the texts behind the output of a run could not be written whole
behind_part : (s t : Sinks) (held : Option (List ℕ)) (faults : ℕ) (output : List Mark) (text : List ℕ) → GetsAll s t output → (e : OutputFault)
    → WritesText {T = Unit {0}} t.notes held t.notes_faults faults text (Err e) → BreaksOff e s (noted t held faults) (output ++ marked 2 text)
behind_part s t held faults output text got Write w = behind_stops s t held faults output text got w
behind_part s t held faults output text got NoMemory w = behind_within s t held faults output text got w

-- ---- the board of a task

board-same : (l : Loaded) (input : List ℕ) (o : Options) (v w : Posted) → v ≡ board_for l input o [] → IsSameRun v w → w ≡ board_for l input o w.entries
board-same l input o v w is h =
    let settings : w.settings ≡ settings_of o = h.settings ∙ ap (λ (x : Posted). x.settings) is in
    let loaded : w.loaded ≡ l = h.loaded ∙ ap (λ (x : Posted). x.loaded) is in
    let input_is : w.input ≡ input = h.input ∙ ap (λ (x : Posted). x.input) is in
    ap (λ b. record w { settings = b }) settings
    ∙ ap (λ x. record w { settings = settings_of o; loaded = x }) loaded
    ∙ ap (λ x. record w { settings = settings_of o; loaded = l; input = x }) input_is

-- a conductor that promises one kind of history promises another
conducts-as : (one another : Posted → Type 0) (w : Posted) (old new : Sinks) (r : Conducted) → (one w → another w) → Conducts one w old new r → Conducts another w old new r
conducts-as one another w old new (C.Done o) carried h = ((h.0.0, carried h.0.1), h.1)
conducts-as one another w old new C.WriteFault carried h = h
conducts-as one another w old new C.NoMemory carried h = h

-- a board that was conducted on one thread
pub runs-conducted : (l : Loaded) (input : List ℕ) (o : Options) (v w : Posted) (old new : Sinks) (r : Conducted) → o.workers ≡ 0 → v ≡ board_for l input o [] → IsSameRun v w
    → Conducts HasSerialHistory w old new r → RunsTracks l input o old new r
runs-conducted l input o v w old new r alone is same h =
    let serial : Conducts HasSerialHistory (board_for l input o w.entries) old new r = subst (λ x. Conducts HasSerialHistory x old new r) (board-same l input o v w is same) h in
    (w.entries, subst (λ n. Conducts (HasRunHistory n) (board_for l input o w.entries) old new r) (sym alone) serial)

worked-run : (workers : ℕ) (w : Posted) → 1 ≤ workers → HasWorkedHistory workers w → HasRunHistory workers w
worked-run zero w some h = absurd (omega (arith, some))
worked-run (suc n) w some h = h

-- a board that was conducted with workers
pub runs-worked : (l : Loaded) (input : List ℕ) (o : Options) (v : Posted) (p : BoardPass) (old new : Sinks) (r : Conducted) → 1 ≤ o.workers → v ≡ board_for l input o [] → p.fixed ≡ program_of v
    → Conducts (HasWorkedHistory o.workers) (seen_of p) old new r → RunsTracks l input o old new r
runs-worked l input o v p old new r some is fixed h =
    let seen : seen_of p ≡ board_for l input o p.seen = ap (λ x. posted_by x p.seen) (fixed ∙ ap program_of is) in
    let worked : Conducts (HasWorkedHistory o.workers) (board_for l input o p.seen) old new r = subst (λ w. Conducts (HasWorkedHistory o.workers) w old new r) seen h in
    (p.seen, conducts-as (HasWorkedHistory o.workers) (HasRunHistory o.workers) (board_for l input o p.seen) old new r (worked-run o.workers (board_for l input o p.seen) some) worked)

-- there was no board
pub runs-nothing : (l : Loaded) (input : List ℕ) (o : Options) (s : Sinks) → RunsTracks l input o s s C.NoMemory
runs-nothing l input o s = ([], GetsPart-nothing s (output_of (alone_on (given_of l input o))))

guest_of : (l : Loaded) (input : List ℕ) → IsGuestState input (start_of (image_of_loaded l))
guest_of l input = start-is-guest input l.entry l.areas l.heap l.layout

-- the outcome of a guest, if there was memory for one, is that of some guest
pub outcome-of_some : (l : Loaded) (input : List ℕ) (o : Options) (r : Option Outcome) → IfSome r (HasOutcome l input o)
    → IfSome r (λ outcome. (l : Loaded) × (input : List ℕ) × HasOutcome l input o outcome)
outcome-of_some l input o None h = tt
outcome-of_some l input o (Some outcome) h = (l, input, h)

-- ---- a run

-- its output broke off
pub run-breaks : (l : Loaded) (input : List ℕ) (o : Options) → 1 ≤ o.tracks → (old mid : Sinks) (e : OutputFault) → BreaksOff e old mid (output_of (alone_on (given_of l input o)))
    → KeepsPromise (promise_of Run) (given_of l input o) old mid (plainly (answer_of_fault e))
run-breaks l input o some old mid e h =
    let g = given_of l input o in
    let history = history_of_run g (guest_of l input) some in
    kept-part (promise_of Run) g history.0 history.1 old mid e (BreaksOff-longer e old mid (output_of (alone_on g)) (marked 2 (texts_behind g history.0)) h)

-- ---- a run that came to its end

module _ (l : Loaded) (input : List ℕ) (o : Options) (entries : List Entry) (outcome : Outcome) (f : Finished) (whole : IsWhole (board_for l input o entries) outcome × HasRunHistory o.workers (board_for l input o entries)) (found : outcome.finished ≡ Some f) where
  pub tells-program : TellsProgram (image_of_loaded l) input o.budget outcome.rows f
  tells-program =
      let same : f ≡ whole.0.finished = cc in
      record {
        are_ledger = whole.0.rows;
        count = ap (λ (x : Finished). x.count) same ∙ whole.0.count;
        end = ap (λ (x : Finished). x.end) same ∙ whole.0.end;
      }

  pub outcome-inside : originals (ledger_rows outcome.rows) ≤ f.count
  outcome-inside = rows-inside (image_of_loaded l) input o.budget outcome.rows f tells-program

  pub outcome-saves : All SavesAtMostAll outcome.rows
  outcome-saves = rows-save (image_of_loaded l) input o.budget outcome.rows f tells-program

  run-history : IsHistory true (given_of l input o) outcome.entries
  run-history = subst (IsRunHistory o.workers (rv32 input) (settings_of o) (start_of (image_of_loaded l))) (sym whole.0.outcome.entries) whole.1

  texts-are : asked_texts o outcome.rows f outcome.entries ≡ texts_behind (given_of l input o) outcome.entries
  texts-are =
      ap (λ text. (if o.report then text else []) ++ (if o.journal then journal_text outcome.entries else []))
      (report-is (image_of_loaded l) input o.budget outcome.rows f tells-program)

  module _ (old mid : Sinks) (held : Option (List ℕ)) (faults : ℕ) (got : GetsAll old mid (output_of (alone_on (given_of l input o)))) where
    -- all texts were written
    pub run-whole : WritesText {T = Unit {0}} mid.notes held mid.notes_faults faults (asked_texts o outcome.rows f outcome.entries) (Ok tt)
        → KeepsPromise (promise_of Run) (given_of l input o) old (noted mid held faults) (record { answer = answer_of f.end; told = One outcome.entries })
    run-whole w =
        let g = given_of l input o in
        let written = subst (λ text. WritesText {T = Unit {0}} mid.notes held mid.notes_faults faults text (Ok tt)) texts-are w in
        subst (λ e. KeepsPromise (promise_of Run) g old (noted mid held faults) (record { answer = answer_of e; told = One outcome.entries })) (sym tells-program.end)
        (kept-whole (promise_of Run) g outcome.entries run-history old (noted mid held faults)
        (behind_all old mid held faults (output_of (alone_on g)) (texts_behind g outcome.entries) got written))

    -- they were not written whole
    pub run-part : (e : OutputFault) → WritesText {T = Unit {0}} mid.notes held mid.notes_faults faults (asked_texts o outcome.rows f outcome.entries) (Err e)
        → KeepsPromise (promise_of Run) (given_of l input o) old (noted mid held faults) (plainly (answer_of_fault e))
    run-part e w =
        let g = given_of l input o in
        let written = subst (λ text. WritesText {T = Unit {0}} mid.notes held mid.notes_faults faults text (Err e)) texts-are w in
        kept-part (promise_of Run) g outcome.entries run-history old (noted mid held faults) e
        (behind_part old mid held faults (output_of (alone_on g)) (texts_behind g outcome.entries) got e written)

  -- ---- a bench

  total-is : released_total outcome.entries ≡ length (output_of (program_alone (image_of_loaded l) input o.budget))
  total-is = ap released_total whole.0.outcome.entries ∙ whole.0.total

  -- the released bytes are few enough to be counted
  pub total-fits : o.budget ≤ 2 ^ 40 → released_total outcome.entries < 2 ^ 64
  total-fits h =
      let start = start_of (image_of_loaded l) in
      let whole_run : length (output_of (alone (rv32 input) start o.budget)) ≡ length (out (rv32 input) (fresh start) o.budget) = ap length (output-alone (rv32 input) start o.budget) in
      let bound = out-bound input (fresh start) o.budget (guest_of l input) in
      omega (arith, total-is, whole_run, bound, h)

  module _ (number : ℕ) where
    abbrev summary : List ℕ
    summary = bench_lines number (totals_of outcome.rows f.count) (released_total outcome.entries) f.end

    summary-is_report : summary ≡ bench_report number (image_of_loaded l) input o.budget
    summary-is_report = summary-is (image_of_loaded l) input o.budget outcome.rows f tells-program number (released_total outcome.entries) total-is

    module _ (old : Sinks) (held : Option (List ℕ)) (faults : ℕ) where
      -- all of the summary was written
      pub bench-whole : WritesText {T = Unit {0}} old.out held old.out_faults faults summary (Ok tt)
          → KeepsPromise (promise_of (Bench number)) (given_of l input o) old (record old { out = held; out_faults = faults }) (record { answer = A.Shown; told = One outcome.entries })
      bench-whole w =
          report-whole (promise_of (Bench number)) (given_of l input o) outcome.entries run-history (bench_report number (image_of_loaded l) input o.budget) refl old held faults
          (subst (λ text. WritesText {T = Unit {0}} old.out held old.out_faults faults text (Ok tt)) summary-is_report w)

      -- it was not written whole
      pub bench-part : (e : OutputFault) → WritesText {T = Unit {0}} old.out held old.out_faults faults summary (Err e)
          → KeepsPromise (promise_of (Bench number)) (given_of l input o) old (record old { out = held; out_faults = faults }) (plainly (answer_of_fault e))
      bench-part e w =
          report-part (promise_of (Bench number)) (given_of l input o) outcome.entries run-history (bench_report number (image_of_loaded l) input o.budget) refl old held faults e
          (subst (λ text. WritesText {T = Unit {0}} old.out held old.out_faults faults text (Err e)) summary-is_report w)

-- ---- a bench that was not run, or not to its end

no-faults : (old new : Sinks) (rest : List Mark) → old.out_faults ≡ 0 → new.out_faults ≡ 0 → old.notes_faults ≡ 0 → new.notes_faults ≡ 0 → FailsAt old new rest → ⊥
no-faults old new rest a b c d (inl h) = absurd (omega (arith, a, b, h.0))
no-faults old new rest a b c d (inr h) = absurd (omega (arith, c, d, h.0))

-- a sink that counts no faults did not fail
pub never-fails : (old new : Sinks) (output : List Mark) → old.out_faults ≡ 0 → new.out_faults ≡ 0 → old.notes_faults ≡ 0 → new.notes_faults ≡ 0 → StopsShort old new output → ⊥
never-fails old new output a b c d h = no-faults old new h.rest a b c d h.fails

-- there was no memory for a bench, or it did not come to its end
pub bench-breaks : (l : Loaded) (input : List ℕ) (number : ℕ) (o : Options) (s : Sinks) → 1 ≤ o.tracks → KeepsPromise (promise_of (Bench number)) (given_of l input o) s s (plainly A.NoMemory)
bench-breaks l input number o s some =
    let g : Given = given_of l input o in
    let history = history_of_run g (guest_of l input) some in
    kept-part (promise_of (Bench number)) g history.0 history.1 s s NoMemory (GetsPart-nothing s ((promise_of (Bench number)).writes g history.0))
