-- The report of a trial is the program's, and on `out` it is what the task writes
use Rattle.std.proofs.Common.{◌≡◌, ℕ, List, [], ◌∷◌, ◌++◌, ◌<◌, ◌≤◌, length, drop, get_or, map, Option, Ok, Err, inl, inr, arith, refl, sym, ap, ◌∙◌, subst, append-nil}
use Rattle.std.specs.Prelude.{All}
use Rattle.std.specs.Io.KnownBytes.{Appends}
use Rattle.speculation.specs.Run.{Mark, marked, stream_bytes}
use Rattle.speculation.specs.Record.{output_of}
use Rattle.speculation.specs.Ledger.{Row as LedgerRow, ledger, originals}
use Rattle.speculation.specs.Verdicts.{Verdict as CoreVerdict, Kept as CoreKept, Differs as CoreDiffers, Stopped as CoreStopped, Late as CoreLate}
use Rattle.speculation_law.specs.Totals.{Totalled}
use Rattle.speculation_law.proofs.Totals.{totalled}
use Rattle.host_io.specs.Faults.{Rose}
use Rattle.elf32_loader.specs.LoadedImage.{image_of_loaded}
use Rattle.elf32_loader.specs.declared.loaded.Loaded.{Loaded}
use Rattle.guest_model.specs.Image.{Image, program_alone, start_of}
use Rattle.guest_model.specs.Rv32.{rv32}
use Rattle.guest_model.specs.declared.difference.Difference.{Difference}
use Rattle.guest_model.specs.declared.end.End.{End}
use Rattle.guest_model.specs.declared.end.End.TheVariants.{Exit, Trap, Spent}
use Rattle.region_ledger.specs.Ledger.{core_verdict, ledger_row, ledger_rows, core_end, totals_of, SavesAtMostAll}
use Rattle.region_ledger.specs.declared.finished.Finished.{Finished}
use Rattle.region_ledger.specs.declared.row.Row.{Row}
use Rattle.region_ledger.specs.declared.verdict.Verdict.{Verdict}
use Rattle.region_ledger.specs.declared.verdict.Verdict.TheVariants.{Kept, Differs, Stopped, Late}
use Rattle.region_trial.specs.Trials.{IsTrialOf}
use Rattle.region_trial.specs.declared.trial.Trial.{Trial}
use Rattle.region_trial.proofs.OnTrials.{saves-rows}
use Rattle.report_text.specs.Reports.{bench_lines}
use Rattle.guest_streams.specs.GuestStreams.{end_of, Sinks, GetsAll, GetsPart, IsNext, FailsAt, StopsShort}
use Rattle.region_account.specs.Reported.{reported_row, reported_ledger}
use Rattle.region_account.proofs.OnReported.{reported_rows-back, end_of-back}
use Rattle.fasttrack_program.specs.Reports.{report, program_report, bench_report}
use Rattle.sink_text.specs.TextOnSink.{StoppedInText, WritesText}
use Rattle.fasttrack_program.specs.Answers.{answer_of_fault}
use Rattle.fasttrack_program.specs.Promise.{Given, Promise, IsHistory}
use Rattle.fasttrack_program.specs.Serving.{plainly, wholly, KeepsPromise}
use Rattle.fasttrack_program.proofs.OnKeeping.{BreaksOff, kept-whole, kept-part}
use Rattle.speculation.specs.declared.history.Entry.{Entry}
use Rattle.guest_streams.specs.declared.fault.OutputFault.{OutputFault}
use Rattle.guest_streams.specs.declared.fault.OutputFault.TheVariants.{Write, NoMemory}
use Rattle.guest_streams.proofs.OnStreams.{stream_bytes-own_1, marked-append, IsNext-marked, Gets-on_out}

-- The rows are the ledger of the program, and end and count are those of the program alone.
pub record TellsProgram (i : Image) (input : List ℕ) (budget : ℕ) (rows : List Row) (f : Finished) : Type 0 where
  pub are_ledger : ledger_rows rows ≡ ledger (rv32 input) (start_of i) budget
  pub count : f.count ≡ (program_alone i input budget).count
  pub end : f.end ≡ end_of (program_alone i input budget).end

module _ (i : Image) (input : List ℕ) (budget : ℕ) (rows : List Row) (f : Finished) (h : TellsProgram i input budget rows f) where
  rows-reported : rows ≡ reported_ledger i input budget
  rows-reported = sym (reported_rows-back rows) ∙ ap (map reported_row) h.are_ledger

  pub report-is : report rows f.count f.end ≡ program_report i input budget
  unfolding program_report
  report-is =
      ap (λ xs. report xs f.count f.end) rows-reported
      ∙ ap (λ n. report (reported_ledger i input budget) n f.end) h.count
      ∙ ap (λ e. report (reported_ledger i input budget) (program_alone i input budget).count e) h.end

  pub summary-is : (number output : ℕ) → output ≡ length (output_of (program_alone i input budget)) → bench_lines number (totals_of rows f.count) output f.end ≡ bench_report number i input budget
  unfolding bench_report
  summary-is number output total =
      ap (λ xs. bench_lines number (totals_of xs f.count) output f.end) rows-reported
      ∙ ap (λ n. bench_lines number (totals_of (reported_ledger i input budget) n) output f.end) h.count
      ∙ ap (λ n. bench_lines number (totals_of (reported_ledger i input budget) (program_alone i input budget).count) n f.end) total
      ∙ ap (λ e. bench_lines number (totals_of (reported_ledger i input budget) (program_alone i input budget).count) (length (output_of (program_alone i input budget))) e) h.end

  totals-add : Totalled (program_alone i input budget).count (ledger_rows rows)
  totals-add = totalled (rv32 input) (start_of i) budget (ledger_rows rows) ([], append-nil (ledger_rows rows) ∙ h.are_ledger)

  pub rows-inside : originals (ledger_rows rows) ≤ f.count
  rows-inside = (let all = totals-add in omega (arith, all.regions, h.count))

  pub rows-save : All SavesAtMostAll rows
  rows-save = saves-rows rows totals-add.within

-- the report of a trial's rows and end
pub trial_report : (l : Loaded) (input : List ℕ) (budget : ℕ) (t : Trial) → IsTrialOf l input budget t → report t.rows t.finished.count t.finished.end ≡ program_report (image_of_loaded l) input budget
trial_report l input budget t h =
    report-is (image_of_loaded l) input budget t.rows t.finished
    (record {
      are_ledger = h.rows;
      count = ap (λ f. f.count) h.finished;
      end = sym (end_of-back t.finished.end) ∙ ap (λ f. end_of f.end) h.finished;
    })

-- ---- a text on `out`

parts_marked : (got rest text : List ℕ) → got ++ rest ≡ text → marked 1 got ++ marked 1 rest ≡ marked 1 text
parts_marked got rest text e = sym (marked-append 1 got rest) ∙ ap (marked 1) e

pub text_shown : (s : Sinks) (held : Option (List ℕ)) (faults : ℕ) (text : List ℕ) → Appends s.out held text → faults ≡ s.out_faults → GetsAll s (record s { out = held; out_faults = faults }) (marked 1 text)
text_shown s held faults text a c = record { gets = Gets-on_out s held faults text a; calm = record { on_out = c; on_notes = refl } }

pub text_stops : (s : Sinks) (held : Option (List ℕ)) (faults : ℕ) (text : List ℕ)
    → WritesText {T = Unit {0}} s.out held s.out_faults faults text (Err Write) → StopsShort s (record s { out = held; out_faults = faults }) (marked 1 text)
text_stops s held faults text h = record {
  got = marked 1 h.0.beginning.got;
  rest = marked 1 h.0.beginning.rest;
  parts = parts_marked h.0.beginning.got h.0.beginning.rest text h.0.beginning.parts;
  gets = Gets-on_out s held faults h.0.beginning.got h.0.beginning.appends;
  fails = inl (h.1, refl, IsNext-marked 1 h.0.beginning.rest h.0.more);
}

pub text_within : (s : Sinks) (held : Option (List ℕ)) (faults : ℕ) (text : List ℕ)
    → WritesText {T = Unit {0}} s.out held s.out_faults faults text (Err NoMemory) → GetsPart s (record s { out = held; out_faults = faults }) (marked 1 text)
text_within s held faults text h = record {
  got = marked 1 h.0.got;
  rest = marked 1 h.0.rest;
  parts = parts_marked h.0.got h.0.rest text h.0.parts;
  gets = Gets-on_out s held faults h.0.got h.0.appends;
  calm = record { on_out = h.1; on_notes = refl };
}

-- a promise of a text on `out` alone
module _ (p : Promise) (g : Given) (entries : List Entry) (history : IsHistory p.has_tracks g entries) (text : List ℕ) (is : p.writes g entries ≡ marked 1 text) (s : Sinks) (got : Option (List ℕ)) (faults : ℕ) where
  pub report-whole : WritesText {T = Unit {0}} s.out got s.out_faults faults text (Ok tt) → KeepsPromise p g s (record s { out = got; out_faults = faults }) (wholly p g entries)
  report-whole w =
      let after : Sinks = record s { out = got; out_faults = faults } in
      kept-whole p g entries history s after (subst (GetsAll s after) (sym is) (text_shown s got faults text w.0 w.1))

  breaks-off : (e : OutputFault) → WritesText {T = Unit {0}} s.out got s.out_faults faults text (Err e) → BreaksOff e s (record s { out = got; out_faults = faults }) (marked 1 text)
  breaks-off Write w = text_stops s got faults text w
  breaks-off NoMemory w = text_within s got faults text w

  pub report-part : (e : OutputFault) → WritesText {T = Unit {0}} s.out got s.out_faults faults text (Err e) → KeepsPromise p g s (record s { out = got; out_faults = faults }) (plainly (answer_of_fault e))
  report-part e w =
      let after : Sinks = record s { out = got; out_faults = faults } in
      kept-part p g entries history s after e (subst (BreaksOff e s after) (sym is) (breaks-off e w))

-- ---- what is left on `out` where a text stops short

-- a beginning and an end of a text's marked bytes, as those of the text
record Cut (text : List ℕ) (got rest : List Mark) : Type 0 where
  pub first : List ℕ
  pub last : List ℕ
  pub parts : first ++ last ≡ text
  pub got_is : got ≡ marked 1 first
  pub rest_is : rest ≡ marked 1 last

cut_text : (text : List ℕ) (got rest : List Mark) → got ++ rest ≡ marked 1 text → Cut text got rest
cut_text text [] rest e = record { first = []; last = text; parts = refl; got_is = refl; rest_is = e }
cut_text [] (m ∷ ms) rest e = cc
cut_text (b ∷ bs) (m ∷ ms) rest e =
    let below = cut_text bs ms rest (ap (λ xs. drop 1 xs) e) in
    let head : m ≡ record { stream = 1; byte = b } = ap (λ xs. get_or xs 0 m) e in
    record {
      first = b ∷ below.first;
      last = below.last;
      parts = ap (λ xs. b ∷ xs) below.parts;
      got_is = ap (λ x. x ∷ ms) head ∙ ap (λ xs. (record { stream = 1; byte = b }) ∷ xs) below.got_is;
      rest_is = below.rest_is;
    }

next_of_text : (text : List ℕ) → IsNext 1 (marked 1 text) → 0 < length text
next_of_text [] h = absurd h
next_of_text (b ∷ bs) h = omega arith

not_of_text : (text : List ℕ) → IsNext 2 (marked 1 text) → ⊥
not_of_text [] h = h
not_of_text (b ∷ bs) h = omega (arith, h)

on_out : (old new : Sinks) (text : List ℕ) → FailsAt old new (marked 1 text) → (0 < length text) × Rose old.out_faults new.out_faults
on_out old new text (inl h) = (next_of_text text h.2, h.0)
on_out old new text (inr h) = absurd (not_of_text text h.2)

pub stops_on_out : (old new : Sinks) (text : List ℕ) → StopsShort old new (marked 1 text) → StoppedInText old.out new.out text × Rose old.out_faults new.out_faults
stops_on_out old new text h =
    let cut = cut_text text h.got h.rest h.parts in
    let fails = on_out old new cut.last (subst (FailsAt old new) cut.rest_is h.fails) in
    let appends = subst (Appends old.out new.out) (ap (stream_bytes 1) cut.got_is ∙ stream_bytes-own_1 cut.first) h.gets.stream_1 in (
      record { beginning = record { got = cut.first; rest = cut.last; parts = cut.parts; appends = appends }; more = fails.0 },
      fails.1,
    )
