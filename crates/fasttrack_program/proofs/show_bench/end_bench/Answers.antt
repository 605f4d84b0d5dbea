use Rattle.std.proofs.Common.{◌≡◌, ℕ, List, Err, refl, ◌<◌, ◌≤◌, ◌^◌, sym, subst}
use Rattle.std.specs.Prelude.{All, IfSome}
use Rattle.speculation.specs.Ledger.{originals}
use Rattle.elf32_loader.specs.declared.loaded.Loaded.{Loaded}
use Rattle.region_ledger.specs.Ledger.{ledger_rows, totals_of, SavesAtMostAll}
use Rattle.guest_streams.specs.GuestStreams.{Sinks, with_out}
use Rattle.program_words.specs.declared.request.Task.TheVariants.{Bench}
use Rattle.serial_run.specs.Conducting.{released_total}
use Rattle.fasttrack_program.specs.Promise.{promise_of}
use Rattle.fasttrack_program.specs.Serving.{KeepsPromise}
use Rattle.fasttrack_program.specs.Tracks.{HasOutcome, given_of}
use Rattle.report_text.specs.Reports.{bench_lines}
use Rattle.sink_text.proofs.OnTexts.{WritesText-as}
use Rattle.fasttrack_program.proofs.OnRuns.{outcome-inside, outcome-saves, total-fits, bench-whole, bench-part, bench-breaks}
use Rattle.fasttrack_program.proofs.show_bench.end_bench.Goals as goal

pub returns-in_default : goal.returns-in_default
returns-in_default g c = λ (l : Loaded) (input : List ℕ) (s : Sinks) ran.
    let before = with_out g.O.Sink c.args.out.now s in
    subst (KeepsPromise (promise_of (Bench c.args.number)) (given_of l input c.args.options.now) before before) (sym c.plain.ensures)
    (bench-breaks l input c.args.number c.args.options.now before c.requires.settings.some)

pub write_summary-requires-clause-inside : goal.write_summary-requires-clause-inside
write_summary-requires-clause-inside g c =
    let run = subst (λ x. IfSome x (λ o. (l : Loaded) × (input : List ℕ) × HasOutcome l input c.args.options.now o)) c.in-Some.is c.requires.ran in
    subst (λ rows. originals (ledger_rows rows) ≤ c.in-Some-finished.finished.count) (sym c.as_slice.ensures)
    (outcome-inside run.0 run.1 c.args.options.now run.2.0 c.in-Some.outcome c.in-Some-finished.finished run.2.1 c.in-Some-finished.is)

pub write_summary-requires-clause-saves : goal.write_summary-requires-clause-saves
write_summary-requires-clause-saves g c =
    let run = subst (λ x. IfSome x (λ o. (l : Loaded) × (input : List ℕ) × HasOutcome l input c.args.options.now o)) c.in-Some.is c.requires.ran in
    subst (λ rows. All SavesAtMostAll rows) (sym c.as_slice.ensures)
    (outcome-saves run.0 run.1 c.args.options.now run.2.0 c.in-Some.outcome c.in-Some-finished.finished run.2.1 c.in-Some-finished.is)

pub write_summary-requires-clause-size : goal.write_summary-requires-clause-size
write_summary-requires-clause-size g c =
    let run = subst (λ x. IfSome x (λ o. (l : Loaded) × (input : List ℕ) × HasOutcome l input c.args.options.now o)) c.in-Some.is c.requires.ran in
    subst (λ entries. released_total entries < 2 ^ 64) (sym c.as_slice-2.ensures)
    (total-fits run.0 run.1 c.args.options.now run.2.0 c.in-Some.outcome c.in-Some-finished.finished run.2.1 c.in-Some-finished.is c.requires.settings.budget)

pub returns-in-Ok : goal.returns-in-Ok
returns-in-Ok g c = λ (l : Loaded) (input : List ℕ) (s : Sinks) ran.
    let before = with_out g.O.Sink c.args.out.now s in
    let done = subst (λ x. IfSome x (HasOutcome l input c.args.options.now)) c.in-Some.is ran in
    let written = rw (c.as_slice.ensures, c.as_slice-2.ensures) at c.in-Ok.ensures in
    bench-whole l input c.args.options.now done.0 c.in-Some.outcome c.in-Some-finished.finished done.1 c.in-Some-finished.is c.args.number before (g.O.Sink.contents c.write_summary.new.out) (g.O.Sink.faults c.write_summary.new.out) written

pub returns : goal.returns
returns g c = λ (l : Loaded) (input : List ℕ) (s : Sinks) ran.
    let before = with_out g.O.Sink c.args.out.now s in
    let done = subst (λ x. IfSome x (HasOutcome l input c.args.options.now)) c.in-Some.is ran in
    let summary = bench_lines c.args.number (totals_of c.in-Some.outcome.rows c.in-Some-finished.finished.count) (released_total c.in-Some.outcome.entries) c.in-Some-finished.finished.end in
    let is : bench_lines c.args.number (totals_of c.as_slice.result.now c.in-Some-finished.finished.count) (released_total c.as_slice-2.result.now) c.in-Some-finished.finished.end ≡ summary = rw (c.as_slice.ensures, c.as_slice-2.ensures) refl in
    let written = WritesText-as {T = Unit {0}} before.out (g.O.Sink.contents c.write_summary.new.out) before.out_faults (g.O.Sink.faults c.write_summary.new.out) _ summary (Err c.in-Err.fault) is c.in-Err.ensures in
    rw (c.plain-in-Err.ensures, c.answer_of_fault.ensures)
    (bench-part l input c.args.options.now done.0 c.in-Some.outcome c.in-Some-finished.finished done.1 c.in-Some-finished.is c.args.number before (g.O.Sink.contents c.write_summary.new.out) (g.O.Sink.faults c.write_summary.new.out) c.in-Err.fault written)
