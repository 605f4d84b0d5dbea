use Rattle.std.proofs.Common.{◌≡◌, ◌≤◌, ℕ, List, Err, refl, sym, subst}
use Rattle.std.specs.Prelude.{All}
use Rattle.speculation.specs.Ledger.{originals}
use Rattle.elf32_loader.specs.declared.loaded.Loaded.{Loaded}
use Rattle.region_ledger.specs.Ledger.{ledger_rows, SavesAtMostAll}
use Rattle.guest_streams.specs.GuestStreams.{Sinks}
use Rattle.guest_streams.specs.declared.fault.OutputFault.TheVariants.{Write, NoMemory}
use Rattle.program_words.specs.declared.request.Task.TheVariants.{Run}
use Rattle.fasttrack_program.specs.Promise.{promise_of}
use Rattle.fasttrack_program.specs.Serving.{KeepsPromise}
use Rattle.fasttrack_program.specs.Reports.{asked_texts}
use Rattle.fasttrack_program.specs.Tracks.{RunsTracks, given_of, with_notes}
use Rattle.sink_text.proofs.OnTexts.{WritesText-as}
use Rattle.fasttrack_program.proofs.OnRuns.{run-breaks, outcome-inside, outcome-saves, run-whole, run-part}
use Rattle.fasttrack_program.proofs.show_run.end_run.Goals as goal

pub returns-in-WriteFault : goal.returns-in-WriteFault
returns-in-WriteFault g c = λ (l : Loaded) (input : List ℕ) (old mid : Sinks) ran.
    let o = c.args.options.now in
    let between = with_notes g.N.Sink c.args.notes.now mid in
    let broken = subst (λ r. RunsTracks l input o old between r) c.in-WriteFault.is ran in
    subst (KeepsPromise (promise_of Run) (given_of l input o) old between) (sym c.plain.ensures) (run-breaks l input o c.requires.settings.some old between Write broken.1)

pub returns-in-NoMemory : goal.returns-in-NoMemory
returns-in-NoMemory g c = λ (l : Loaded) (input : List ℕ) (old mid : Sinks) ran.
    let o = c.args.options.now in
    let between = with_notes g.N.Sink c.args.notes.now mid in
    let broken = subst (λ r. RunsTracks l input o old between r) c.in-NoMemory.is ran in
    subst (KeepsPromise (promise_of Run) (given_of l input o) old between) (sym c.plain-in-NoMemory.ensures) (run-breaks l input o c.requires.settings.some old between NoMemory broken.1)

pub write_texts-requires-clause-inside : goal.write_texts-requires-clause-inside
write_texts-requires-clause-inside g c =
    let o = c.args.options.now in
    let run = c.requires.ran in
    let done = subst (λ r. RunsTracks run.0 run.1 o run.2 run.3 r) c.in-Done.is run.4 in
    subst (λ rows. originals (ledger_rows rows) ≤ c.in-Some.finished.count) (sym c.as_slice.ensures)
    (outcome-inside run.0 run.1 o done.0 c.in-Done.outcome c.in-Some.finished done.1.0 c.in-Some.is)

pub write_texts-requires-clause-saves : goal.write_texts-requires-clause-saves
write_texts-requires-clause-saves g c =
    let o = c.args.options.now in
    let run = c.requires.ran in
    let done = subst (λ r. RunsTracks run.0 run.1 o run.2 run.3 r) c.in-Done.is run.4 in
    subst (λ rows. All SavesAtMostAll rows) (sym c.as_slice.ensures)
    (outcome-saves run.0 run.1 o done.0 c.in-Done.outcome c.in-Some.finished done.1.0 c.in-Some.is)

pub returns-in-Ok : goal.returns-in-Ok
returns-in-Ok g c = λ (l : Loaded) (input : List ℕ) (old mid : Sinks) ran.
    let o = c.args.options.now in
    let between = with_notes g.N.Sink c.args.notes.now mid in
    let done = subst (λ r. RunsTracks l input o old between r) c.in-Done.is ran in
    let written = rw (c.as_slice.ensures, c.as_slice-2.ensures) at c.in-Ok.ensures in
    rw c.answer_of.ensures
    (run-whole l input o done.0 c.in-Done.outcome c.in-Some.finished done.1.0 c.in-Some.is old between (g.N.Sink.contents c.write_texts.new.notes) (g.N.Sink.faults c.write_texts.new.notes) done.1.1 written)

pub returns : goal.returns
returns g c = λ (l : Loaded) (input : List ℕ) (old mid : Sinks) ran.
    let o = c.args.options.now in
    let between = with_notes g.N.Sink c.args.notes.now mid in
    let done = subst (λ r. RunsTracks l input o old between r) c.in-Done.is ran in
    let texts = asked_texts o c.in-Done.outcome.rows c.in-Some.finished c.in-Done.outcome.entries in
    let is : asked_texts o c.as_slice.result.now c.in-Some.finished c.as_slice-2.result.now ≡ texts = rw (c.as_slice.ensures, c.as_slice-2.ensures) refl in
    let written = WritesText-as {T = Unit {0}} between.notes (g.N.Sink.contents c.write_texts.new.notes) between.notes_faults (g.N.Sink.faults c.write_texts.new.notes) _ texts (Err c.in-Err.fault) is c.in-Err.ensures in
    rw (c.plain-in-Err.ensures, c.answer_of_fault.ensures)
    (run-part l input o done.0 c.in-Done.outcome c.in-Some.finished done.1.0 c.in-Some.is old between (g.N.Sink.contents c.write_texts.new.notes) (g.N.Sink.faults c.write_texts.new.notes) done.1.1 c.in-Err.fault written)
