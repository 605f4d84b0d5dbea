-- The report of a program: the rows of its ledger, their totals, and its end; and the summary of a bench
use Rattle.std.specs.Prelude.{ℕ, if◌then◌else◌, List, [], ◌∷◌, ◌++◌, length}
use Rattle.speculation.specs.declared.history.Entry.{Entry}
use Rattle.speculation.specs.Record.{output_of}
use Rattle.guest_model.specs.Image.{Image, program_alone}
use Rattle.guest_model.specs.declared.end.End.{End}
use Rattle.region_ledger.specs.Ledger.{totals_of}
use Rattle.region_ledger.specs.declared.finished.Finished.{Finished}
use Rattle.region_ledger.specs.declared.row.Row.{Row}
use Rattle.journal_check.specs.Journals.{journal_text}
use Rattle.report_text.specs.Reports.{row_line, totals_line, end_line, bench_lines}
use Rattle.region_account.specs.Reported.{reported_ledger}
use Rattle.guest_streams.specs.GuestStreams.{end_of}
use Rattle.fasttrack_program.specs.declared.options.Options.{Options}

-- ---- the text

abbrev pub rows_text : List Row → List ℕ
rows_text [] = []
rows_text (r ∷ rs) = row_line r ++ rows_text rs

-- the lines of these rows of a program that takes so many instructions alone and ends so
abbrev pub report : List Row → ℕ → End → List ℕ
report rows count e = rows_text rows ++ (totals_line (totals_of rows count) ++ end_line e)

-- ---- the report of a program

-- the ledger, the totals and the end of the program alone with this input, within this budget
unfoldable pub program_report : Image → List ℕ → ℕ → List ℕ
program_report i input budget =
    report (reported_ledger i input budget) (program_alone i input budget).count (end_of (program_alone i input budget).end)

-- the summary of a bench: the totals, the number of bytes that the program alone writes, and its end
unfoldable pub bench_report : ℕ → Image → List ℕ → ℕ → List ℕ
bench_report number i input budget =
    bench_lines number (totals_of (reported_ledger i input budget) (program_alone i input budget).count)
    (length (output_of (program_alone i input budget))) (end_of (program_alone i input budget).end)

-- ---- the texts that are asked for behind the guest's output, of these rows, this end and these entries

abbrev pub asked_report : Options → List Row → Finished → List ℕ
asked_report o rows f = if o.report then report rows f.count f.end else []

abbrev pub asked_journal : Options → List Entry → List ℕ
asked_journal o entries = if o.journal then journal_text entries else []

-- the report, then the journal
abbrev pub asked_texts : Options → List Row → Finished → List Entry → List ℕ
asked_texts o rows f entries = asked_report o rows f ++ asked_journal o entries
