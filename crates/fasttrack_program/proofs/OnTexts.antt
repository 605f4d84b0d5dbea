-- The texts of rows and of entries, one after another
use Rattle.std.proofs.Common.{◌≡◌, ℕ, ◌+◌, ◌<◌, List, [], ◌∷◌, ◌++◌, length, drop, get_or, sym, ◌∙◌, append_assoc}
use Rattle.std.proofs.lemmas.List.{at_drop_more}
use Rattle.speculation.specs.declared.history.Entry.{Entry}
use Rattle.board_events.specs.Texts.{text_of}
use Rattle.region_ledger.specs.declared.row.Row.{Row}
use Rattle.report_text.specs.Reports.{row_line}
use Rattle.journal_check.specs.Journals.{journal_text}
use Rattle.fasttrack_program.specs.Reports.{rows_text}

-- ---- rows

-- the rows from the i-th on
pub rows_next : (rows : List Row) (i : ℕ) (d : Row) → i < length rows → rows_text (drop i rows) ≡ row_line (get_or rows i d) ++ rows_text (drop (i + 1) rows)
rows_next rows i d h = at_drop_more rows_text rows i d h

-- ---- entries

-- the entries from the i-th on
pub entries_next : (entries : List Entry) (i : ℕ) (d : Entry) → i < length entries → journal_text (drop i entries) ≡ (text_of (get_or entries i d) ++ 10 ∷ []) ++ journal_text (drop (i + 1) entries)
entries_next entries i d h = at_drop_more journal_text entries i d h ∙ sym (append_assoc (text_of (get_or entries i d)) (10 ∷ []) (journal_text (drop (i + 1) entries)))
