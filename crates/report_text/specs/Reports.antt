-- The lines of a report. Numbers are plain decimal; addresses are eight hexadecimal digits in lower case; each line ends
-- with a line feed, which has the code 10.
use Rattle.std.specs.Prelude.{ℕ, List, [], ◌∷◌, ◌++◌, codes, decimal}
use Rattle.guest_model.specs.declared.difference.Difference.{Difference}
use Rattle.guest_model.specs.declared.difference.Difference.TheVariants.{Pc, Register, Place, Break, Byte}
use Rattle.guest_model.specs.declared.end.End.{End}
use Rattle.guest_model.specs.declared.end.End.TheVariants.{Exit, Trap, Spent}
use Rattle.region_ledger.specs.declared.verdict.Verdict.{Verdict}
use Rattle.region_ledger.specs.declared.verdict.Verdict.TheVariants.{Kept, Differs, Stopped, Late}
use Rattle.region_ledger.specs.declared.row.Row.{Row}
use Rattle.region_ledger.specs.declared.summary.Totals.{Totals}
use Rattle.report_text.specs.Texts.{address_text, trap_text}

-- a word, a number, and what follows
abbrev pub named : List ℕ → ℕ → List ℕ → List ℕ
named word n rest = word ++ (decimal n ++ rest)

abbrev pub difference_text : Difference → List ℕ
difference_text Pc = codes "pc"
difference_text (Register r) = codes "register " ++ decimal r
difference_text Place = codes "place"
difference_text Break = codes "break"
difference_text (Byte a) = codes "byte " ++ address_text a

abbrev pub verdict_text : Verdict → List ℕ
verdict_text Kept = codes "kept"
verdict_text (Differs d) = codes "differs " ++ difference_text d
verdict_text Stopped = codes "stopped"
verdict_text Late = codes "late"

abbrev pub row_words : Row → List ℕ
row_words r =
    named (codes "region ") r.number (named (codes " at ") r.at (codes " pc " ++ (address_text r.pc
    ++ named (codes " original ") r.original (named (codes " fast ") r.fast (codes " " ++ verdict_text r.verdict)))))

abbrev pub row_line : Row → List ℕ
row_line r = row_words r ++ 10 ∷ []

abbrev pub totals_words : Totals → List ℕ
totals_words t =
    named (codes "regions ") t.regions (named (codes " kept ") t.kept (named (codes " differs ") t.differs
    (named (codes " stopped ") t.stopped (named (codes " late ") t.late (named (codes " alone ") t.alone_count
    (codes " path " ++ decimal t.path_count))))))

abbrev pub totals_line : Totals → List ℕ
totals_line t = totals_words t ++ 10 ∷ []

abbrev pub end_words : End → List ℕ
end_words (Exit code) = codes "end exit " ++ decimal code
end_words (Trap trap pc) = codes "end trap " ++ (trap_text trap ++ (codes " at " ++ address_text pc))
end_words Spent = codes "end spent"

abbrev pub end_line : End → List ℕ
end_line e = end_words e ++ 10 ∷ []

-- the summary of the bench of this number: its number, the totals, the bytes of output, the end
abbrev pub bench_lines : ℕ → Totals → ℕ → End → List ℕ
bench_lines number t output e =
    named (codes "bench ") number (10 ∷ (totals_line t ++ named (codes "output ") output (10 ∷ end_line e)))
