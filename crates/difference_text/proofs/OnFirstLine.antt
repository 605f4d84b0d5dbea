-- The first line of all differences
use Rattle.std.proofs.Common.{◌≡◌, ℕ, zero, suc, Bool, true, false, not, if◌then◌else◌, nat_eq, ◌-◌, ◌^◌, List, [], ◌∷◌, ◌++◌, length, take, flat_map, Option, Some, None, option_map, refl, sym, ap, ◌∙◌, subst, append_assoc, arith}
use Rattle.std.specs.Prelude.{codes, decimal}
use Rattle.std.proofs.lemmas.Bool.Decides.{nat_tests}
use Rattle.guest_model.specs.ByteMap.{ByteMap, bytes_from}
use Rattle.guest_model.specs.Difference.{difference, least, or_else}
use Rattle.guest_model.specs.MachineState.{MachineState}
use Rattle.guest_model.specs.Registers.{RegFile, IsRegFile, reg}
use Rattle.guest_model.specs.declared.difference.Difference.{Difference}
use Rattle.guest_model.specs.declared.difference.Difference.TheVariants.{Pc, Register, Place, Break, Byte}
use Rattle.report_text.specs.Texts.{byte_text, address_text}
use Rattle.byte_runs.specs.Runs.{Span, BeginsAt, differs, differing, shown}
use Rattle.byte_runs.proofs.OnFirst.{first_none as runs_none, first_some as runs_some}
use Rattle.difference_text.specs.Differences.{pair_line, register_name, register_line, registers_lines, run_line, most_runs, more_line, memory_lines, differences_lines}
use Rattle.difference_text.specs.FirstLine.{first_words, BeginsWith}

-- the lines tell of this difference first, and are none where there is none
pub record Tells (o : Option Difference) (lines : List ℕ) : Type 0 where
  pub none : o ≡ None → lines ≡ []
  pub some : (d : Difference) → o ≡ Some d → BeginsWith lines (first_words d)

-- lines and those behind them
both : (o p : Option Difference) (xs ys : List ℕ) → Tells o xs → Tells p ys → Tells (or_else o p) (xs ++ ys)
both (Some e) p xs ys h k = record {
  none = λ is. absurd (cc);
  some = λ d is.
      let begins = h.some d is in
      (begins.0 ++ ys, ap (λ zs. zs ++ ys) begins.1 ∙ append_assoc (first_words d) begins.0 ys);
}
both None p xs ys h k =
    let nothing : xs ++ ys ≡ ys = ap (λ zs. zs ++ ys) (h.none refl) in
    record {
      none = λ is. nothing ∙ k.none is;
      some = λ d is. let begins = k.some d is in (begins.0, nothing ∙ begins.1);
    }

or_else-none : (o : Option Difference) → or_else o None ≡ o
or_else-none (Some d) = refl
or_else-none None = refl

-- a line that is there where there is a difference
one : (b : Bool) (d : Difference) (line : List ℕ) → BeginsWith line (first_words d) → Tells (if b then None else Some d) (if b then [] else line)
one true d line begins = record { none = λ is. refl; some = λ e is. absurd (cc) }
one false d line begins = record {
  none = λ is. absurd (cc);
  some = λ e is. let same : d ≡ e = cc in subst (λ x. BeginsWith line (first_words x)) same begins;
}

pair_begins : (name original fast : List ℕ) → BeginsWith (pair_line name original fast) (codes "  " ++ (name ++ codes " original "))
pair_begins name original fast =
    let rest = original ++ (codes " fast " ++ (fast ++ 10 ∷ [])) in
    (rest, ap (λ xs. codes "  " ++ xs) (sym (append_assoc name (codes " original ") rest)))

-- ---- registers

eqb-refl : (x : ℕ) → nat_eq x x ≡ true
eqb-refl x = grind (arith, nat_tests)

module _ (f g : RegFile) (zeros : reg f 0 ≡ reg g 0) where
  abbrev apart : ℕ → Bool
  apart r = not (nat_eq (reg f r) (reg g r))

  register_tells : (b : Bool) (r : ℕ) (line : List ℕ) → BeginsWith line (first_words (Register r)) → Tells (option_map Register (if not b then Some r else None)) (if b then [] else line)
  register_tells true r line begins = one true (Register r) line begins
  register_tells false r line begins = one false (Register r) line begins

  map_or : (o p : Option ℕ) → option_map Register (or_else o p) ≡ or_else (option_map Register o) (option_map Register p)
  map_or (Some r) p = refl
  map_or None p = refl

  first_apart : apart 0 ≡ false
  first_apart = ap (λ v. not (nat_eq v (reg g 0))) zeros ∙ ap not (eqb-refl (reg g 0))

  registers_tell : (n : ℕ) → Tells (option_map Register (least apart (suc n))) (registers_lines f g n)
  unfolding least registers_lines
  registers_tell zero =
      subst (λ (b : Bool). Tells (option_map Register (or_else None (if b then Some 0 else None))) []) (sym first_apart)
      (record { none = λ is. refl; some = λ d is. absurd (cc) })
  registers_tell (suc n) =
      let r = suc n in
      subst (λ o. Tells o (registers_lines f g n ++ register_line f g r)) (sym (map_or (least apart r) (if apart r then Some r else None)))
      (both (option_map Register (least apart r)) (option_map Register (if apart r then Some r else None)) (registers_lines f g n) (register_line f g r) (registers_tell n)
      (register_tells (nat_eq (reg f r) (reg g r)) r (pair_line (register_name r) (address_text (reg f r)) (address_text (reg g r))) (pair_begins (register_name r) (address_text (reg f r)) (address_text (reg g r)))))

-- ---- bytes

module _ (m n : ByteMap) where
  no_lines : differing m n ≡ [] → memory_lines m n ≡ []
  unfolding memory_lines
  no_lines is = ap (λ rs. flat_map (run_line m n) (take most_runs rs) ++ more_line (length rs - most_runs)) is

  run_begins : (r : Span) → BeginsWith (run_line m n r) (first_words (Byte r.address))
  run_begins r =
      let address = address_text r.address in
      let length_is = decimal r.length in
      let left = flat_map byte_text (bytes_from m r.address (shown r.length)) in
      let right = flat_map byte_text (bytes_from n r.address (shown r.length)) in
      let rest = codes " original " ++ (left ++ (codes " fast " ++ (right ++ 10 ∷ []))) in (
        length_is ++ rest,
        ap (λ xs. codes "  bytes " ++ xs) (append_assoc address (codes " " ++ length_is) rest ∙ sym (append_assoc address (codes " ") (length_is ++ rest))),
      )

  some_lines : (a : ℕ) → BeginsAt (differing m n) a → BeginsWith (memory_lines m n) (first_words (Byte a))
  unfolding memory_lines
  some_lines a h =
      let r = h.0 in
      let rs = h.1 in
      let behind = flat_map (run_line m n) (take 31 rs) ++ more_line (length (r ∷ rs) - most_runs) in
      let begins = run_begins r in
      let whole : memory_lines m n ≡ run_line m n r ++ behind =
      ap (λ ss. flat_map (run_line m n) (take most_runs ss) ++ more_line (length ss - most_runs)) h.2
      ∙ append_assoc (run_line m n r) (flat_map (run_line m n) (take 31 rs)) (more_line (length (r ∷ rs) - most_runs)) in
      subst (λ x. BeginsWith (memory_lines m n) (first_words (Byte x))) h.3
      (begins.0 ++ behind, whole ∙ ap (λ xs. xs ++ behind) begins.1 ∙ append_assoc (first_words (Byte r.address)) begins.0 behind)

  bytes_tell : (o : Option ℕ) → least (differs m n) (2 ^ 32) ≡ o → Tells (option_map Byte o) (memory_lines m n)
  bytes_tell None is = record { none = λ e. no_lines (runs_none (differs m n) (2 ^ 32) is); some = λ d e. absurd (cc) }
  bytes_tell (Some a) is = record {
    none = λ e. absurd (cc);
    some = λ d e. let same : Byte a ≡ d = cc in subst (λ x. BeginsWith (memory_lines m n) (first_words x)) same (some_lines a (runs_some (differs m n) (2 ^ 32) a is));
  }

-- ---- states

pub differences_tell : (a b : MachineState) → IsRegFile a.regs → IsRegFile b.regs → Tells (difference a b) (differences_lines a b)
unfolding difference
differences_tell a b left right =
    let zeros : reg a.regs 0 ≡ reg b.regs 0 = left.zero ∙ sym right.zero in
    let bytes = bytes_tell a.memory b.memory (least (differs a.memory b.memory) (2 ^ 32)) refl in
    let brk = one (nat_eq a.heap.brk b.heap.brk) Break _ (pair_begins (codes "break") (address_text a.heap.brk) (address_text b.heap.brk)) in
    let place = one (nat_eq a.place b.place) Place _ (pair_begins (codes "place") (decimal a.place) (decimal b.place)) in
    let registers = registers_tell a.regs b.regs zeros 31 in
    let pc = one (nat_eq a.regs.pc b.regs.pc) Pc _ (pair_begins (codes "pc") (address_text a.regs.pc) (address_text b.regs.pc)) in
    let last = subst (λ o. Tells o (memory_lines a.memory b.memory)) (sym (or_else-none (option_map Byte (least (differs a.memory b.memory) (2 ^ 32))))) bytes in
    both _ _ _ _ pc (both _ _ _ _ registers (both _ _ _ _ place (both _ _ _ _ brk last)))
