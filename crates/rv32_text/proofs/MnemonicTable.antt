-- All mnemonics, and that no start of one begins another's
use Rattle.std.proofs.Common.{◌≡◌, ℕ, ◌≤◌, max, length, ◌⊎◌, inl, inr, arith, subst, Result, Ok, Err, Bool, true, false, ◌&&◌, cond, nat_eq, List, [], ◌∷◌, ◌++◌, Option, Some, None, refl, sym, ap, ◌∙◌}
use Rattle.std.specs.Prelude.{MatchResult}
use Rattle.std.proofs.lemmas.Bool.{cases_lt}
use Rattle.guest_model.specs.declared.instr.UpperOp.TheVariants.{Lui, Auipc}
use Rattle.guest_model.specs.declared.instr.Cond.TheVariants as Conds
use Rattle.guest_model.specs.declared.instr.LoadWidth.TheVariants as Loads
use Rattle.guest_model.specs.declared.instr.StoreWidth.TheVariants as Stores
use Rattle.guest_model.specs.declared.instr.ImmOp.TheVariants as ImmOps
use Rattle.guest_model.specs.declared.instr.RegOp.TheVariants as RegOps
use Rattle.rv32_text.specs.declared.mnemonic.Mnemonic.{Mnemonic}
use Rattle.rv32_text.specs.declared.mnemonic.Mnemonic.TheVariants as Mnemonics
use Rattle.rv32_text.specs.Starts.{start_of}
use Rattle.rv32_text.specs.Mnemonics.{PartsBy, EachParts, Longest, HasNoStart}
use Rattle.rv32_text.specs.Languages.{ended, rest, Differs}

abbrev pub all_mnemonics : List Mnemonic
all_mnemonics =
    (Mnemonics.Upper Lui) ∷ (Mnemonics.Upper Auipc) ∷ Mnemonics.Jal ∷ Mnemonics.Jalr ∷
    (Mnemonics.Branch Conds.Eq) ∷ (Mnemonics.Branch Conds.Ne) ∷ (Mnemonics.Branch Conds.Lt) ∷
    (Mnemonics.Branch Conds.Ge) ∷ (Mnemonics.Branch Conds.Ltu) ∷ (Mnemonics.Branch Conds.Geu) ∷
    (Mnemonics.Load Loads.B) ∷ (Mnemonics.Load Loads.H) ∷ (Mnemonics.Load Loads.W) ∷
    (Mnemonics.Load Loads.Bu) ∷ (Mnemonics.Load Loads.Hu) ∷ (Mnemonics.Store Stores.B) ∷
    (Mnemonics.Store Stores.H) ∷ (Mnemonics.Store Stores.W) ∷ (Mnemonics.OpImm ImmOps.Add) ∷
    (Mnemonics.OpImm ImmOps.Slt) ∷ (Mnemonics.OpImm ImmOps.Sltu) ∷ (Mnemonics.OpImm ImmOps.Xor) ∷
    (Mnemonics.OpImm ImmOps.Or) ∷ (Mnemonics.OpImm ImmOps.And) ∷ (Mnemonics.OpImm ImmOps.Sll) ∷
    (Mnemonics.OpImm ImmOps.Srl) ∷ (Mnemonics.OpImm ImmOps.Sra) ∷ (Mnemonics.Op RegOps.Add) ∷
    (Mnemonics.Op RegOps.Sub) ∷ (Mnemonics.Op RegOps.Sll) ∷ (Mnemonics.Op RegOps.Slt) ∷
    (Mnemonics.Op RegOps.Sltu) ∷ (Mnemonics.Op RegOps.Xor) ∷ (Mnemonics.Op RegOps.Srl) ∷
    (Mnemonics.Op RegOps.Sra) ∷ (Mnemonics.Op RegOps.Or) ∷ (Mnemonics.Op RegOps.And) ∷
    (Mnemonics.Op RegOps.Mul) ∷ (Mnemonics.Op RegOps.Mulh) ∷ (Mnemonics.Op RegOps.Mulhsu) ∷
    (Mnemonics.Op RegOps.Mulhu) ∷ (Mnemonics.Op RegOps.Div) ∷ (Mnemonics.Op RegOps.Divu) ∷
    (Mnemonics.Op RegOps.Rem) ∷ (Mnemonics.Op RegOps.Remu) ∷ Mnemonics.Fence ∷ Mnemonics.Ecall ∷
    Mnemonics.Ebreak ∷ Mnemonics.Word ∷ []

begins : List ℕ → List ℕ → Bool
begins [] s = true
begins (c ∷ cs) [] = false
begins (c ∷ cs) (d ∷ ds) = nat_eq c d && begins cs ds

-- the first of these with whose start the text begins
first_of : List Mnemonic → List ℕ → Option Mnemonic
first_of [] s = None
first_of (m ∷ ms) s = cond (begins (start_of m) s) (Some m) (first_of ms s)

-- whatever follows a start, its mnemonic is the first that is found
found : (m : Mnemonic) (x : List ℕ) → first_of all_mnemonics (start_of m ++ x) ≡ Some m
unfolding first_of begins
found (Mnemonics.Upper Lui) x = refl
found (Mnemonics.Upper Auipc) x = refl
found Mnemonics.Jal x = refl
found Mnemonics.Jalr x = refl
found (Mnemonics.Branch Conds.Eq) x = refl
found (Mnemonics.Branch Conds.Ne) x = refl
found (Mnemonics.Branch Conds.Lt) x = refl
found (Mnemonics.Branch Conds.Ge) x = refl
found (Mnemonics.Branch Conds.Ltu) x = refl
found (Mnemonics.Branch Conds.Geu) x = refl
found (Mnemonics.Load Loads.B) x = refl
found (Mnemonics.Load Loads.H) x = refl
found (Mnemonics.Load Loads.W) x = refl
found (Mnemonics.Load Loads.Bu) x = refl
found (Mnemonics.Load Loads.Hu) x = refl
found (Mnemonics.Store Stores.B) x = refl
found (Mnemonics.Store Stores.H) x = refl
found (Mnemonics.Store Stores.W) x = refl
found (Mnemonics.OpImm ImmOps.Add) x = refl
found (Mnemonics.OpImm ImmOps.Slt) x = refl
found (Mnemonics.OpImm ImmOps.Sltu) x = refl
found (Mnemonics.OpImm ImmOps.Xor) x = refl
found (Mnemonics.OpImm ImmOps.Or) x = refl
found (Mnemonics.OpImm ImmOps.And) x = refl
found (Mnemonics.OpImm ImmOps.Sll) x = refl
found (Mnemonics.OpImm ImmOps.Srl) x = refl
found (Mnemonics.OpImm ImmOps.Sra) x = refl
found (Mnemonics.Op RegOps.Add) x = refl
found (Mnemonics.Op RegOps.Sub) x = refl
found (Mnemonics.Op RegOps.Sll) x = refl
found (Mnemonics.Op RegOps.Slt) x = refl
found (Mnemonics.Op RegOps.Sltu) x = refl
found (Mnemonics.Op RegOps.Xor) x = refl
found (Mnemonics.Op RegOps.Srl) x = refl
found (Mnemonics.Op RegOps.Sra) x = refl
found (Mnemonics.Op RegOps.Or) x = refl
found (Mnemonics.Op RegOps.And) x = refl
found (Mnemonics.Op RegOps.Mul) x = refl
found (Mnemonics.Op RegOps.Mulh) x = refl
found (Mnemonics.Op RegOps.Mulhsu) x = refl
found (Mnemonics.Op RegOps.Mulhu) x = refl
found (Mnemonics.Op RegOps.Div) x = refl
found (Mnemonics.Op RegOps.Divu) x = refl
found (Mnemonics.Op RegOps.Rem) x = refl
found (Mnemonics.Op RegOps.Remu) x = refl
found Mnemonics.Fence x = refl
found Mnemonics.Ecall x = refl
found Mnemonics.Ebreak x = refl
found Mnemonics.Word x = refl

pub start_told : (m n : Mnemonic) (x y : List ℕ) → start_of m ++ x ≡ start_of n ++ y → m ≡ n
start_told m n x y e =
    let both : Some m ≡ Some n = sym (found m x) ∙ (ap (λ (s : List ℕ). first_of all_mnemonics s) e ∙ found n y) in
    cc

pub each_part : (text : List ℕ) (place : ℕ) → EachParts text place all_mnemonics → (m : Mnemonic) → PartsBy text place m
each_part text place h (Mnemonics.Upper Lui) = h.0
each_part text place h (Mnemonics.Upper Auipc) = h.1.0
each_part text place h Mnemonics.Jal = h.1.1.0
each_part text place h Mnemonics.Jalr = h.1.1.1.0
each_part text place h (Mnemonics.Branch Conds.Eq) = h.1.1.1.1.0
each_part text place h (Mnemonics.Branch Conds.Ne) = h.1.1.1.1.1.0
each_part text place h (Mnemonics.Branch Conds.Lt) = h.1.1.1.1.1.1.0
each_part text place h (Mnemonics.Branch Conds.Ge) = h.1.1.1.1.1.1.1.0
each_part text place h (Mnemonics.Branch Conds.Ltu) = h.1.1.1.1.1.1.1.1.0
each_part text place h (Mnemonics.Branch Conds.Geu) = h.1.1.1.1.1.1.1.1.1.0
each_part text place h (Mnemonics.Load Loads.B) = h.1.1.1.1.1.1.1.1.1.1.0
each_part text place h (Mnemonics.Load Loads.H) = h.1.1.1.1.1.1.1.1.1.1.1.0
each_part text place h (Mnemonics.Load Loads.W) = h.1.1.1.1.1.1.1.1.1.1.1.1.0
each_part text place h (Mnemonics.Load Loads.Bu) = h.1.1.1.1.1.1.1.1.1.1.1.1.1.0
each_part text place h (Mnemonics.Load Loads.Hu) = h.1.1.1.1.1.1.1.1.1.1.1.1.1.1.0
each_part text place h (Mnemonics.Store Stores.B) = h.1.1.1.1.1.1.1.1.1.1.1.1.1.1.1.0
each_part text place h (Mnemonics.Store Stores.H) = h.1.1.1.1.1.1.1.1.1.1.1.1.1.1.1.1.0
each_part text place h (Mnemonics.Store Stores.W) = h.1.1.1.1.1.1.1.1.1.1.1.1.1.1.1.1.1.0
each_part text place h (Mnemonics.OpImm ImmOps.Add) = h.1.1.1.1.1.1.1.1.1.1.1.1.1.1.1.1.1.1.0
each_part text place h (Mnemonics.OpImm ImmOps.Slt) = h.1.1.1.1.1.1.1.1.1.1.1.1.1.1.1.1.1.1.1.0
each_part text place h (Mnemonics.OpImm ImmOps.Sltu) = h.1.1.1.1.1.1.1.1.1.1.1.1.1.1.1.1.1.1.1.1.0
each_part text place h (Mnemonics.OpImm ImmOps.Xor) = h.1.1.1.1.1.1.1.1.1.1.1.1.1.1.1.1.1.1.1.1.1.0
each_part text place h (Mnemonics.OpImm ImmOps.Or) = h.1.1.1.1.1.1.1.1.1.1.1.1.1.1.1.1.1.1.1.1.1.1.0
each_part text place h (Mnemonics.OpImm ImmOps.And) = h.1.1.1.1.1.1.1.1.1.1.1.1.1.1.1.1.1.1.1.1.1.1.1.0
each_part text place h (Mnemonics.OpImm ImmOps.Sll) = h.1.1.1.1.1.1.1.1.1.1.1.1.1.1.1.1.1.1.1.1.1.1.1.1.0
each_part text place h (Mnemonics.OpImm ImmOps.Srl) = h.1.1.1.1.1.1.1.1.1.1.1.1.1.1.1.1.1.1.1.1.1.1.1.1.1.0
each_part text place h (Mnemonics.OpImm ImmOps.Sra) = h.1.1.1.1.1.1.1.1.1.1.1.1.1.1.1.1.1.1.1.1.1.1.1.1.1.1.0
each_part text place h (Mnemonics.Op RegOps.Add) = h.1.1.1.1.1.1.1.1.1.1.1.1.1.1.1.1.1.1.1.1.1.1.1.1.1.1.1.0
each_part text place h (Mnemonics.Op RegOps.Sub) = h.1.1.1.1.1.1.1.1.1.1.1.1.1.1.1.1.1.1.1.1.1.1.1.1.1.1.1.1.0
each_part text place h (Mnemonics.Op RegOps.Sll) = h.1.1.1.1.1.1.1.1.1.1.1.1.1.1.1.1.1.1.1.1.1.1.1.1.1.1.1.1.1.0
each_part text place h (Mnemonics.Op RegOps.Slt) = h.1.1.1.1.1.1.1.1.1.1.1.1.1.1.1.1.1.1.1.1.1.1.1.1.1.1.1.1.1.1.0
each_part text place h (Mnemonics.Op RegOps.Sltu) = h.1.1.1.1.1.1.1.1.1.1.1.1.1.1.1.1.1.1.1.1.1.1.1.1.1.1.1.1.1.1.1.0
each_part text place h (Mnemonics.Op RegOps.Xor) = h.1.1.1.1.1.1.1.1.1.1.1.1.1.1.1.1.1.1.1.1.1.1.1.1.1.1.1.1.1.1.1.1.0
each_part text place h (Mnemonics.Op RegOps.Srl) = h.1.1.1.1.1.1.1.1.1.1.1.1.1.1.1.1.1.1.1.1.1.1.1.1.1.1.1.1.1.1.1.1.1.0
each_part text place h (Mnemonics.Op RegOps.Sra) = h.1.1.1.1.1.1.1.1.1.1.1.1.1.1.1.1.1.1.1.1.1.1.1.1.1.1.1.1.1.1.1.1.1.1.0
each_part text place h (Mnemonics.Op RegOps.Or) = h.1.1.1.1.1.1.1.1.1.1.1.1.1.1.1.1.1.1.1.1.1.1.1.1.1.1.1.1.1.1.1.1.1.1.1.0
each_part text place h (Mnemonics.Op RegOps.And) = h.1.1.1.1.1.1.1.1.1.1.1.1.1.1.1.1.1.1.1.1.1.1.1.1.1.1.1.1.1.1.1.1.1.1.1.1.0
each_part text place h (Mnemonics.Op RegOps.Mul) = h.1.1.1.1.1.1.1.1.1.1.1.1.1.1.1.1.1.1.1.1.1.1.1.1.1.1.1.1.1.1.1.1.1.1.1.1.1.0
each_part text place h (Mnemonics.Op RegOps.Mulh) = h.1.1.1.1.1.1.1.1.1.1.1.1.1.1.1.1.1.1.1.1.1.1.1.1.1.1.1.1.1.1.1.1.1.1.1.1.1.1.0
each_part text place h (Mnemonics.Op RegOps.Mulhsu) = h.1.1.1.1.1.1.1.1.1.1.1.1.1.1.1.1.1.1.1.1.1.1.1.1.1.1.1.1.1.1.1.1.1.1.1.1.1.1.1.0
each_part text place h (Mnemonics.Op RegOps.Mulhu) = h.1.1.1.1.1.1.1.1.1.1.1.1.1.1.1.1.1.1.1.1.1.1.1.1.1.1.1.1.1.1.1.1.1.1.1.1.1.1.1.1.0
each_part text place h (Mnemonics.Op RegOps.Div) = h.1.1.1.1.1.1.1.1.1.1.1.1.1.1.1.1.1.1.1.1.1.1.1.1.1.1.1.1.1.1.1.1.1.1.1.1.1.1.1.1.1.0
each_part text place h (Mnemonics.Op RegOps.Divu) = h.1.1.1.1.1.1.1.1.1.1.1.1.1.1.1.1.1.1.1.1.1.1.1.1.1.1.1.1.1.1.1.1.1.1.1.1.1.1.1.1.1.1.0
each_part text place h (Mnemonics.Op RegOps.Rem) = h.1.1.1.1.1.1.1.1.1.1.1.1.1.1.1.1.1.1.1.1.1.1.1.1.1.1.1.1.1.1.1.1.1.1.1.1.1.1.1.1.1.1.1.0
each_part text place h (Mnemonics.Op RegOps.Remu) = h.1.1.1.1.1.1.1.1.1.1.1.1.1.1.1.1.1.1.1.1.1.1.1.1.1.1.1.1.1.1.1.1.1.1.1.1.1.1.1.1.1.1.1.1.0
each_part text place h Mnemonics.Fence = h.1.1.1.1.1.1.1.1.1.1.1.1.1.1.1.1.1.1.1.1.1.1.1.1.1.1.1.1.1.1.1.1.1.1.1.1.1.1.1.1.1.1.1.1.1.0
each_part text place h Mnemonics.Ecall = h.1.1.1.1.1.1.1.1.1.1.1.1.1.1.1.1.1.1.1.1.1.1.1.1.1.1.1.1.1.1.1.1.1.1.1.1.1.1.1.1.1.1.1.1.1.1.0
each_part text place h Mnemonics.Ebreak = h.1.1.1.1.1.1.1.1.1.1.1.1.1.1.1.1.1.1.1.1.1.1.1.1.1.1.1.1.1.1.1.1.1.1.1.1.1.1.1.1.1.1.1.1.1.1.1.0
each_part text place h Mnemonics.Word = h.1.1.1.1.1.1.1.1.1.1.1.1.1.1.1.1.1.1.1.1.1.1.1.1.1.1.1.1.1.1.1.1.1.1.1.1.1.1.1.1.1.1.1.1.1.1.1.1.0

-- ---- a loop over mnemonics

pub parts_more : (text : List ℕ) (most shared : ℕ) (m : Mnemonic) → Differs (start_of m) (ended text) shared → (ms : List Mnemonic) → EachParts text most ms
    → EachParts text (max most shared) (ms ++ (m ∷ []))
parts_more text most shared m d [] h = (record { shared = shared; bound = omega arith; differs = d }, tt)
parts_more text most shared m d (x ∷ xs) h =
    (record { shared = h.0.shared; bound = (let old : h.0.shared ≤ most = h.0.bound in omega arith); differs = h.0.differs }, parts_more text most shared m d xs h.1)

pub longest_more : (text : List ℕ) (most shared : ℕ) (m : Mnemonic) → Differs (start_of m) (ended text) shared → (most ≡ 0) ⊎ Longest text most
    → (max most shared ≡ 0) ⊎ Longest text (max most shared)
longest_more text most shared m d h =
    elim (cases_lt most shared) [
      | inl above ↦ (let is : max most shared ≡ shared = omega arith in inr (record { mnemonic = m; differs = subst (λ (n : ℕ). Differs (start_of m) (ended text) n) (sym is) d }))
      | inr below ↦ (let is : max most shared ≡ most = omega arith in
          elim h [
            | inl none ↦ inl (is ∙ none)
            | inr l ↦ inr (record { mnemonic = l.mnemonic; differs = subst (λ (n : ℕ). Differs (start_of l.mnemonic) (ended text) n) (sym is) l.differs })
          ])
    ]

pub no_start : (text : List ℕ) (place : ℕ) → EachParts text place all_mnemonics → (place ≡ 0) ⊎ Longest text place → HasNoStart text place
no_start text place h (inr l) = record { each = each_part text place h; longest = l }
no_start text place h (inl none) =
    let p = each_part text place h Mnemonics.Jal in
    let bound : p.shared ≤ place = p.bound in
    let is : p.shared ≡ place = omega arith in
    record { each = each_part text place h; longest = record { mnemonic = Mnemonics.Jal; differs = subst (λ (n : ℕ). Differs (start_of Mnemonics.Jal) (ended text) n) is p.differs } }

pub start_result : (text : List ℕ) (r : Result Mnemonic ℕ)
    → MatchResult r (λ m. (ended text ≡ start_of m ++ rest text (length (start_of m))) × (length (start_of m) ≤ length text)) (λ place. EachParts text place all_mnemonics × ((place ≡ 0) ⊎ Longest text place))
    → MatchResult r (λ m. (ended text ≡ start_of m ++ rest text (length (start_of m))) × (length (start_of m) ≤ length text)) (λ place. HasNoStart text place)
start_result text (Ok m) h = h
start_result text (Err place) h = no_start text place h.0 h.1
