use Rattle.std.proofs.Common.{◌≡◌, ℕ, ◌+◌, ◌⊎◌, max, List, [], ◌∷◌, ◌++◌, take, get_or, sym, subst, arith}
use Rattle.std.proofs.lemmas.List.{take_more}
use Rattle.guest_model.specs.declared.instr.UpperOp.TheVariants.{Lui}
use Rattle.rv32_text.specs.declared.mnemonic.Mnemonic.{Mnemonic}
use Rattle.rv32_text.specs.declared.mnemonic.Mnemonic.TheVariants as Mnemonics
use Rattle.rv32_text.specs.Languages.{ended, Differs}
use Rattle.rv32_text.specs.Mnemonics.{EachParts, Longest}
use Rattle.rv32_text.specs.Starts.{start_of}
use Rattle.rv32_text.proofs.MnemonicTable.{parts_more, longest_more}
use Rattle.rv32_text.proofs.start.find_start.Goals as goal

pub loop-mnemonic-preserved : goal.loop-mnemonic-preserved
loop-mnemonic-preserved c =
    let most : c.max-most.result ≡ max c.loop-mnemonic.most c.in-Err.shared = grind (arith, c.max-most.ensures) in
    let differs : Differs (start_of (get_or c.args.mnemonics.now c.loop-mnemonic.mnemonic-index (Mnemonics.Upper Lui))) (ended c.args.text.now) c.in-Err.shared =
    subst (λ (x : List ℕ). Differs x (ended c.args.text.now) c.in-Err.shared) c.start.ensures c.in-Err.ensures.begins in
    let more : take (c.loop-mnemonic.mnemonic-index + 1) c.args.mnemonics.now ≡ take c.loop-mnemonic.mnemonic-index c.args.mnemonics.now ++ (get_or c.args.mnemonics.now c.loop-mnemonic.mnemonic-index (Mnemonics.Upper Lui) ∷ []) =
    take_more c.args.mnemonics.now c.loop-mnemonic.mnemonic-index (Mnemonics.Upper Lui) c.loop-mnemonic-test.true in (
      subst (λ (n : ℕ). EachParts c.args.text.now n (take (c.loop-mnemonic.mnemonic-index + 1) c.args.mnemonics.now)) (sym most)
          (subst (λ (ms : List Mnemonic). EachParts c.args.text.now (max c.loop-mnemonic.most c.in-Err.shared) ms) (sym more)
          (parts_more c.args.text.now c.loop-mnemonic.most c.in-Err.shared (get_or c.args.mnemonics.now c.loop-mnemonic.mnemonic-index (Mnemonics.Upper Lui)) differs (take c.loop-mnemonic.mnemonic-index c.args.mnemonics.now) c.loop-mnemonic.invariant.0)),
      subst (λ (n : ℕ). (n ≡ 0) ⊎ Longest c.args.text.now n) (sym most)
          (longest_more c.args.text.now c.loop-mnemonic.most c.in-Err.shared (get_or c.args.mnemonics.now c.loop-mnemonic.mnemonic-index (Mnemonics.Upper Lui)) differs c.loop-mnemonic.invariant.1),
    )
