-- Plain runs, instruction by instruction.
use Rattle.std.proofs.Common.{◌≡◌, ℕ, zero, suc, ◌+◌, ◌-◌, ◌<◌, false, List, Some, refl, sym, ap, ◌∙◌, add-one, add-zero, arith}
use Rattle.speculation.specs.Machine.{Next, Ends}
use Rattle.speculation.specs.Run.{Point, fresh, go}
use Rattle.speculation.proofs.Runs.{go-stays, go-next, go-ends}
use Rattle.guest_model.specs.MachineState.{MachineState}
use Rattle.guest_model.specs.Rv32.{rv32}
use Rattle.guest_model.specs.Step.{step}
use Rattle.guest_model.specs.declared.end.End.{End}
use Rattle.track_state.specs.Quiet.{QuietSteps}

module _ (input : List ℕ) (s : MachineState) where
  pub go-none : go (rv32 input) (fresh s) 0 ≡ fresh s
  unfolding go
  go-none = refl

  -- one instruction more
  pub go-more : (n : ℕ) (t u : MachineState) (stream : ℕ) (bytes : List ℕ) → go (rv32 input) (fresh s) n ≡ fresh t → step false input t ≡ Next u stream bytes → go (rv32 input) (fresh s) (n + 1) ≡ fresh u
  go-more n t u stream bytes here goes = rw add-one (go-next (rv32 input) (fresh s) n t u stream bytes here goes)

  -- m quiet instructions more
  pub go-quiets : (n m : ℕ) (t u : MachineState) → go (rv32 input) (fresh s) n ≡ fresh t → QuietSteps input t m u → go (rv32 input) (fresh s) (n + m) ≡ fresh u
  go-quiets n zero t u here e = ap (go (rv32 input) (fresh s)) (add-zero n) ∙ here ∙ ap (λ (v : MachineState). fresh v) (sym e)
  go-quiets n (suc m) t u here (v, before, last) =
      let whole : n + suc m ≡ n + m + 1 = omega arith in
      ap (go (rv32 input) (fresh s)) whole ∙ go-more (n + m) v u 1 _ (go-quiets n m t v here before) last.goes

  pub go-spent : (n count : ℕ) (t : MachineState) → go (rv32 input) (fresh s) n ≡ fresh t → n ≡ count → go (rv32 input) (fresh s) count ≡ fresh t
  go-spent n count t here same = ap (go (rv32 input) (fresh s)) (sym same) ∙ here

  -- Nothing follows the instruction that ends the program, which began in state u and left it as it was.
  pub go-met : (n count : ℕ) (u t : MachineState) (e : End) → go (rv32 input) (fresh s) n ≡ fresh u → step false input u ≡ Ends e → t ≡ u → n < count → go (rv32 input) (fresh s) count ≡ record { state = t; end = Some e }
  go-met n count u t e here ends same less =
      let rest = count - suc n in
      let whole : count ≡ suc n + rest = omega arith in
      let last : go (rv32 input) (fresh s) (suc n) ≡ record { state = u; end = Some e } = go-ends (rv32 input) (fresh s) n u e here ends in
      ap (go (rv32 input) (fresh s)) whole ∙ go-stays (rv32 input) (fresh s) (suc n) rest e (ap (λ (q : Point MachineState End). q.end) last) ∙ last ∙ ap (λ (v : MachineState). record { state = v; end = Some e }) (sym same)
