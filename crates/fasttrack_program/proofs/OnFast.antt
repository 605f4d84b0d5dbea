-- A run by fast versions alone, one instruction after another
use Rattle.std.proofs.Common.{◌≡◌, Bool, ℕ, List, not, sym, ap, ◌∙◌}
use Rattle.speculation.specs.Machine.{Stepped}
use Rattle.guest_model.specs.MachineState.{MachineState}
use Rattle.guest_model.specs.Step.{step}
use Rattle.guest_model.specs.declared.end.End.{End}
use Rattle.fasttrack_program.specs.FastProgram.{Place, inside_after, placed, fast_step}

abbrev pub place_at : Bool → MachineState → Place
place_at inside s = record { state = s; inside = inside }

-- what the step of the guest tells of the step of such a run
pub fast-by : (input : List ℕ) (inside next : Bool) (s : MachineState) (x : Stepped MachineState End) → next ≡ inside_after inside s → step (not inside) input s ≡ x → fast_step input (place_at inside s) ≡ placed next x
fast-by input inside next s x is h = ap (λ b. placed b (step (not inside) input s)) (sym is) ∙ ap (placed next) h
