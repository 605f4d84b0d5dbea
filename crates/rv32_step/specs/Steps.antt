-- What a step in place answers and leaves, against the outcome that its definition wants
use Rattle.std.specs.Prelude.{◌≡◌, ◌≢◌, ◌<◌, Bool, [], IsTrue, ◌⊎◌}
use Rattle.speculation.specs.Machine.{Next as GoesOn, Ends as Stops}
use Rattle.guest_model.specs.ByteMap.{mapped, bytes_from}
use Rattle.guest_model.specs.MachineState.{MachineState}
use Rattle.guest_model.specs.Service.{Outcome}
use Rattle.guest_model.specs.declared.end.End.TheVariants.{Spent}
use Rattle.rv32_step.specs.declared.stepped.Stepped.{Stepped}
use Rattle.rv32_step.specs.declared.stepped.Stepped.TheVariants.{Next, Wrote, Ends, NoMemory}

abbrev pub Steps : Bool → Outcome → MachineState → MachineState → Stepped → Type 0
Steps refuses want old new Next = want ≡ GoesOn new 1 []
Steps refuses want old new (Wrote stream at count) =
    (0 < count) × ((stream ≡ 1) ⊎ (stream ≡ 2)) × IsTrue (mapped new.memory at count)
    × (want ≡ GoesOn new stream (bytes_from new.memory at count))
Steps refuses want old new (Ends end) = (end ≢ Spent) × (want ≡ Stops end) × (new ≡ old)
Steps refuses want old new NoMemory = IsTrue refuses × (new ≡ old)
