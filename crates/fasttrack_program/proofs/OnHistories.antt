-- Every guest has a history, by any number of workers
use Rattle.std.proofs.Common.{◌≤◌, true, List}
use Rattle.speculation.specs.declared.history.Entry.{Entry}
use Rattle.guest_model.specs.Image.{start_of}
use Rattle.guest_model.specs.Rv32.{rv32}
use Rattle.rv32_law.specs.GuestStates.{IsGuestState}
use Rattle.rv32_law.proofs.Differences.{exact-rv32}
use Rattle.worker_gate.proofs.OnHistories.{run-history-exists}
use Rattle.fasttrack_program.specs.Promise.{Given, settings_of, IsHistory}

pub history_of_run : (g : Given) → IsGuestState g.input (start_of g.image) → 1 ≤ g.options.tracks → (entries : List Entry) × IsHistory true g entries
history_of_run g guest some =
    run-history-exists (rv32 g.input) (settings_of g.options) (start_of g.image) (exact-rv32 g.input (start_of g.image) guest) some g.options.workers
