use Rattle.guest_model.specs.Image.{start_of}
use Rattle.guest_model.specs.MachineState.{MachineState}
use Rattle.guest_model.specs.Rv32.{rv32}
use Rattle.elf32_loader.specs.LoadedImage.{image_of_loaded}
use Rattle.rv32_law.specs.GuestStates.{IsGuestState}
use Rattle.rv32_law.proofs.Differences.{exact-rv32}
use Rattle.rv32_law.proofs.Starts.{start-is-guest}
use Rattle.speculation_law.proofs.Histories.{law-partial, law-complete}
use Rattle.track_board.proofs.laws.law_of_histories.Goals as goal

pub returns-clause-partial : goal.returns-clause-partial
returns-clause-partial c =
    let l = c.args.loaded.now in
    let start : MachineState = start_of (image_of_loaded l) in
    let guest : IsGuestState c.args.input.now start = start-is-guest c.args.input.now l.entry l.areas l.heap l.layout in
    λ core h. law-partial (rv32 c.args.input.now) c.args.settings start c.args.entries.now core (exact-rv32 c.args.input.now start guest) h

pub returns-clause-complete : goal.returns-clause-complete
returns-clause-complete c =
    let l = c.args.loaded.now in
    let start : MachineState = start_of (image_of_loaded l) in
    let guest : IsGuestState c.args.input.now start = start-is-guest c.args.input.now l.entry l.areas l.heap l.layout in
    λ core f h finished. law-complete (rv32 c.args.input.now) c.args.settings start c.args.entries.now core f (exact-rv32 c.args.input.now start guest) h finished
