use Rattle.std.proofs.Common.{◌≡◌, ℕ, string_bytes, ap, ◌∙◌}
use Rattle.guest_model.specs.MachineState.{MachineState, flat}
use Rattle.report_text.specs.Reports.{end_line}
use Rattle.report_text.specs.States.{place_line, registers_line, asked_bytes}
use Rattle.report_text.proofs.OnStates.{text-parts}
use Rattle.report_text.proofs.state.state_text.Goals as goal

pub returns : goal.returns
returns g c =
    let s : MachineState = flat g.M.Memory.bytes c.args.state.now in
    let written : string_bytes c.in_ok-text.text ≡ place_line c.args.count (record s { regs = record s.regs { pc = c.pc.result } }) c.args.taken = c.in_ok-text.ensures.ok in
    text-parts (place_line c.args.count s c.args.taken) (registers_line s.regs) (end_line c.args.end.now) (asked_bytes s.memory c.args.bytes) (string_bytes c.in_ok-text.text) (string_bytes c.write_registers.new.text) (string_bytes c.write.new.self) (string_bytes c.write_asked.new.text)
    (written ∙ ap (λ (pc : ℕ). place_line c.args.count (record s { regs = record s.regs { pc = pc } }) c.args.taken) c.pc.ensures.value)
    c.in_ok-write_registers.ensures c.in_ok-write.ensures.bytes c.in_ok-write_asked.ensures
