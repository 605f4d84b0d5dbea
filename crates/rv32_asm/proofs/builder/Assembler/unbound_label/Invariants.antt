use Rattle.std.proofs.Common.{◌≡◌, take}
use Rattle.rv32_asm.specs.Resolved.{unbound_label}
use Rattle.rv32_asm.proofs.builder.Assembler.unbound_label.Given as goal

abbrev pub invariant-loop-item : goal.invariant-loop-item
invariant-loop-item l = l.least ≡ unbound_label (record { items = take l.item-index l.self.items; labels = l.self.labels; placed = l.self.placed })
