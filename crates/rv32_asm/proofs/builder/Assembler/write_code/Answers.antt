use Rattle.std.proofs.Common.{◌≡◌, length, ap, arith}
use Rattle.rv32_asm.specs.Assembly.{Assembly}
use Rattle.rv32_asm.proofs.Programs.{none_written, more_written, far_found, code_written}
use Rattle.rv32_asm.proofs.builder.Assembler.write_code.Goals as goal

pub loop-index-init : goal.loop-index-init
loop-index-init c = none_written c.args.self.now c.args.bytes.now.items

pub returns-in_default : goal.returns-in_default
returns-in_default c =
    let count : length c.self.inside.items.items ≡ length c.args.self.now.items = ap (λ (a : Assembly). length a.items) c.self.view_is in
    record {
      answer = far_found c.args.self.now c.loop-index.index c.code_address.result _ _ c.loop-index.invariant c.in_default.ensures.far
          (omega (arith, c.self.inside.items.ok)) c.code_address.ensures;
      read = tt;
    }

pub returns : goal.returns
returns c =
    let count : length c.self.inside.items.items ≡ length c.args.self.now.items = ap (λ (a : Assembly). length a.items) c.self.view_is in
    let all = code_written c.args.self.now c.loop-index.index _ _ c.loop-index.invariant (omega (arith, c.self.inside.items.ok)) in
    record { answer = all.0; read = all.1 }

pub loop-index-preserved : goal.loop-index-preserved
loop-index-preserved c =
    more_written c.args.self.now c.loop-index.index c.in-Some.instr c.encode.result _ _ _ _ c.loop-index.invariant
    c.in-Some.ensures.found c.encode.ensures.value (omega arith) c.encode.ensures.reads_back c.to_le_bytes.ensures c.in_ok-extend_from_slice.ensures.items
