use Rattle.std.proofs.lemmas.Result.{err_from_is_err_and}
use Rattle.elf32_loader.specs.FaultOf.{fault_of}
use Rattle.elf32_loader.proofs.OnImage.{refused-header}
use Rattle.elf32_loader.proofs.image.load.Goals as goal

pub returns-in_err-check_header : goal.returns-in_err-check_header
returns-in_err-check_header c =
    let p = err_from_is_err_and c.from_residual.result c.from_residual.ensures.1 in
    let f = c.in_err-check_header.ensures.fault in
    rw (p.1, p.2) (refused-header c.args.bytes.now (fault_of c.in_err-check_header.field-0.0) f.0 f.1)
