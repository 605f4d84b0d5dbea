use Rattle.std.proofs.Common.{◌∙◌}
use Rattle.rv32_asm.proofs.Regions.{generated_is, generated_loads}
use Rattle.rv32_asm.proofs.benchmark.generate.Goals as goal

pub returns : goal.returns
returns c =
    let words = c.deref.ensures.value ∙ c.in_ok-body.ensures.value in
    record {
      value = generated_is c.args.number c.args.regions c.deref.result.now c.image_around.result words c.image_around.ensures.value;
      loads = generated_loads c.args.number c.args.regions c.deref.result.now c.image_around.result words c.image_around.ensures.loads;
    }
