use Rattle.fasttrack_program.proofs.OnBenches.{bench-loads}
use Rattle.fasttrack_program.proofs.laws.bench_images_load.Goals as goal

pub returns : goal.returns
returns c = bench-loads
