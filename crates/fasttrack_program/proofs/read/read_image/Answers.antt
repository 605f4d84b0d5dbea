use Rattle.fasttrack_program.proofs.OnReading.{long_file}
use Rattle.fasttrack_program.proofs.read.read_image.Goals as goal

pub returns-in-TooLong-clause-reads : goal.returns-in-TooLong-clause-reads
returns-in-TooLong-clause-reads g c = long_file (g.F.Files.contents c.args.files.now c.args.name.now) c.in-TooLong.ensures.takes
