use Rattle.fasttrack_program.proofs.OnReading.{long_bytes}
use Rattle.fasttrack_program.proofs.read.read_file.Goals as goal

pub returns-in-TooLong-clause-reads : goal.returns-in-TooLong-clause-reads
returns-in-TooLong-clause-reads g c = long_bytes c.args.limit c.args.too_long (g.F.Files.contents c.args.files.now c.args.name.now) c.in-TooLong.ensures.takes
