use Rattle.std.proofs.Common.{refl}
use Rattle.elf32_loader.specs.LoadedImage.{image_of_loaded}
use Rattle.job_listing.specs.declared.report.JobStart.TheVariants as Starts
use Rattle.fasttrack_program.specs.declared.answer.Answer.TheVariants as A
use Rattle.fasttrack_program.proofs.OnJobs.{adds-run, reads-refused}
use Rattle.fasttrack_program.proofs.jobs.read_job.Goals as goal

pub returns-in-Ok-clause-job : goal.returns-in-Ok-clause-job
returns-in-Ok-clause-job g c =
    let read = c.in-Ok.ensures.reads in
    adds-run c.args.settings c.args.input.now.value (g.F.Files.contents c.args.files.now c.args.name.now) read.0 read.1 c.args.jobs.now c.add_board.new.jobs (image_of_loaded c.in-Ok.loaded) _ read.2
    (record { settings_are = refl; image = refl; input_is = refl; fresh = refl }) c.add_board.result c.add_board.ensures.starts c.add_board.ensures.boards c.add_board.ensures.err

pub returns-in-Err-ImageTooLong-clause-job : goal.returns-in-Err-ImageTooLong-clause-job
returns-in-Err-ImageTooLong-clause-job g c =
    reads-refused c.args.settings c.args.input.now.value (g.F.Files.contents c.args.files.now c.args.name.now) c.args.jobs.now c.add_start.new.jobs A.ImageTooLong Starts.TooLong refl tt
    (rw c.in-Err-ImageTooLong.field-0-is at c.in-Err-ImageTooLong.ensures.reads) c.add_start.result c.add_start.ensures.starts c.add_start.ensures.boards c.add_start.ensures.err

pub returns-in-Err-BadImage-clause-job : goal.returns-in-Err-BadImage-clause-job
returns-in-Err-BadImage-clause-job g c =
    let start = c.add_start-in-Err-BadImage in
    reads-refused c.args.settings c.args.input.now.value (g.F.Files.contents c.args.files.now c.args.name.now) c.args.jobs.now start.new.jobs (A.BadImage c.in-Err-BadImage.fault) (Starts.BadImage c.in-Err-BadImage.fault) refl
    tt (rw c.in-Err-BadImage.field-0-is at c.in-Err-BadImage.ensures.reads) start.result (rw c.in-Err-BadImage.fault-is at start.ensures.starts) start.ensures.boards start.ensures.err
