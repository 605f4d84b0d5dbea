use Rattle.std.proofs.Common.{Some}
use Rattle.std.specs.Prelude.{IsTrue}
use Rattle.program_words.specs.CommandLine.{Request, asked}
use Rattle.fasttrack_program.specs.Plan.{runs_file}
use Rattle.fasttrack_program.specs.Reading.{Known, known_of}
use Rattle.fasttrack_program.proofs.OnPlans.{no_bench, file-takes, finds-guest, finds-bench}
use Rattle.fasttrack_program.proofs.guest.find_guest.Goals as goal

pub returns-in-Ok-clause-found : goal.returns-in-Ok-clause-found
returns-in-Ok-clause-found g c =
    let r : Request = asked c.args.request.now in
    let known : Known = known_of g.F.Files g.I.Source (Some r) c.args.files.now c.args.input.now in
    rw c.new.ensures (finds-bench r known c.in-Bench.number c.in-Ok.loaded c.in-Bench.is c.in-Ok.ensures)

pub read_program-requires : goal.read_program-requires
read_program-requires g c =
    let r : Request = asked c.args.request.now in
    file-takes r.task (no_bench r.task c.in_default.not-Bench c.requires)

pub returns-clause-found : goal.returns-clause-found
returns-clause-found g c =
    let r : Request = asked c.args.request.now in
    let known : Known = known_of g.F.Files g.I.Source (Some r) c.args.files.now c.args.input.now in
    let runs : IsTrue (runs_file r.task) = no_bench r.task c.in_default.not-Bench c.requires in
    finds-guest r known runs c.read_program.result c.read_program.ensures.found
