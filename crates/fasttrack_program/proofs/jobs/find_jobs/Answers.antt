use Rattle.std.proofs.Common.{◌≡◌, Some, Ok, refl, sym, ap, ◌∙◌, subst}
use Rattle.std.specs.Prelude.{IsTrue, map, string_bytes}
use Rattle.program_words.specs.CommandLine.{Request, asked}
use Rattle.program_words.specs.declared.request.Task.{Task}
use Rattle.program_words.specs.declared.request.Task.TheVariants.{Batch}
use Rattle.fasttrack_program.specs.declared.answer.Answer.TheVariants.{Shown}
use Rattle.fasttrack_program.specs.declared.jobs.FoundJobs.{FoundJobs}
use Rattle.fasttrack_program.specs.Plan.{input_in, takes_input, takes_more}
use Rattle.fasttrack_program.specs.Reading.{Holds, Known, known_of}
use Rattle.fasttrack_program.proofs.OnJobs.{finds-no_list, finds-no_input, finds-result, few-found, jobs-unread}
use Rattle.fasttrack_program.proofs.OnPlans.{input-takes}
use Rattle.fasttrack_program.proofs.OnReading.{late-Shown, reads_input-is, reads-task, reads-rest}
use Rattle.fasttrack_program.proofs.jobs.find_jobs.Goals as goal

pub returns-in-Err-clause-found : goal.returns-in-Err-clause-found
returns-in-Err-clause-found g c =
    let r : Request = asked c.args.request.now in
    let known : Known = known_of g.F.Files g.I.Source (Some r) c.args.files.now c.args.input.now in
    finds-no_list r known c.requires.task c.in-Err.answer c.in-Err.ensures.reads

pub returns-in-Err-read_input-clause-found : goal.returns-in-Err-read_input-clause-found
returns-in-Err-read_input-clause-found g c =
    let r : Request = asked c.args.request.now in
    let known : Known = known_of g.F.Files g.I.Source (Some r) c.args.files.now c.args.input.now in
    finds-no_input r known c.requires.task (map string_bytes c.in-Ok.names.items) c.in-Ok.ensures.reads c.in-Err-read_input.answer c.in-Err-read_input.ensures.reads

pub returns-clause-found : goal.returns-clause-found
returns-clause-found g c =
    let r : Request = asked c.args.request.now in
    let known : Known = known_of g.F.Files g.I.Source (Some r) c.args.files.now c.args.input.now in
    let jobs = rw c.as_slice.ensures.value at c.read_jobs.ensures.jobs in
    finds-result r known c.requires.task (map string_bytes c.in-Ok.names.items) c.in-Ok.ensures.reads c.settings_of_jobs.result (g.F.Files.contents c.read_names.new.files) c.settings_of_jobs.ensures c.read_names.ensures.held
    c.in-Ok-read_input.input c.in-Ok-read_input.ensures.reads c.read_jobs.result jobs

pub returns-clause-few : goal.returns-clause-few
returns-clause-few g c =
    let jobs = rw c.as_slice.ensures.value at c.read_jobs.ensures.jobs in
    few-found c.settings_of_jobs.result c.in-Ok-read_input.input (g.F.Files.contents c.read_names.new.files) (map string_bytes c.in-Ok.names.items) _ c.in-Ok.ensures.reads c.read_jobs.result jobs

pub returns-clause-reads : goal.returns-clause-reads
returns-clause-reads g c =
    let r : Request = asked c.args.request.now in
    let task : r.task ≡ Batch = c.requires.task in
    let wants : IsTrue (takes_input r.task) = subst (λ (t : Task). IsTrue (takes_input t)) (sym task) refl in
    let needs : IsTrue (takes_more r.task) = subst (λ (t : Task). IsTrue (takes_more t)) (sym task) refl in
    let file = input-takes r.task wants in
    let list = c.in-Ok.ensures.reads in
    let given = c.in-Ok-read_input.ensures.reads in
    let names = map string_bytes c.in-Ok.names.items in
    let jobs = rw c.as_slice.ensures.value at c.read_jobs.ensures.jobs in
    let before = reads-task g.F.Files g.I.Source r file c.args.files.now c.read_names.new.files wants (c.in-Ok.ensures.counted.calm (λ e. cc)) c.args.input.now c.read_input.new.input
    (Ok c.in-Ok-read_input.input) c.in-Ok-read_input.ensures.unread Shown (c.in-Ok-read_input.ensures.counted.calm (λ e. cc)) late-Shown in
    reads-rest g.F.Files g.I.Source r file c.args.files.now c.read_names.new.files c.read_jobs.new.files c.args.input.now c.read_input.new.input before
    needs list.0 list.1 (subst (λ (t : Task). Holds t list.0) (sym task) (names, list.2)) given.0 given.1 c.in-Ok-read_input.input (ap (λ b. input_in b given.0) (reads_input-is r wants) ∙ given.2)
    FoundJobs c.read_jobs.result (jobs-unread c.settings_of_jobs.result c.in-Ok-read_input.input (g.F.Files.contents c.read_names.new.files) names c.read_jobs.result jobs) c.read_jobs.ensures.counted
