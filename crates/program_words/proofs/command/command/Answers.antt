use Rattle.std.proofs.Common.{◌≡◌, codes, rules}
use Rattle.clap.specs.Words.{app_of, new_app}
use Rattle.program_words.specs.CommandLine.{nameless}
use Rattle.program_words.proofs.OnArgs.{added, of_value}
use Rattle.program_words.proofs.command.command.Goals as goal

pub returns : goal.returns
returns c =
    let names = c.command_arg.ensures.rule in
    let start : app_of c.no_binary_name.result ≡ nameless (new_app (codes "fasttrack")) = search rules in
    let command = added _ _ _ _ _ c.in_ok-arg.ensures c.command_arg.ensures.local names.2 start in
    let image = added _ _ _ _ _ c.in_ok-arg-2.ensures c.image_arg.ensures.local c.image_arg.ensures.rule command in
    let tracks = added _ _ _ _ _ c.in_ok-arg-3.ensures c.tracks_arg.ensures.local c.tracks_arg.ensures.rule image in
    let workers = added _ _ _ _ _ c.in_ok-arg-4.ensures c.workers_arg.ensures.local c.workers_arg.ensures.rule tracks in
    let budget = added _ _ _ _ _ c.in_ok-arg-5.ensures c.budget_arg.ensures.local c.budget_arg.ensures.rule workers in
    let file = added _ _ _ _ _ c.in_ok-arg-6.ensures c.file_arg.ensures.local c.file_arg.ensures.rule budget in
    let no_input = added _ _ _ _ _ c.in_ok-arg-7.ensures c.flag_arg.ensures.local c.flag_arg.ensures.rule file in
    let report = added _ _ _ _ _ c.in_ok-arg-8.ensures c.flag_arg-2.ensures.local c.flag_arg-2.ensures.rule no_input in
    of_value _ _ c.arg-9.result c.arg-9.ensures (λ new adds. (
      names.0,
      names.1,
      added _ _ _ _ _ adds c.flag_arg-3.ensures.local c.flag_arg-3.ensures.rule report,
    ))
