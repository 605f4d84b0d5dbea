use Rattle.std.proofs.Common.{◌∙◌, sym, ap}
use Rattle.std.specs.Prelude.{unwrap_or}
use Rattle.std.specs.Str.Parse.{ParsesUnsigned, ExplainsUnsignedError, HasUnsignedDigitsIfOk}
use Rattle.clap.specs.Words.{found_of}
use Rattle.program_words.specs.CommandLine.{number_of}
use Rattle.program_words.proofs.ByCommand.{number_reads, value_is}
use Rattle.program_words.proofs.request.number_in.Goals as goal

pub returns : goal.returns
returns c =
    let given = c.requires in
    let read = number_reads _ (λ bs r. ParsesUnsigned 64 10 bs r × ExplainsUnsignedError 10 bs r × HasUnsignedDigitsIfOk bs r) given.0 c.get_one.result
    (c.get_one.ensures.value given.0 given.2) (λ u x g. g.0) (given.3, given.4) in
    ap (λ o. unwrap_or o 0) (sym c.in-Some.is ∙ read) ∙ ap number_of (sym (value_is (found_of c.args.matches.now) c.args.id.now given.0 given.1))
