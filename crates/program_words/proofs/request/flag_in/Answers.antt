use Rattle.clap.specs.Words.{found_of}
use Rattle.program_words.proofs.ByCommand.{flag_reads}
use Rattle.program_words.proofs.request.flag_in.Goals as goal

pub returns : goal.returns
returns c = flag_reads (found_of c.args.matches.now) c.args.id.now c.get_flag.result c.requires c.get_flag.ensures.none c.get_flag.ensures.value c.get_flag.ensures.other
