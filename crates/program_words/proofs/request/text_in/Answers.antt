use Rattle.std.proofs.Common.{◌∙◌, ap, sym}
use Rattle.std.specs.Prelude.{option_map}
use Rattle.clap.specs.Words.{found_of}
use Rattle.program_words.proofs.ByCommand.{text_reads}
use Rattle.program_words.proofs.request.text_in.Goals as goal

pub returns : goal.returns
returns c = text_reads (found_of c.args.matches.now) c.args.id.now c.in-Some.text (ap (option_map (λ s. s.now)) (sym c.in-Some.is) ∙ c.get_str.ensures)
