use Rattle.speculation.proofs.Outputs.{IsPrefixOf-stream}
use Rattle.speculation.proofs.laws.streams_keep_prefixes.Goals as goal

pub returns : goal.returns
returns c = λ stream xs ys h. IsPrefixOf-stream stream xs ys h
