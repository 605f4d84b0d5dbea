use Rattle.std.proofs.Common.{refl, None}
use Rattle.byte_runs.proofs.OnCollected.{collected_none}
use Rattle.byte_runs.proofs.collector.Collector.new.Goals as goal

pub returns-clause-none : goal.returns-clause-none
returns-clause-none c = λ m n. collected_none m n record { alloc = c.args.alloc; most = c.args.most; runs = c.new.result; more = 0; end = None } c.new.ensures.items refl refl
