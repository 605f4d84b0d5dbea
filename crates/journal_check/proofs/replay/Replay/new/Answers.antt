use Rattle.journal_check.proofs.Loans.{fresh-following}
use Rattle.journal_check.proofs.replay.Replay.new.Goals as goal

pub returns-clause-on : goal.returns-clause-on
returns-clause-on c = record {
  known = c.requires.known;
  out = (fresh-following c.args.board c.new.result.items c.requires c.new.ensures.items).0;
  released = (fresh-following c.args.board c.new.result.items c.requires c.new.ensures.items).1;
}
