use Rattle.std.proofs.Common.{sym, subst, Vec, Global}
use Rattle.std.specs.Prelude.{All}
use Rattle.std.proofs.lemmas.List.Elements.{All-nil}
use Rattle.job_batch.specs.declared.shares.Share.{Share}
use Rattle.job_batch.specs.Parts.{IsShare}
use Rattle.job_batch.proofs.Lists.{All-pushed}
use Rattle.job_batch.proofs.shares.crew_of.Goals as goal

pub loop-preserved : goal.loop-preserved
loop-preserved c locks =
    All-pushed (λ (hand : Vec Share Global). All (IsShare locks) hand.items) c.loop.crew.items c.push.new.self.items c.new.result _ c.push.ensures.items (c.loop.invariant locks)
    (subst (All (IsShare locks)) (sym c.new.ensures.items) (All-nil (IsShare locks)))

pub returns-then-is_err : goal.returns-then-is_err
returns-then-is_err c locks =
    All-pushed (λ (hand : Vec Share Global). All (IsShare locks) hand.items) c.loop.crew.items c.push.new.self.items c.new.result _ c.push.ensures.items (c.loop.invariant locks)
    (subst (All (IsShare locks)) (sym c.new.ensures.items) (All-nil (IsShare locks)))
