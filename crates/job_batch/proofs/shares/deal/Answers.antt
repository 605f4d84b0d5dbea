use Rattle.std.proofs.Common.{◌<◌, length, subst, Vec, Global, arith}
use Rattle.std.specs.Prelude.{All, IfSome}
use Rattle.std.proofs.lemmas.List.Elements.{All-set, All-pop}
use Rattle.job_batch.specs.declared.shares.Share.{Share}
use Rattle.job_batch.specs.Parts.{IsPassAt, IsShare}
use Rattle.job_batch.proofs.shares.deal.Goals as goal

pub loop-k-preserved : goal.loop-k-preserved
loop-k-preserved c locks passes crew =
    let h = c.loop-k.invariant locks passes crew in
    let left = All-pop (IsPassAt locks c.args.job) c.loop-k.passes.items c.pop.new.self.items c.pop.result c.pop.ensures.items h.0 in
    let given : IsPassAt locks c.args.job c.in-Some.pass = subst (λ o. IfSome o (IsPassAt locks c.args.job)) c.in-Some.is left.1 in
    let within : c.loop-k.k < length c.loop-k.crew = omega arith in
    (left.0, All-set (λ (hand : Vec Share Global). All (IsShare locks) hand.items) c.loop-k.crew c.loop-k.k c.take_on.new.hand (c.take_on.ensures locks given (h.1 c.loop-k.k c.index-crew-k.result within)) h.1)
