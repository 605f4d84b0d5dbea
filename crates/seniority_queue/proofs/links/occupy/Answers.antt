use Rattle.std.proofs.Common.{refl, arith}
use Rattle.std.proofs.lemmas.Option.{slice_get_read}
use Rattle.seniority_queue.proofs.Nodes.{Writes-set}
use Rattle.seniority_queue.proofs.links.occupy.Goals as goal

pub returns-clause-nodes : goal.returns-clause-nodes
returns-clause-nodes g c =
    let inside = c.requires.inside c.unwrap-index.result c.unwrap-index.ensures in
    Writes-set _ _ _ (omega (arith, inside, c.args.nodes.now.ok.0))

pub returns-clause-free : goal.returns-clause-free
returns-clause-free g c =
    let inside = c.requires.inside c.unwrap-index.result c.unwrap-index.ensures in
    rw (slice_get_read _ _ _ _ c.args.nodes.now.ok.0 inside c.index.ensures) refl
