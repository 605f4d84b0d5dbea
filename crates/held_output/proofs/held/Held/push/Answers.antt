use Rattle.std.proofs.Common.{◌<◌, List, length, ap, ◌∙◌, sym, subst, arith}
use Rattle.std.specs.Prelude.{All}
use Rattle.guest_model.proofs.OnByteMap.{length-bytes_from}
use Rattle.speculation.specs.Run.{Piece}
use Rattle.speculation.specs.Core.{held_size}
use Rattle.held_output.proofs.OnHeld.{Counted-push}
use Rattle.held_output.proofs.held.Held.push.Goals as goal

pub invariant_of-self-2 : goal.invariant_of-self-2
invariant_of-self-2 g c =
    let bytes = ap length c.in_ok-bytes.ensures ∙ length-bytes_from (g.M.Memory.bytes c.args.memory.now) c.args.at c.args.count in
    let old = sym c.self.view_is in
    Counted-push _ _ _ _ _ c.self.invariant bytes c.in_ok-push.ensures.items
    (subst (λ (ps : List Piece). All (λ p. p.number < c.args.number) ps) old c.requires.above) c.requires.stream (omega (arith, c.requires.room, ap held_size old))

pub returns-clause-sound : goal.returns-clause-sound
returns-clause-sound g c = (invariant_of-self-2 g c).0
