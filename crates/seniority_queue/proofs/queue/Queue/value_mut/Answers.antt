use Rattle.std.proofs.Common.{refl, ◌∙◌, arith}
use Rattle.std.proofs.lemmas.Option.{slice_get_read}
use Rattle.seniority_queue.proofs.Lent.{key_inside, key_node, key_value, rewrite-leaves}
use Rattle.seniority_queue.proofs.queue.Queue.value_mut.Goals as goal

pub index_mut-requires : goal.index_mut-requires
index_mut-requires g c = omega (arith, key_inside c.self.invariant c.self.view_is c.args.key c.requires, c.self.inside.nodes.ok.0)

pub value_mut-requires : goal.value_mut-requires
value_mut-requires g c =
    let s = c.self.invariant in
    let at = slice_get_read _ _ _ _ refl (key_inside s c.self.view_is c.args.key c.requires) c.index_mut.ensures.value in
    (key_node s c.self.view_is c.args.key c.requires _ at).1

pub invariant_of-self-lent : goal.invariant_of-self-lent
invariant_of-self-lent g c w =
    let s = c.self.invariant in
    let at = slice_get_read _ _ _ _ refl (key_inside s c.self.view_is c.args.key c.requires) c.index_mut.ensures.value in
    (rewrite-leaves s c.self.view_is c.args.key c.requires _ w at).stands

pub returns : goal.returns
returns g c =
    let s = c.self.invariant in
    let at = slice_get_read _ _ _ _ refl (key_inside s c.self.view_is c.args.key c.requires) c.index_mut.ensures.value in (
      (refl, λ w. (rewrite-leaves s c.self.view_is c.args.key c.requires _ w at).listing_is),
      record { writes_back = tt; value = key_value s c.self.view_is c.args.key c.requires _ at ∙ c.value_mut.ensures.value },
    )
