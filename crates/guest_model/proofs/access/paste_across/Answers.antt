use Rattle.std.proofs.Common.{◌≡◌, ℕ, ◌+◌, ◌-◌, ◌<◌, List, [], ◌∷◌, length, take, drop, get_or, sym, subst, arith}
use Rattle.std.proofs.lemmas.Grind.{common_steps}
use Rattle.guest_model.specs.AreaMap.{areas_bytes}
use Rattle.guest_model.specs.Place.{Pastes}
use Rattle.guest_model.proofs.OnByteMap.{write-nothing}
use Rattle.guest_model.proofs.OnPlaces.{paste-more}
use Rattle.guest_model.proofs.access.paste_across.Goals as goal

one_at : (xs : List ℕ) (k : ℕ) → k < length xs → take (k + 1 - k) (drop k xs) ≡ get_or xs k 0 ∷ []
one_at xs k l = grind (arith, common_steps)

pub loop-k-init : goal.loop-k-init
loop-k-init c = record { layout = c.requires.layout; so_far = sym (write-nothing (areas_bytes c.args.areas.now) c.args.a) }

pub loop-k-preserved : goal.loop-k-preserved
loop-k-preserved c = record {
  layout = c.paste.ensures.layout;
  so_far = paste-more c.args.areas.now c.loop-k.areas c.paste.new.areas c.args.a c.loop-k.k c.args.from.now c.paste.result
      (sym c.if-not-mapped_across.ensures.value) c.loop-k.invariant.so_far c.loop-k-test.true
      (subst (λ bs. Pastes c.loop-k.areas c.paste.new.areas (c.args.a + c.loop-k.k) bs c.paste.result) (one_at c.args.from.now c.loop-k.k c.loop-k-test.true) c.paste.ensures.pastes);
}
