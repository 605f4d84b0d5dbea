use Rattle.std.proofs.Common.{◌≡◌, ℕ, ◌+◌, ◌<◌, [], ◌∷◌, ◌++◌, length, take, get_or, sym, ◌∙◌, ap, subst, arith, Vec, Global}
use Rattle.std.specs.Prelude.{AllPairs}
use Rattle.std.proofs.lemmas.List.{take_more, take_all, get_or_read}
use Rattle.guest_model.specs.ByteMap.{ByteMap, write}
use Rattle.guest_model.specs.AreaMap.{areas_bytes, IsBelow}
use Rattle.guest_model.specs.declared.areas.Area.{Area}
use Rattle.paged_image.specs.Pages.{Finds, paged, bytes_at}
use Rattle.paged_image.specs.Builder.{built}
use Rattle.paged_image.specs.Image.{content, written_of, owned_of}
use Rattle.paged_image.proofs.OnBuilder.{paged-nil, area_push, rising-take}
use Rattle.paged_image.proofs.OnFaces.{finds-faces, paged-faces, own_written-none, own_count-none}
use Rattle.paged_image.proofs.image.PagedImage.from_areas.Goals as goal

pub loop-area-init : goal.loop-area-init
unfolding built
loop-area-init c =
    let b = c.in_ok-builder.builder in (
      paged-nil b.index.items b.entries.items c.in_ok-builder.ensures.0,
      λ k d l r. omega (arith, ap length c.in_ok-builder.ensures.0),
    )

pub loop-area-preserved : goal.loop-area-preserved
loop-area-preserved c =
    let areas = c.args.areas.now in
    let i = c.loop-area.area-index in
    let x = c.area-item.result in
    let within : i < length areas = omega arith in
    let more : take (i + 1) areas ≡ take i areas ++ x ∷ [] = take_more areas i x within ∙ ap (λ (y : Area). take i areas ++ y ∷ []) (sym c.area-item.is) in
    let rising : AllPairs IsBelow (take i areas ++ x ∷ []) = subst (AllPairs IsBelow) more (rising-take areas (i + 1) c.requires.rising (omega arith)) in (
      c.in_ok-push_area.ensures.pages ∙ ap (λ (m : ByteMap). write m x.base x.bytes) c.loop-area.invariant.0 ∙ sym (area_push (take i areas) x rising) ∙ ap areas_bytes (sym more),
      λ k d l r.
          let below : IsBelow (get_or areas i d) (get_or areas k d) = c.requires.rising i k d (omega arith) r in
          let is : x ≡ get_or areas i d = get_or_read areas i x within c.area-item.is d in
          omega (arith, c.in_ok-push_area.ensures.few, below, ap (λ (y : Area). y.base + length y.bytes) is),
    )

pub invariant_of-result : goal.invariant_of-result
invariant_of-result c =
    let b = c.loop-area.builder in
    let entries = c.share_all.new.entries.items in
    let index = c.in_ok-new.ensures.ok in
    record {
      table = omega (arith, ap (λ (v : Vec ℕ Global). length v.items) index, b.table);
      finds = subst (λ (v : Vec ℕ Global). Finds v.items entries) (sym index) (finds-faces b.index.items b.entries.items entries c.share_all.ensures.faces b.finds);
      own_written = own_written-none entries _ c.in_ok-_others.ensures.shared;
    }

pub returns : goal.returns
unfolding content written_of owned_of built
returns c =
    let areas = c.args.areas.now in
    let b = c.loop-area.builder in
    let entries = c.share_all.new.entries.items in (
      ap (λ (v : Vec ℕ Global). paged (bytes_at v.items entries)) c.in_ok-new.ensures.ok ∙ paged-faces b.index.items b.entries.items entries c.share_all.ensures.faces ∙ c.loop-area.invariant.0
          ∙ ap areas_bytes (take_all c.loop-area.area-index areas (omega arith)),
      c.new-3.ensures,
      own_count-none entries c.in_ok-_others.ensures.shared,
    )
