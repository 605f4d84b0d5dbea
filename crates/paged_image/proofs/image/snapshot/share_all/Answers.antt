use Rattle.std.proofs.Common.{◌≡◌, ℕ, ◌<◌, false, List, length, map, inl, refl, sym, ◌∙◌, ap, subst, arith}
use Rattle.std.proofs.lemmas.Bool.{false≢true}
use Rattle.std.proofs.lemmas.List.Elements.{All-push, All-nil}
use Rattle.paged_image.specs.Owner.{is_own}
use Rattle.paged_image.specs.Entries.{face, NoneOwn}
use Rattle.paged_image.specs.declared.entry.Entry.{Entry}
use Rattle.paged_image.proofs.OnEntries.{grows-same, grows-set, grows-trans}
use Rattle.paged_image.proofs.OnFaces.{length-faces, faces-set, faces_more, none_own_more}
use Rattle.paged_image.proofs.OnImage.{read_entry}
use Rattle.paged_image.proofs.image.snapshot.share_all.Goals as goal

pub returns-in_err-others-clause-grows : goal.returns-in_err-others-clause-grows
returns-in_err-others-clause-grows c = grows-same (λ _. false) c.args.entries.now.items

pub loop-place-init : goal.loop-place-init
loop-place-init c = (
  refl,
  grows-same (λ _. false) c.args.entries.now.items,
  All-nil (λ (e : Entry). is_own e.page ≡ false),
  ap (map face) c.in_ok-others.ensures.items,
  subst (λ (es : List Entry). NoneOwn es) (sym c.in_ok-others.ensures.items) (All-nil (λ (e : Entry). is_own e.page ≡ false)),
)

pub returns-in_err-page-clause-faces : goal.returns-in_err-page-clause-faces
returns-in_err-page-clause-faces c =
    let x = c.index_mut-entry.result.now in
    let y : Entry = record { number = x.number; page = c.share.new.self } in
    faces-set c.loop-place.entries.items c.loop-place.place x y x (omega (arith, length-faces c.args.entries.now.items c.loop-place.entries.items c.loop-place.invariant.0)) c.index_mut-entry.ensures.value (ap (λ (bs : List ℕ). (x.number, bs)) c.share.ensures.bytes) refl ∙ c.loop-place.invariant.0

pub returns-in_err-page-clause-grows : goal.returns-in_err-page-clause-grows
returns-in_err-page-clause-grows c =
    let x = c.index_mut-entry.result.now in
    let y : Entry = record { number = x.number; page = c.share.new.self } in
    let items = c.loop-place.entries.items in
    let at = read_entry items c.loop-place.place x (omega (arith, length-faces c.args.entries.now.items c.loop-place.entries.items c.loop-place.invariant.0)) c.index_mut-entry.ensures.value in
    grows-trans (λ _. false) c.args.entries.now.items items _ c.loop-place.invariant.1
    (grows-set (λ _. false) items c.loop-place.place x y at refl (λ h. inl (c.in_err-page.ensures.err h)))

pub returns-in_err-push-clause-faces : goal.returns-in_err-push-clause-faces
returns-in_err-push-clause-faces c =
    let x = c.index_mut-entry.result.now in
    let y : Entry = record { number = x.number; page = c.share.new.self } in
    faces-set c.loop-place.entries.items c.loop-place.place x y x (omega (arith, length-faces c.args.entries.now.items c.loop-place.entries.items c.loop-place.invariant.0)) c.index_mut-entry.ensures.value (ap (λ (bs : List ℕ). (x.number, bs)) c.share.ensures.bytes) refl ∙ c.loop-place.invariant.0

pub returns-in_err-push-clause-grows : goal.returns-in_err-push-clause-grows
returns-in_err-push-clause-grows c =
    let x = c.index_mut-entry.result.now in
    let y : Entry = record { number = x.number; page = c.share.new.self } in
    let items = c.loop-place.entries.items in
    let at = read_entry items c.loop-place.place x (omega (arith, length-faces c.args.entries.now.items c.loop-place.entries.items c.loop-place.invariant.0)) c.index_mut-entry.ensures.value in
    grows-trans (λ _. false) c.args.entries.now.items items _ c.loop-place.invariant.1
    (grows-set (λ _. false) items c.loop-place.place x y at refl (λ h. absurd (false≢true (sym c.in_ok-page.ensures.ok.0 ∙ h))))

pub loop-place-preserved : goal.loop-place-preserved
loop-place-preserved c =
    let x = c.index_mut-entry.result.now in
    let y : Entry = record { number = x.number; page = c.share.new.self } in
    let z : Entry = record { number = x.number; page = c.in_ok-page.page } in
    let items = c.loop-place.entries.items in
    let i = c.loop-place.place in
    let within : i < length items = omega (arith, length-faces c.args.entries.now.items items c.loop-place.invariant.0) in
    let at = read_entry items i x within c.index_mut-entry.ensures.value in
    let same : face y ≡ face x = ap (λ (bs : List ℕ). (x.number, bs)) c.share.ensures.bytes in
    let other : face z ≡ face x = ap (λ (bs : List ℕ). (x.number, bs)) c.in_ok-page.ensures.ok.2 in (
      faces-set items i x y z within c.index_mut-entry.ensures.value same other ∙ c.loop-place.invariant.0,
      grows-trans (λ _. false) c.args.entries.now.items items _ c.loop-place.invariant.1
          (grows-set (λ _. false) items i x y at refl (λ h. absurd (false≢true (sym c.in_ok-page.ensures.ok.0 ∙ h)))),
      none_own_more items i x y z within c.index_mut-entry.ensures.value same other c.loop-place.invariant.2 c.in_ok-page.ensures.ok.0,
      ap (map face) c.in_ok-push.ensures.items ∙ faces_more items i x y z within c.index_mut-entry.ensures.value same other c.loop-place.others.items c.loop-place.invariant.3,
      subst (λ (es : List Entry). NoneOwn es) (sym c.in_ok-push.ensures.items)
          (All-push (λ (e : Entry). is_own e.page ≡ false) c.loop-place.others.items z c.loop-place.invariant.4 c.in_ok-page.ensures.ok.1),
    )
