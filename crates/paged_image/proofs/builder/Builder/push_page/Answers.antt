use Rattle.std.proofs.Common.{◌≡◌, ℕ, ◌≤◌, List, [], ◌∷◌, ◌++◌, length, refl, ◌∙◌, ap, arith}
use Rattle.std.proofs.Math.ListN.{set, length-set}
use Rattle.paged_image.specs.Owner.{page_bytes}
use Rattle.paged_image.specs.Pages.{paged, bytes_at}
use Rattle.paged_image.specs.Builder.{built}
use Rattle.paged_image.specs.declared.entry.Entry.{Entry}
use Rattle.paged_image.proofs.OnBuilder.{finds-push, places-push, replaces-push, write-whole}
use Rattle.paged_image.proofs.builder.Builder.push_page.Goals as goal

pub invariant_of-self-2 : goal.invariant_of-self-2
invariant_of-self-2 c =
    let s = c.args.self.now in
    let y : Entry = record { number = c.args.number; page = c.in_ok-page.page } in
    let items : c.push.new.self.items ≡ s.entries.items ++ y ∷ [] = c.in_ok-push.ensures.items in
    let place : c.len-place.result ≡ length s.entries.items = c.len-place.ensures ∙ s.entries.ok.0 in
    let few : length s.entries.items ≤ c.args.number = c.requires.few in
    record {
      table = omega (arith, length-set s.index.items c.args.number c.len-place.result, s.table);
      finds = rw (items, place) (finds-push s.index.items s.entries.items c.args.number y s.table c.requires.below few s.places s.finds refl);
      places = rw (items, place) (places-push s.index.items s.entries.items c.args.number y s.table c.requires.below few s.places);
    }

pub returns-clause-pages : goal.returns-clause-pages
unfolding built
returns-clause-pages c =
    let s = c.args.self.now in
    let y : Entry = record { number = c.args.number; page = c.in_ok-page.page } in
    let items : c.push.new.self.items ≡ s.entries.items ++ y ∷ [] = c.in_ok-push.ensures.items in
    let place : c.len-place.result ≡ length s.entries.items = c.len-place.ensures ∙ s.entries.ok.0 in
    let few : length s.entries.items ≤ c.args.number = c.requires.few in
    let bytes : page_bytes y.page ≡ c.args.bytes.now = c.in_ok-page.ensures in
    ap (λ (es : List Entry). paged (bytes_at (set s.index.items c.args.number c.len-place.result) es)) items
    ∙ ap (λ (k : ℕ). paged (bytes_at (set s.index.items c.args.number k) (s.entries.items ++ y ∷ []))) place
    ∙ write-whole (bytes_at s.index.items s.entries.items) (bytes_at (set s.index.items c.args.number (length s.entries.items)) (s.entries.items ++ y ∷ [])) c.args.number c.args.bytes.now c.requires.whole
    (replaces-push s.index.items s.entries.items c.args.number y s.table c.requires.below few s.places c.args.bytes.now bytes)
