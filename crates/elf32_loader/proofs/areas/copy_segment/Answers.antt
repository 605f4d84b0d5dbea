use Rattle.std.proofs.Common.{◌≡◌, ◌+◌, ◌-◌, ◌<◌, true, ◌∙◌, sym, ap, length, get_or, arith}
use Rattle.guest_model.specs.Segment.{Segment, is_load}
use Rattle.elf32_loader.proofs.OnSegments.{IsSound, IsSound-from}
use Rattle.elf32_loader.proofs.OnFileBytes.{copied-byte}
use Rattle.elf32_loader.proofs.areas.copy_segment.Goals as goal

pub returns-then-first-end-clause-bytes : goal.returns-then-first-end-clause-bytes
returns-then-first-end-clause-bytes c =
    let s = c.args.segment.now in
    let file = c.args.file.now in
    let memory = c.args.memory.now in
    let at = c.max-first.result - c.from-base.result in
    let from = c.from-then-first-end.result + (c.max-first.result - c.from-address.result) in
    let len = c.min-end.result - c.max-first.result in
    let loaded : is_load s ≡ true = sym c.is_load.ensures ∙ c.if-not-is_load.false in
    let sound : IsSound (length file) s = IsSound-from (length file) s c.requires.segment loaded in
    let address : c.segment.inside.address ≡ s.address = ap (λ (x : Segment). x.address) c.segment.view_is in
    let offset : c.segment.inside.offset ≡ s.offset = ap (λ (x : Segment). x.offset) c.segment.view_is in
    let size : c.segment.inside.file_size ≡ s.file_size = ap (λ (x : Segment). x.file_size) c.segment.view_is in
    let left : c.from-base.result ≡ c.args.base = c.from-base.ensures in
    let some : c.max-first.result < c.min-end.result = c.if-first-end.true in
    λ k l. ap (λ xs. get_or xs k 0) c.overwrite.ensures
    ∙ copied-byte file memory s c.args.base at from len
    (record { loaded = loaded; first = omega arith; start = omega arith; last = omega arith; fits = omega (arith, sound.file) })
    k l
