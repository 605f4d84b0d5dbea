use Rattle.std.proofs.Common.{◌≡◌, ◌+◌, ◌*◌, length, Ok, sym, ap, ◌∙◌, arith}
use Rattle.std.proofs.lemmas.List.FromFn.{length-map-range_with_len}
use Rattle.guest_model.specs.Segment.{segment_at, e_phoff, e_phnum}
use Rattle.std.proofs.lemmas.Result.{err_from_is_err_and}
use Rattle.elf32_loader.specs.FaultOf.{fault_of}
use Rattle.elf32_loader.proofs.OnImage.{refused-segments, unfaulted, image-unfaulted, segment_fault-read, image_of-read}
use Rattle.elf32_loader.proofs.image.load_checked.Goals as goal

pub returns-in_err-check_segments : goal.returns-in_err-check_segments
returns-in_err-check_segments c =
    let p = err_from_is_err_and c.from_residual.result c.from_residual.ensures.1 in
    let f = c.in_err-check_segments.ensures in
    rw (p.1, p.2) (refused-segments c.args.bytes.now (fault_of c.in_err-check_segments.field-0.0) f.0 c.requires.header
    (segment_fault-read c.args.bytes.now c.args.segments.now c.word_at-entry.result c.requires.segments c.word_at-entry.ensures ∙ f.1))

pub returns-in_err-loaded : goal.returns-in_err-loaded
returns-in_err-loaded c =
    let p = err_from_is_err_and c.from_residual-in_err-loaded.result c.from_residual-in_err-loaded.ensures.1 in
    rw (p.1, p.2) (unfaulted c.args.bytes.now c.requires.header
    (segment_fault-read c.args.bytes.now c.args.segments.now c.word_at-entry.result c.requires.segments c.word_at-entry.ensures ∙ c.in_ok-check_segments.ensures))

pub returns : goal.returns
returns c =
    image-unfaulted c.args.bytes.now (unfaulted c.args.bytes.now c.requires.header
    (segment_fault-read c.args.bytes.now c.args.segments.now c.word_at-entry.result c.requires.segments c.word_at-entry.ensures ∙ c.in_ok-check_segments.ensures))
    ∙ ap Ok (image_of-read c.args.bytes.now c.args.segments.now c.word_at-entry.result c.requires.segments c.word_at-entry.ensures ∙ sym c.in_ok-loaded.ensures)

pub check_segments-requires : goal.check_segments-requires
check_segments-requires c =
    let bs = c.args.bytes.now in
    let count : length c.args.segments.now ≡ e_phnum bs = ap length c.requires.segments ∙ length-map-range_with_len (λ i. segment_at bs (e_phoff bs + 32 * i)) 0 (e_phnum bs) in
    omega (arith, c.requires.table.count)
