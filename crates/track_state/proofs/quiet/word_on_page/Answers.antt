use Rattle.std.proofs.Common.{◌≡◌, ◌+◌, ◌-◌, ◌*◌, ◌%◌, ◌^◌, Some, sym, ap, ◌∙◌, arith}
use Rattle.track_state.proofs.OnQuiet.{page-load}
use Rattle.track_state.proofs.quiet.word_on_page.Goals as goal

pub returns : goal.returns
returns c =
    let offset = (c.args.pc + (2 ^ 32 - c.args.number * 4096)) % 2 ^ 32 in
    let at : c.args.pc ≡ c.args.number * 4096 + offset = omega (arith, c.ranges.pc.fits, c.requires.below, c.if-offset.false) in
    λ m h. page-load m c.args.number c.args.pc offset c.args.page.now h at c.if-offset.false ∙ ap Some (sym c.from_le_bytes.ensures)
