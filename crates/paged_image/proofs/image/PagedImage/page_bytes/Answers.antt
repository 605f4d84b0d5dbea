use Rattle.std.proofs.Common.{Some, ap, sym, ◌∙◌}
use Rattle.paged_image.proofs.OnEntries.{bytes_at-there, bytes_at-absent}
use Rattle.paged_image.proofs.image.PagedImage.page_bytes.Goals as goal

pub returns-in_err-entry : goal.returns-in_err-entry
returns-in_err-entry c =
    let s = c.args.self.now in
    rw c.from_residual.ensures (sym (bytes_at-absent s.index.value.items s.entries.items c.args.number (sym c.in_err-entry.ensures)))

pub returns : goal.returns
returns c =
    let s = c.args.self.now in
    ap Some (c.as_slice.ensures ∙ c.bytes.ensures) ∙ sym (bytes_at-there s.index.value.items s.entries.items c.args.number c.in_ok-entry.entry.now (sym c.in_ok-entry.ensures))
