use Rattle.std.proofs.Common.{true, [], ◌∷◌, sym, ◌∙◌}
use Rattle.paged_image.specs.Image.{content, written_of}
use Rattle.page_compare.proofs.OnShape.{shape-stores, outside-left}
use Rattle.byte_runs.proofs.walk.tests.Two.store_left.Goals as goal

pub invariant_of-self : goal.invariant_of-self
invariant_of-self c =
    let s = c.args.self.now in
    let t = c.store8.new.self in
    record {
      shape = λ q. sym (shape-stores true (content s.left) (content t) c.args.at (c.args.value ∷ []) c.store8.result c.store8.ensures.stores q) ∙ s.shape q;
      outside = outside-left (written_of s.left) (written_of t) (written_of s.right) (content s.left) (content t) (content s.right) s.outside c.store8.ensures.kept;
    }
