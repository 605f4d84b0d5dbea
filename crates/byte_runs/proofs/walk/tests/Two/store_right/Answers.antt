use Rattle.std.proofs.Common.{true, [], ◌∷◌, ◌∙◌}
use Rattle.paged_image.specs.Image.{content, written_of}
use Rattle.page_compare.proofs.OnShape.{shape-stores, outside-right}
use Rattle.byte_runs.proofs.walk.tests.Two.store_right.Goals as goal

pub invariant_of-self : goal.invariant_of-self
invariant_of-self c =
    let s = c.args.self.now in
    let t = c.store8.new.self in
    record {
      shape = λ q. s.shape q ∙ shape-stores true (content s.right) (content t) c.args.at (c.args.value ∷ []) c.store8.result c.store8.ensures.stores q;
      outside = outside-right (written_of s.left) (written_of s.right) (written_of t) (content s.left) (content s.right) (content t) s.outside c.store8.ensures.kept;
    }
