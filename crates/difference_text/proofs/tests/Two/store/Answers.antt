use Rattle.std.proofs.Common.{true, [], ◌∷◌, ◌∙◌}
use Rattle.paged_image.specs.Image.{content, written_of}
use Rattle.page_compare.proofs.OnShape.{shape-stores, outside-right}
use Rattle.difference_text.proofs.tests.Two.store.Goals as goal

pub invariant_of-self : goal.invariant_of-self
invariant_of-self c =
    let s = c.args.self.now in
    let old = s.fast.memory in
    let new = c.store8.new.self in
    record {
      comparable = record {
        outside = outside-right (written_of s.original.memory) (written_of old) (written_of new) (content s.original.memory) (content old) (content new) s.comparable.outside c.store8.ensures.kept;
        layout = record {
          mapped = λ q. s.comparable.layout.mapped q ∙ shape-stores true (content old) (content new) c.args.at (c.args.value ∷ []) c.store8.result c.store8.ensures.stores q;
          start = s.comparable.layout.start;
          size = s.comparable.layout.size;
        };
      };
    }
