use Rattle.std.proofs.Common.{refl}
use Rattle.paged_image.specs.Image.{content, written_of, owned_of}
use Rattle.paged_image.proofs.OnFaces.{own_written-none, none_own-counted}
use Rattle.paged_image.proofs.image.PagedImage.forget_written.Goals as goal

pub invariant_of-self : goal.invariant_of-self
unfolding owned_of
invariant_of-self c =
    let s = c.args.self.now in
    record { table = s.table; finds = s.finds; own_written = own_written-none s.entries.items _ (none_own-counted s.entries.items c.requires) }

pub returns-clause-content : goal.returns-clause-content
unfolding content
returns-clause-content c = refl

pub returns-clause-written : goal.returns-clause-written
unfolding written_of
returns-clause-written c = c.new.ensures

pub returns-clause-owned : goal.returns-clause-owned
unfolding owned_of
returns-clause-owned c = c.requires
