use Rattle.std.proofs.Common.{refl}
use Rattle.paged_image.proofs.owner.Owner.bytes.Goals as goal

pub returns-in-Blank : goal.returns-in-Blank
returns-in-Blank c = rw c.in-Blank.is refl
