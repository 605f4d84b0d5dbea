use Rattle.std.proofs.Common.{refl}
use Rattle.guest_model.specs.Difference.{least}
use Rattle.guest_model.specs.ImageFault.{first_fault}
use Rattle.elf32_loader.proofs.laws.small_image_is_loaded.Goals as goal

pub returns-clause-fault : goal.returns-clause-fault
unfolding first_fault least
returns-clause-fault c = refl
