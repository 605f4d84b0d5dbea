use Rattle.std.proofs.Common.{refl}
use Rattle.guest_model.specs.Difference.{least}
use Rattle.guest_model.specs.ImageFault.{first_fault}
use Rattle.elf32_loader.proofs.laws.changed_headers_are_faults.Goals as goal

pub returns-clause-short : goal.returns-clause-short
unfolding first_fault least
returns-clause-short c = refl

pub returns-clause-magic : goal.returns-clause-magic
unfolding first_fault least
returns-clause-magic c = refl

pub returns-clause-class : goal.returns-clause-class
unfolding first_fault least
returns-clause-class c = refl

pub returns-clause-byte_order : goal.returns-clause-byte_order
unfolding first_fault least
returns-clause-byte_order c = refl

pub returns-clause-version : goal.returns-clause-version
unfolding first_fault least
returns-clause-version c = refl

pub returns-clause-kind : goal.returns-clause-kind
unfolding first_fault least
returns-clause-kind c = refl

pub returns-clause-machine : goal.returns-clause-machine
unfolding first_fault least
returns-clause-machine c = refl

pub returns-clause-headers : goal.returns-clause-headers
unfolding first_fault least
returns-clause-headers c = refl

pub returns-clause-table : goal.returns-clause-table
unfolding first_fault least
returns-clause-table c = refl
