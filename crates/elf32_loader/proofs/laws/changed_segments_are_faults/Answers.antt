use Rattle.std.proofs.Common.{refl}
use Rattle.guest_model.specs.Difference.{least}
use Rattle.guest_model.specs.ImageFault.{first_fault}
use Rattle.elf32_loader.proofs.laws.changed_segments_are_faults.Goals as goal

pub returns-clause-dynamic : goal.returns-clause-dynamic
unfolding first_fault least
returns-clause-dynamic c = refl

pub returns-clause-less_memory : goal.returns-clause-less_memory
unfolding first_fault least
returns-clause-less_memory c = refl

pub returns-clause-past_space : goal.returns-clause-past_space
unfolding first_fault least
returns-clause-past_space c = refl

pub returns-clause-stack : goal.returns-clause-stack
unfolding first_fault least
returns-clause-stack c = refl

pub returns-clause-largest : goal.returns-clause-largest
unfolding first_fault least
returns-clause-largest c = refl

pub returns-clause-too_large : goal.returns-clause-too_large
unfolding first_fault least
returns-clause-too_large c = refl

pub returns-clause-misaligned : goal.returns-clause-misaligned
unfolding first_fault least
returns-clause-misaligned c = refl

pub returns-clause-last_word : goal.returns-clause-last_word
unfolding first_fault least
returns-clause-last_word c = refl
