use Rattle.ari_text.proofs.OneSystem.{one_system, no_refusal, one_refusal}
use Rattle.ari_text.proofs.laws.one_system.Goals as goal

pub returns-clause-system : goal.returns-clause-system
returns-clause-system c = one_system

pub returns-clause-refusal : goal.returns-clause-refusal
returns-clause-refusal c = no_refusal

pub returns-clause-fault : goal.returns-clause-fault
returns-clause-fault c = one_refusal
