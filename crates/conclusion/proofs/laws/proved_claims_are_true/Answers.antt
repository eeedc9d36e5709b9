use Rattle.std.proofs.lemmas.List.Elements.{recursion_from_All}
use Rattle.cert_text.specs.cert_step.ProofStep.{ProofNodeStep, IsWellMade}
use Rattle.cert_text.proofs.WellMadeSteps.{well_made_steps}
use Rattle.cert_text.proofs.cert_step.NodeSoundness.{true_claim}
use Rattle.conclusion.proofs.laws.proved_claims_are_true.Goals as goal

pub returns : goal.returns
returns c = λ named claim text is h.
    true_claim named.system claim h.says.steps is.valid.is_system
    (recursion_from_All (λ (s : ProofNodeStep). IsWellMade named.system s.step) h.says.steps (well_made_steps named text h.says is h.said)) h.accepted
