use Rattle.std.proofs.lemmas.List.Elements.{recursion_from_All}
use Rattle.cert_step.specs.ProofStep.{ProofNodeStep, IsWellMade}
use Rattle.cert_step.proofs.NodeSoundness.{true_claim}
use Rattle.cert_step.proofs.nodes.accepted_claims_are_true.Goals as goal

pub returns : goal.returns
returns c = λ system claim steps valid made h.
    true_claim system claim steps valid (recursion_from_All (λ (s : ProofNodeStep). IsWellMade system s.step) steps made) h
