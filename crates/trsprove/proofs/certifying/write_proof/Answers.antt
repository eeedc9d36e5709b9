use Rattle.std.proofs.Common.{sym, subst}
use Rattle.program_edge.specs.conclusion.cert_text.ProofText.{proof_text_of}
use Rattle.program_edge.specs.declared.status.Status.TheVariants as status
use Rattle.trsprove.specs.Lines.{accepted_line}
use Rattle.trsprove.specs.Verdicts.{IsWritten, with_claim}
use Rattle.trsprove.proofs.certifying.write_proof.Goals as goal

pub returns-in-Claim : goal.returns-in-Claim
returns-in-Claim c =
    subst (λ wanted. IsWritten c.args.proof.now.system (proof_text_of c.args.proof.now.certificate) wanted status.Answered (accepted_line c.args.proof.now.certificate.claim))
    (sym c.in-Claim.is) with_claim
