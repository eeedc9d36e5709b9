use Rattle.std.proofs.Common.{◌≡◌, rules, IfErr}
use Rattle.cert_text.specs.ProofText.{proof_text_of}
use Rattle.certifier.specs.declared.accepted.AcceptedProof.{AcceptedProof}
use Rattle.certifier.specs.Acceptance.{IsRejection}
use Rattle.certifier.proofs.OneAnswer.{said_once, says_of_acceptance}
use Rattle.certifier.proofs.Outcomes.{rejected_proof, accepted_as, only_rejected}
use Rattle.certifier.proofs.accepted.accepted_proof.Goals as goal

pub returns-in_err-system-clause-only : goal.returns-in_err-system-clause-only
returns-in_err-system-clause-only c =
    let rejected : IfErr c.from_residual.result (IsRejection c.args.problem.now c.args.certificate.now) = search rules in
    λ named says h.
    only_rejected (λ (a : AcceptedProof). (a.system ≡ named) × (proof_text_of a.certificate ≡ says)) c.args.problem.now c.args.certificate.now c.from_residual.result
    c.from_residual.ensures.0 rejected says.claim named h.acceptance

pub returns-in_err-proof-clause-only : goal.returns-in_err-proof-clause-only
returns-in_err-proof-clause-only c =
    let rejected : IfErr c.from_residual-in_err-proof.result (IsRejection c.args.problem.now c.args.certificate.now) = search rules in
    λ named says h.
    only_rejected (λ (a : AcceptedProof). (a.system ≡ named) × (proof_text_of a.certificate ≡ says)) c.args.problem.now c.args.certificate.now
    c.from_residual-in_err-proof.result c.from_residual-in_err-proof.ensures.0 rejected says.claim named h.acceptance

pub returns-in_err-check_proof-clause-rejected : goal.returns-in_err-check_proof-clause-rejected
returns-in_err-check_proof-clause-rejected c =
    let rejected : IsRejection c.args.problem.now c.args.certificate.now c.in_err-check_proof.field-0.0 =
    rejected_proof c.args.problem.now c.args.certificate.now c.in_ok-system.system (proof_text_of c.in_ok-proof.proof) c.in_err-check_proof.field-0.0 c.in_ok-system.ensures.found
    c.in_ok-proof.ensures.found c.in_err-check_proof.ensures.unproved in
    search rules

pub returns-in_err-check_proof-clause-only : goal.returns-in_err-check_proof-clause-only
returns-in_err-check_proof-clause-only c = λ named says h.
    let rejected : IsRejection c.args.problem.now c.args.certificate.now c.in_err-check_proof.field-0.0 =
    rejected_proof c.args.problem.now c.args.certificate.now c.in_ok-system.system (proof_text_of c.in_ok-proof.proof) c.in_err-check_proof.field-0.0 c.in_ok-system.ensures.found
    c.in_ok-proof.ensures.found c.in_err-check_proof.ensures.unproved in
    let answer : IfErr c.from_residual-in_err-check_proof.result (IsRejection c.args.problem.now c.args.certificate.now) = search rules in
    only_rejected (λ (a : AcceptedProof). (a.system ≡ named) × (proof_text_of a.certificate ≡ says)) c.args.problem.now c.args.certificate.now
    c.from_residual-in_err-check_proof.result c.from_residual-in_err-check_proof.ensures.0 answer says.claim named h.acceptance

pub returns-clause-accepted : goal.returns-clause-accepted
returns-clause-accepted c =
    accepted_as c.args.problem.now c.args.certificate.now c.in_ok-system.system (proof_text_of c.in_ok-proof.proof) c.in_ok-system.ensures.found c.in_ok-proof.ensures.found
    c.in_ok-check_proof.ensures.proved

pub returns-clause-true_claim : goal.returns-clause-true_claim
returns-clause-true_claim c =
    says_of_acceptance c.args.problem.now c.args.certificate.now c.in_ok-proof.proof.claim c.in_ok-system.system
    (accepted_as c.args.problem.now c.args.certificate.now c.in_ok-system.system (proof_text_of c.in_ok-proof.proof) c.in_ok-system.ensures.found c.in_ok-proof.ensures.found
    c.in_ok-check_proof.ensures.proved).acceptance

pub returns-clause-only : goal.returns-clause-only
returns-clause-only c = λ named says h.
    said_once c.args.problem.now c.args.certificate.now c.in_ok-system.system named (proof_text_of c.in_ok-proof.proof) says
    (accepted_as c.args.problem.now c.args.certificate.now c.in_ok-system.system (proof_text_of c.in_ok-proof.proof) c.in_ok-system.ensures.found c.in_ok-proof.ensures.found
    c.in_ok-check_proof.ensures.proved) h
