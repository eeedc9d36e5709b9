use Rattle.std.proofs.Common.{sym, subst, rules}
use Rattle.std.proofs.lemmas.Result.{IfOk-weaker}
use Rattle.program_edge.specs.conclusion.cert_text.ProofText.{proof_text_of}
use Rattle.certifier.specs.Acceptance.{IsRejection}
use Rattle.certifier.specs.declared.rejected.Rejected.TheVariants as why
use Rattle.program_edge.specs.declared.status.Status.TheVariants as status
use Rattle.program_edge.specs.Lines.{refused_line}
use Rattle.trsprove.specs.Verdicts.{Verdict, IsWritten, accepted, refused, rejected}
use Rattle.trsprove.specs.Answers.{status_of, text_of}
use Rattle.trsprove.proofs.certifying.judge.Goals as goal

pub returns-in-Ok : goal.returns-in-Ok
returns-in-Ok c =
    let named = c.in-Ok.proof.system in
    let says = proof_text_of c.in-Ok.proof.certificate in
    IfOk-weaker c.write_proof-answer.result (λ a. IsWritten named says c.args.wanted (status_of a) (text_of a)) (λ a. Verdict c.args.problem.now c.args.certificate.now c.args.wanted (status_of a) (text_of a)) (λ a. accepted named says c.in-Ok.ensures.accepted) c.write_proof-answer.ensures

pub returns-in-Err-Problem : goal.returns-in-Err-Problem
returns-in-Err-Problem c =
    let rejection : IsRejection c.args.problem.now c.args.certificate.now (why.Problem c.in-Err-Problem.fault) =
    subst (IsRejection c.args.problem.now c.args.certificate.now) c.in-Err-Problem.field-0-is c.in-Err-Problem.ensures.rejected in
    subst (λ f. Verdict c.args.problem.now c.args.certificate.now c.args.wanted status.Refused (refused_line f)) (sym c.in-Err-Problem.fault-is)
    (refused c.in-Err-Problem.fault rejection.0 rejection.1)

pub returns-in_ok-rejected_line-in-Err : goal.returns-in_ok-rejected_line-in-Err
returns-in_ok-rejected_line-in-Err c =
    subst (Verdict c.args.problem.now c.args.certificate.now c.args.wanted status.Rejected) (sym c.in_ok-rejected_line-in-Err.ensures)
    (rejected c.in-Err.rejected c.in-Err.ensures.rejected (search rules) (search rules))
