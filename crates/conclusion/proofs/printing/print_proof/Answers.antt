use Rattle.std.proofs.Common.{map}
use Rattle.cert_text.specs.cert_step.ProofStep.{node_step_of}
use Rattle.conclusion.proofs.Accepted.{printed_proves}
use Rattle.conclusion.proofs.printing.print_proof.Goals as goal

pub returns-clause-proves : goal.returns-clause-proves
returns-clause-proves c =
    printed_proves (λ t. t.items) c.args.system.now c.args.claim c.claim_headline.result (map node_step_of c.args.steps.items) c.claim_headline.ensures
    c.requires.in_order c.requires.accepted c.print_certificate.result c.print_certificate.ensures.read
