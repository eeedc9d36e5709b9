use Rattle.std.proofs.Common.{map}
use Rattle.step_text.specs.cert_step.ProofStep.{node_step_of}
use Rattle.cert_text.proofs.WrittenLines.{shared_written}
use Rattle.cert_text.proofs.printing.put_shared_steps.Goals as goal

pub returns-clause-text : goal.returns-clause-text
returns-clause-text c =
    shared_written c.args.system.now (map node_step_of c.args.steps.now) _ _ _ _ _
    c.in_ok-paths.ensures (rw c.deref.ensures.value at c.in_ok-names.ensures) c.in_ok-put_definitions.ensures c.in_ok-put_steps.ensures.text
