use Rattle.std.proofs.Common.{◌<◌, ◌^◌, All, map, length, subst, sym}
use Rattle.std.proofs.lemmas.List.{length-map}
use Rattle.trs_defs.specs.System.{System}
use Rattle.cert_text.specs.cert_step.ProofStep.{node_step_of}
use Rattle.cert_text.specs.step_text.Ranges.{IsPrintable}
use Rattle.cert_text.specs.cert_step.Nodes.{IsAccepted}
use Rattle.conclusion.proofs.StepNumbers.{accepted_printable}
use Rattle.conclusion.proofs.FoundSteps.{found_steps_in_order}
use Rattle.conclusion.proofs.Texts.{won_is_text}
use Rattle.conclusion.proofs.tree_text.won_text.Goals as goal

pub print_proof-requires-clause-printable : goal.print_proof-requires-clause-printable
print_proof-requires-clause-printable c =
    let proof = c.in_ok-proof.proof in
    let steps = map node_step_of proof.steps.items in
    let few : length steps < 2 ^ 63 =
    subst (λ n. n < 2 ^ 63) (sym (length-map proof.steps.items node_step_of)) (subst (λ s. length s < 2 ^ 63) c.deref.ensures.value c.lists_are_short.ensures) in
    subst (λ (system : System). All (IsPrintable system) steps) c.requires.system
    (accepted_printable c.args.tree.now.system proof.claim steps few c.in_ok-proof.ensures.well_made c.in_ok-proof.ensures.accepted)

pub print_proof-requires-clause-in_order : goal.print_proof-requires-clause-in_order
print_proof-requires-clause-in_order c =
    found_steps_in_order c.args.tree.now.system c.args.tree.now.budget (map node_step_of c.in_ok-proof.proof.steps.items) c.in_ok-proof.ensures.found

pub print_proof-requires-clause-accepted : goal.print_proof-requires-clause-accepted
print_proof-requires-clause-accepted c =
    let proof = c.in_ok-proof.proof in
    subst (λ (system : System). IsAccepted system proof.claim (map node_step_of proof.steps.items)) c.requires.system c.in_ok-proof.ensures.accepted

pub returns : goal.returns
returns c =
    let proof = c.in_ok-proof.proof in
    let g = c.requires.won.0 in
    won_is_text c.args.system.now c.args.tree.now g proof.claim (map node_step_of proof.steps.items) c.in_ok-text.text.items c.requires.won.1
    (c.in_ok-proof.ensures.claim g c.requires.won.1) (c.in_ok-proof.ensures.steps g c.requires.won.1) c.in_ok-text.ensures.text c.in_ok-text.ensures.proves
