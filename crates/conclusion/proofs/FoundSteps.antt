-- The steps of a certificate, each of which a strategy found, start in order.
use Rattle.std.proofs.Common.{ℕ, List, [], ◌∷◌, All}
use Rattle.std.specs.List.{AllByRecursion}
use Rattle.std.proofs.lemmas.List.Elements.{recursion_from_All}
use Rattle.trs_defs.specs.System.{System}
use Rattle.cert_text.specs.cert_step.ProofStep.{ProofNodeStep}
use Rattle.report_text.specs.tree_definitions.Reports.{IsFoundStep}
use Rattle.conclusion.specs.InOrder.{AreInOrder}
use Rattle.conclusion.proofs.FoundInOrder.{found_in_order}

each_in_order : (system : System) (budget : ℕ) (steps : List ProofNodeStep) → AllByRecursion (λ (s : ProofNodeStep). IsFoundStep system budget s.step) steps → AreInOrder steps
each_in_order system budget [] found = tt
each_in_order system budget (s ∷ steps) (found, others) =
    (found_in_order system budget found.strategy found.problem s.step found.finds, each_in_order system budget steps others)

pub found_steps_in_order : (system : System) (budget : ℕ) (steps : List ProofNodeStep) → All (λ (s : ProofNodeStep). IsFoundStep system budget s.step) steps → AreInOrder steps
found_steps_in_order system budget steps found =
    each_in_order system budget steps (recursion_from_All (λ (s : ProofNodeStep). IsFoundStep system budget s.step) steps found)
