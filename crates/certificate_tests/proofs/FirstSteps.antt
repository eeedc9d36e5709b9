-- The first of steps that can be printed.
use Rattle.std.proofs.Common.{◌≡◌, ℕ, ◌≤◌, List, [], ◌∷◌, length, get_or, map, arith}
use Rattle.std.specs.List.{All, AllByRecursion}
use Rattle.std.proofs.lemmas.List.Elements.{recursion_from_All}
use Rattle.trs_defs.specs.System.{System}
use Rattle.certifier.specs.cert_step.ProofStep.{node_step_of}
use Rattle.certifier.specs.cert_step.declared.step.NodeStep.{NodeStep}
use Rattle.certifier.specs.cert_text.ProofText.{proof_text_of}
use Rattle.certifier.specs.cert_text.declared.certificate.Certificate.{Certificate}
use Rattle.certifier.specs.step_text.Ranges.{IsPrintable}

first_of : (system : System) (steps : List NodeStep) (s : NodeStep) → 1 ≤ length steps → s ≡ get_or steps 0 s
    → AllByRecursion (IsPrintable system) (map node_step_of steps) → IsPrintable system (node_step_of s)
first_of system [] s le is h = absurd (omega arith)
first_of system (t ∷ steps) s le is h = rw is h.0

pub first_printable : (system : System) (c : Certificate) (steps : List NodeStep) (s : NodeStep) → All (IsPrintable system) (proof_text_of c).steps
    → steps ≡ c.steps.items → 1 ≤ length steps → s ≡ get_or steps 0 s → IsPrintable system (node_step_of s)
first_printable system c steps s h same le first =
    first_of system steps s le first (rw same (recursion_from_All (IsPrintable system) (proof_text_of c).steps h))
