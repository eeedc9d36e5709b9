-- Steps that are accepted are so with the variables of their terms numbered anew.
use Rattle.std.specs.Prelude.{◌≡◌, ℕ, Bool, List, [], ◌∷◌, map, Result, Ok, Err, IfOk, refl}
use Rattle.std.specs.List.{AllByRecursion}
use Rattle.trs_defs.specs.System.{System}
use Rattle.names_text.specs.Named.{NamedSystem}
use Rattle.cert_text.specs.cert_step.declared.claim.Claim.{Claim}
use Rattle.cert_text.specs.cert_step.ProofStep.{ProofNodeStep}
use Rattle.cert_text.specs.step_text.Steps.{step_renumbered}
use Rattle.cert_text.specs.Headline.{headline_of}
use Rattle.cert_text.specs.CertificateText.{SaysCertificate}
use Rattle.cert_text.specs.Renumbered.{renumbered}
use Rattle.cert_text.specs.cert_step.Nodes.{Node, Makes, IsAccepted, first_nodes}
use Rattle.conclusion.specs.InOrder.{AreInOrder}
use Rattle.conclusion.specs.ProofOf.{Proves}
use Rattle.conclusion.proofs.InOrder.{applies_in_order}

makes_in_order : (system : System) (nodes : List Node) (steps : List ProofNodeStep) (last : List Node) → AreInOrder steps
    → Makes system nodes steps last → Makes system nodes (map step_renumbered steps) last
makes_in_order system nodes [] last o h = h
makes_in_order system nodes (s ∷ steps) last (first, others) (p, subproblems, there, applies, rest) =
    (p, subproblems, there, applies_in_order system p s.step subproblems first applies, makes_in_order system _ steps last others rest)

pub accepted_in_order : (system : System) (claim : Claim) (steps : List ProofNodeStep) → AreInOrder steps
    → IsAccepted system claim steps → IsAccepted system claim (map step_renumbered steps)
accepted_in_order system claim steps o h = record {
  nodes = h.nodes;
  makes = makes_in_order system (first_nodes claim) steps h.nodes o h.makes;
  decided = h.decided;
}

-- what says these steps, as they were printed, proves the claim
pub printed_proves : {A E : Type 0} (text_of : A → List ℕ) (named : NamedSystem) (claim : Claim) (positive : Bool) (steps : List ProofNodeStep)
    → positive ≡ headline_of claim → AreInOrder steps → IsAccepted named.system claim steps → (r : Result A E)
    → IfOk r (λ t. SaysCertificate named (text_of t) (renumbered 1 (record { version = 1; headline = positive; claim = claim; steps = steps })))
    → IfOk r (λ t. Proves named claim (text_of t))
printed_proves text_of named claim positive steps fits o h (Ok t) said = record {
  says = renumbered 1 (record { version = 1; headline = positive; claim = claim; steps = steps });
  said = said;
  claimed = refl;
  headline = fits;
  accepted = accepted_in_order named.system claim steps o h;
}
printed_proves text_of named claim positive steps fits o h (Err e) said = tt
