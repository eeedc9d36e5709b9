-- The text that a proof tree gives.
use Rattle.std.specs.Prelude.{◌≡◌, ℕ, List, Some, None, slice_get}
use Rattle.names_text.specs.Named.{NamedSystem}
use Rattle.cert_text.specs.cert_step.declared.claim.Claim.{Claim}
use Rattle.cert_text.specs.cert_step.ProofStep.{ProofNodeStep}
use Rattle.report_text.specs.tree_definitions.Questions.{claims}
use Rattle.report_text.specs.tree_definitions.Reports.{Part, IsTrueReport, AreStepsOf, ArePartsOf}
use Rattle.report_text.specs.tree_definitions.Trees.{ProofTree}
use Rattle.conclusion.specs.ProofOf.{Proves}
use Rattle.conclusion.specs.Concludes.{proof_lines, maybe_text}

-- The text is read off the tree: the certificate of the goal that was won, which proves what the goal claims; or the report of
-- all goals, which is true.
pub data IsTextOf (named : NamedSystem) (tree : ProofTree) : List ℕ → Type 0 where
  certified : (g : ℕ) (claim : Claim) (steps : List ProofNodeStep) → tree.state.winner ≡ Some g
      → slice_get (claims tree.question) g ≡ Some claim → AreStepsOf tree.state.nodes g steps
      → Proves named claim (proof_lines named claim steps) → IsTextOf named tree (proof_lines named claim steps)
  reported : (parts : List Part) → tree.state.winner ≡ None → IsTrueReport named.system tree.question tree.budget parts
      → ArePartsOf tree.state.nodes parts → IsTextOf named tree (maybe_text named tree.question parts)
