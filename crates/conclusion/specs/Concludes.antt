-- What is answered to a question about a system.
use Rattle.std.specs.Prelude.{◌++◌, ℕ, List, codes}
use Rattle.trs_defs.specs.Member.{In}
use Rattle.names_text.specs.Named.{NamedSystem}
use Rattle.sexp_core.specs.Printed.{lines}
use Rattle.cert_text.specs.cert_step.declared.claim.Claim.{Claim}
use Rattle.cert_text.specs.cert_step.ProofStep.{ProofNodeStep}
use Rattle.cert_text.specs.CertificateText.{certificate_items}
use Rattle.conclusion.specs.ProofOf.{proof_of, Proves}
use Rattle.report_text.specs.tree_definitions.declared.question.Question.{Question}
use Rattle.report_text.specs.tree_definitions.Questions.{claims}
use Rattle.report_text.specs.tree_definitions.Reports.{Part, IsTrueReport}
use Rattle.report_text.specs.GoalLines.{report_lines}

-- the printed certificate of a claim with these steps
abbrev pub proof_lines : NamedSystem → Claim → List ProofNodeStep → List ℕ
proof_lines named claim steps = lines (certificate_items named (proof_of claim steps))

-- the line `MAYBE`, and a line for each goal
abbrev pub maybe_text : NamedSystem → Question → List Part → List ℕ
maybe_text named question parts = codes "MAYBE\n" ++ report_lines named question parts

-- The text is a certificate of what one of the question's goals claims; or it reports of each goal, truly, what is left open there by
-- strategies within the budget.
pub data Concludes (named : NamedSystem) (question : Question) (budget : ℕ) : List ℕ → Type 0 where
  proved : (claim : Claim) (steps : List ProofNodeStep) → In claim (claims question) → Proves named claim (proof_lines named claim steps)
      → Concludes named question budget (proof_lines named claim steps)
  maybe : (parts : List Part) → IsTrueReport named.system question budget parts
      → Concludes named question budget (maybe_text named question parts)
