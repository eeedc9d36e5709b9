-- Texts that answer a question.
use Rattle.std.proofs.Common.{◌≡◌, ℕ, List, ◌++◌, Some, None, slice_get, codes, sym, subst, inl, inr}
use Rattle.trs_defs.specs.System.{System}
use Rattle.trs_defs.proofs.Members.{in_of_get}
use Rattle.names_text.specs.Named.{NamedSystem}
use Rattle.cert_text.specs.cert_step.declared.claim.Claim.{Claim}
use Rattle.cert_text.specs.cert_step.ProofStep.{ProofNodeStep}
use Rattle.conclusion.specs.ProofOf.{Proves}
use Rattle.report_text.specs.GoalLines.{report_lines}
use Rattle.report_text.specs.tree_definitions.declared.question.Question.{Question}
use Rattle.report_text.specs.tree_definitions.Questions.{goal_count, claims}
use Rattle.report_text.specs.tree_definitions.Reports.{Part, IsTrueReport, AreStepsOf, ArePartsOf}
use Rattle.report_text.specs.tree_definitions.Trees.{ProofTree}
use Rattle.report_text.specs.tree_definitions.Verdicts.{HasVerdict}
use Rattle.report_text.specs.tree_definitions.Replies.{IsVerdict}
use Rattle.worker_pool.specs.Serial.{IsSerialEnd}
use Rattle.conclusion.specs.Concludes.{Concludes, proved, maybe, proof_lines}
use Rattle.conclusion.specs.SerialText.{IsSerialText, won, lost}
use Rattle.conclusion.specs.TextOf.{IsTextOf, certified, reported}

-- where a verdict stands there is one
pub some_verdict : (tree : ProofTree) → HasVerdict (goal_count tree.question) tree.state → IsVerdict tree None → ⊥
some_verdict tree (inl (g, is_won)) (none, h) = absurd cc
some_verdict tree (inr all) (none, (g, within, not_lost)) = not_lost (all g within)

-- ---- the text of a tree

-- a certificate of the claim of the goal that was won
pub won_is_text : (named : NamedSystem) (tree : ProofTree) (g : ℕ) (claim : Claim) (steps : List ProofNodeStep) (text : List ℕ) → tree.state.winner ≡ Some g
    → slice_get (claims tree.question) g ≡ Some claim → AreStepsOf tree.state.nodes g steps → text ≡ proof_lines named claim steps → Proves named claim text
    → IsTextOf named tree text
won_is_text named tree g claim steps text is_won there are is proves =
    subst (IsTextOf named tree) (sym is) (certified g claim steps is_won there are (subst (Proves named claim) is proves))

-- the line `MAYBE` and the lines of a true report
pub lost_is_text : (named : NamedSystem) (tree : ProofTree) (parts : List Part) (lines text : List ℕ) → tree.system ≡ named.system → tree.state.winner ≡ None
    → IsTrueReport tree.system tree.question tree.budget parts → ArePartsOf tree.state.nodes parts → lines ≡ report_lines named tree.question parts
    → text ≡ codes "MAYBE\n" ++ lines → IsTextOf named tree text
lost_is_text named tree parts lines text same none is_true are lines_are is =
    subst (IsTextOf named tree) (sym is)
    (subst (λ z. IsTextOf named tree (codes "MAYBE\n" ++ z)) (sym lines_are)
    (reported parts none (subst (λ (z : System). IsTrueReport z tree.question tree.budget parts) same is_true) are))

-- ---- what it says

text_concludes : (named : NamedSystem) (tree : ProofTree) (text : List ℕ) → IsTextOf named tree text → Concludes named tree.question tree.budget text
text_concludes named tree text (certified g claim steps is_won there are proves) = proved claim steps (in_of_get (claims tree.question) g claim there) proves
text_concludes named tree text (reported parts none is_true are) = maybe parts is_true

-- the text of a tree on a question answers it
pub answers : (named : NamedSystem) (question : Question) (budget : ℕ) (tree : ProofTree) (text : List ℕ) → tree.question ≡ question → tree.budget ≡ budget
    → IsTextOf named tree text → Concludes named question budget text
answers named question budget tree text asked within h =
    subst (λ (q : Question). Concludes named q budget text) asked (subst (λ b. Concludes named tree.question b text) within (text_concludes named tree text h))

-- the text of a tree whose state is that of a serial history
pub text_serial : (named : NamedSystem) (question : Question) (budget : ℕ) (tree : ProofTree) (text : List ℕ) → IsSerialEnd named.system question budget tree.state
    → tree.question ≡ question → tree.budget ≡ budget → IsTextOf named tree text → IsSerialText named question budget text
text_serial named question budget tree text end asked within (certified g claim steps is_won there are proves) =
    won tree.state g claim steps end is_won (subst (λ (q : Question). slice_get (claims q) g ≡ Some claim) asked there) are
text_serial named question budget tree text end asked within (reported parts none is_true are) =
    let report : IsTrueReport named.system question budget parts =
    subst (λ (q : Question). IsTrueReport named.system q budget parts) asked (subst (λ b. IsTrueReport named.system tree.question b parts) within is_true) in
    subst (λ (q : Question). IsSerialText named question budget (codes "MAYBE\n" ++ report_lines named q parts)) (sym asked) (lost tree.state parts end none report are)
