-- A method is read by the form that its word stands for.
use Rattle.std.proofs.Common.{◌≡◌, ℕ, Ok, Err, IfOk, ap, ◌∙◌}
use Rattle.sexp_core.specs.Items.{Item, Items, a_list, item}
use Rattle.names_text.specs.Named.{NamedSystem}
use Rattle.cert_step.specs.declared.step.Step.{Step}
use Rattle.cert_step.specs.ProofStep.{ProofStep, step_of}
use Rattle.text_reading.specs.Seen.{seen}
use Rattle.text_reading.proofs.Made.{ok_same}
use Rattle.text_reading.specs.Reading.{Read, Form, word, of_form}
use Rattle.path_text.specs.Sharing.{Sharing, behind_paths}
use Rattle.step_text.specs.Steps.{forms, method, paths_of_method}

pub method_seen : (named : NamedSystem) (sharing : Sharing) (x head : Item) (members : Items) (at : ℕ) (found : Read (Form ProofStep)) → x ≡ a_list (item head members) at → word (forms named sharing) head ≡ found
    → method named sharing x ≡ of_form found at members
method_seen named sharing x head members at found is finds =
    ap (method named sharing) is ∙ ap (λ (f : Read (Form ProofStep)). of_form f at members) finds

-- what is left behind the method that was read
pub left_by_method : (s t : Sharing) (r : Read Step) (a : Read ProofStep) → seen step_of r ≡ a → IfOk r (λ x. t ≡ behind_paths s (paths_of_method (step_of x)))
    → (v : ProofStep) → a ≡ Ok v → t ≡ behind_paths s (paths_of_method v)
left_by_method s t (Ok x) a e left v is = left ∙ ap (λ (w : ProofStep). behind_paths s (paths_of_method w)) (ok_same (step_of x) v (e ∙ is))
left_by_method s t (Err p) a e left v is = absurd (let same = e ∙ is in cc)
