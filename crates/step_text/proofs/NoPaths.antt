-- Steps of methods without paths have none, and leave what is shared as it is.
use Rattle.std.proofs.Common.{◌≡◌, ℕ, List, [], ◌∷◌, Ok, Err, IfOk, refl, sym, ap, subst, ◌∙◌}
use Rattle.sexp_core.specs.Items.{Items}
use Rattle.names_text.specs.Named.{NamedSystem}
use Rattle.cert_step.specs.declared.step.Step.{Step}
use Rattle.cert_step.specs.ProofStep.{ProofStep, step_of, dp, confluence}
use Rattle.text_reading.specs.Reading.{Read, Form}
use Rattle.text_reading.specs.Seen.{seen}
use Rattle.text_reading.proofs.Made.{MakesForm, made_done, made_rest, made_form, made_any}
use Rattle.path_text.specs.Sharing.{Sharing, behind_paths}
use Rattle.path_text.proofs.InTurn.{if_read}
use Rattle.peak_text.specs.ParallelStep.{par}
use Rattle.step_text.specs.Steps.{paths_of_method}
use Rattle.step_text.specs.DpText.{dp_parts, dp_form}
use Rattle.step_text.specs.GraphText.{graph_parts, graph_step, graph_form}
use Rattle.step_text.specs.SubtermText.{subterm_step, subterm_form}
use Rattle.step_text.specs.PolyText.{poly_step, poly_form}
use Rattle.step_text.specs.LpoText.{lpo_step, lpo_form}
use Rattle.step_text.specs.KboText.{kbo_step, kbo_form}
use Rattle.step_text.specs.UsableText.{usable_step, usable_form}
use Rattle.step_text.specs.ParallelText.{parallel_parts, parallel_step, parallel_form}
use Rattle.step_text.specs.ConfluenceText.{confluence_parts, confluence_form}
use Rattle.step_text.proofs.TogetherLaws.{made_together}
use Rattle.pair_text.specs.GraphItems.{graph_item}
use Rattle.pair_text.specs.Projections.{projections}
use Rattle.pair_text.specs.LinearEntries.{linear_entries}
use Rattle.pair_text.specs.PathEntries.{path_entries}
use Rattle.pair_text.specs.KnuthEntries.{kbo_entries}

abbrev pub HasNoPath : ProofStep → Type 0
HasNoPath s = paths_of_method s ≡ []

pub dp_paths : MakesForm dp_form HasNoPath
dp_paths at xs v e = let same = made_form dp_parts _ dp made_done at xs v e in subst HasNoPath same refl

pub graph_paths : MakesForm graph_form HasNoPath
graph_paths at xs v e =
    let (items, any, same) = made_form graph_parts _ graph_step (made_rest graph_item (λ _. Unit {0}) (made_any graph_item)) at xs v e in subst HasNoPath same refl

pub subterm_paths : (named : NamedSystem) → MakesForm (subterm_form named) HasNoPath
subterm_paths named = made_together (projections named) subterm_step (λ _. Unit {0}) HasNoPath (λ xs vs e. tt) (λ es h. refl)

pub poly_paths : (named : NamedSystem) → MakesForm (poly_form named) HasNoPath
poly_paths named = made_together (linear_entries named) poly_step (λ _. Unit {0}) HasNoPath (λ xs vs e. tt) (λ es h. refl)

pub lpo_paths : (named : NamedSystem) → MakesForm (lpo_form named) HasNoPath
lpo_paths named = made_together (path_entries named) lpo_step (λ _. Unit {0}) HasNoPath (λ xs vs e. tt) (λ es h. refl)

pub kbo_paths : (named : NamedSystem) → MakesForm (kbo_form named) HasNoPath
kbo_paths named = made_together (kbo_entries named) kbo_step (λ _. Unit {0}) HasNoPath (λ xs vs e. tt) (λ es h. refl)

pub usable_paths : (named : NamedSystem) → MakesForm (usable_form named) HasNoPath
usable_paths named = made_together (linear_entries named) usable_step (λ _. Unit {0}) HasNoPath (λ xs vs e. tt) (λ es h. refl)

pub parallel_paths : MakesForm parallel_form HasNoPath
parallel_paths at xs v e =
    let (steps, any, same) = made_form parallel_parts _ parallel_step (made_rest par (λ _. Unit {0}) (made_any par)) at xs v e in subst HasNoPath same refl

pub confluence_paths : MakesForm confluence_form HasNoPath
confluence_paths at xs v e = let same = made_form confluence_parts _ confluence made_done at xs v e in subst HasNoPath same refl

pub kept : (s : Sharing) (r : Read Step) (f : Form ProofStep) (at : ℕ) (xs : Items) → seen step_of r ≡ f at xs → MakesForm f HasNoPath
    → IfOk r (λ x. s ≡ behind_paths s (paths_of_method (step_of x)))
kept s r f at xs e none =
    if_read step_of (λ v. s ≡ behind_paths s (paths_of_method v)) r (f at xs) e (λ v is. sym (ap (behind_paths s) (none at xs v is)))
