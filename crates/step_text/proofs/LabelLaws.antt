-- Steps of labels that are read are well-made, and printed ones are read again.
use Rattle.std.proofs.Common.{◌≡◌, ℕ, List, ◌∷◌, Vec, Global, Ok, Err, IfOk, refl, ap, subst, ◌∙◌, arith}
use Rattle.std.specs.Prelude.{map, All}
use Rattle.std.specs.List.{AllByRecursion}
use Rattle.std.proofs.lemmas.List.Elements.{All-from_recursion, recursion_from_All}
use Rattle.sexp_core.specs.Items.{items_of}
use Rattle.trs_defs.specs.Path.{PlacedRule}
use Rattle.trs_defs.specs.System.{System}
use Rattle.rewrite_core.specs.declared.checks.joins.Join.{Join}
use Rattle.rewrite_core.specs.PathsOfJoin.{PathsOfJoin}
use Rattle.cert_step.specs.ProofStep.{ProofStep, label}
use Rattle.text_reading.proofs.Made.{MakesForm, applied, ok_same, made_part, made_form}
use Rattle.text_reading.proofs.Again.{SpellsParts, spells_part}
use Rattle.text_reading.specs.Reading.{Read, ◌<*>◌}
use Rattle.text_reading.specs.Seen.{seen}
use Rattle.path_text.specs.Sharing.{Sharing, paths_weight, behind_paths}
use Rattle.path_text.specs.Ranges.{AreDefinedInRange}
use Rattle.path_text.specs.Paths.{paths_in}
use Rattle.path_text.specs.Carrying.{Carries}
use Rattle.path_text.proofs.PathMade.{made_rest_in_turn}
use Rattle.path_text.proofs.SharedAgain.{spells_each_in_turn, spells_rest_in_turn}
use Rattle.peak_text.specs.TwoPaths.{pair, paths_of_two, pair_item}
use Rattle.peak_text.specs.RuleRanks.{ranks, ranks_item}
use Rattle.peak_text.specs.Ranges.{IsRank, AreTwoInRange}
use Rattle.peak_text.proofs.TwoPathsLaws.{pair_made, pair_again}
use Rattle.peak_text.proofs.RuleRanksLaws.{ranks_made, ranks_again}
use Rattle.step_text.specs.Ranges.{IsReadMethod}
use Rattle.step_text.specs.Steps.{paths_of_method}
use Rattle.step_text.specs.LabelText.{label_parts, label_step, label_form}

pub label_made : (system : System) (sharing : Sharing) → AreDefinedInRange sharing → MakesForm (label_form sharing) (IsReadMethod system)
label_made system sharing defined at xs v e =
    let (numbers, are_ranks, (joins, are, same)) =
    made_form (label_parts sharing) _ label_step
    (made_part ranks _ (AllByRecursion IsRank) _ ranks_made (made_rest_in_turn pair paths_of_two AreTwoInRange pair_made sharing defined)) at xs v e
    in
    subst (IsReadMethod system) same (All-from_recursion IsRank numbers are_ranks, are, refl)

pub label_again : (names : List (List PlacedRule)) (sharing : Sharing) (numbers : List ℕ) (joins : List PathsOfJoin) → All IsRank numbers → AllByRecursion AreTwoInRange joins
    → Carries sharing names (paths_weight (paths_in paths_of_two joins))
    → SpellsParts (label_parts sharing) 1023 (items_of (ranks_item numbers ∷ map (pair_item names) joins)) label_step (label numbers joins)
label_again names sharing numbers joins are h c =
    spells_part 1023 label_step (ranks_again numbers (recursion_from_All IsRank numbers are))
    (spells_rest_in_turn pair paths_of_two sharing (label_step numbers)
    (spells_each_in_turn pair paths_of_two (pair_item names) 4 AreTwoInRange names (λ s j is carries. pair_again names s j is carries) sharing joins h c)) (omega arith) (omega arith)

-- what the paths of such a step leave
pub label_left : (s t : Sharing) (r : Read (List ℕ)) (joins : Read (Vec Join Global)) (a : Read (List PathsOfJoin)) (v : ProofStep) → seen (λ j. j.items) joins ≡ a
    → IfOk joins (λ j. t ≡ behind_paths s (paths_in paths_of_two j.items)) → Ok label_step <*> r <*> a ≡ Ok v → t ≡ behind_paths s (paths_of_method v)
label_left s t r joins a v is left e =
    let b = applied (Ok label_step <*> r) a v e in
    let c = applied (Ok label_step) r b.make b.is_make in
    let same : label_step c.value b.value ≡ v =
    ap (λ (f : List ℕ → List PathsOfJoin → ProofStep). f c.value b.value) (ok_same label_step c.make c.is_make)
    ∙ ap (λ (f : List PathsOfJoin → ProofStep). f b.value) c.made ∙ b.made in
    by_joins joins (is ∙ b.is_value) left ∙ ap (λ (w : ProofStep). behind_paths s (paths_of_method w)) same
  where
    by_joins : (joins : Read (Vec Join Global)) {es : List PathsOfJoin} → seen (λ j. j.items) joins ≡ Ok es → IfOk joins (λ j. t ≡ behind_paths s (paths_in paths_of_two j.items)) → t ≡ behind_paths s (paths_in paths_of_two es)
    by_joins (Ok j) {es} e left = left ∙ ap (λ (l : List PathsOfJoin). behind_paths s (paths_in paths_of_two l)) (ok_same j.items es e)
    by_joins (Err p) {es} e left = absurd cc
