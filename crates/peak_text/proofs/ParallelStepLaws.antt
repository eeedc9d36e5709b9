-- Steps at parallel positions: what is read has numbers in range, and what is printed is read again.
use Rattle.std.proofs.Common.{List, codes, refl, subst, arith}
use Rattle.std.specs.List.{AllByRecursion}
use Rattle.trs_defs.specs.Path.{PlacedRule}
use Rattle.text_reading.specs.Reading.{keyword}
use Rattle.text_reading.proofs.Made.{Makes, made_part, made_rest, made_list, made_any}
use Rattle.text_reading.proofs.Again.{Spells, spells_part, spells_rest, spells_list, spells_each, spells_keyword}
use Rattle.path_text.specs.Ranges.{IsPlacedInRange}
use Rattle.path_text.specs.Paths.{placed_rule, placed_rule_item, path_steps}
use Rattle.path_text.proofs.PathMade.{placed_rule_made}
use Rattle.path_text.proofs.PathAgain.{placed_rule_again}
use Rattle.peak_text.specs.ParallelStep.{par, par_item}

pub par_made : Makes par (AllByRecursion IsPlacedInRange)
par_made x v e =
    let (h, k, (steps, are, same)) =
    made_list _ _ path_steps
    (made_part (keyword (codes "par")) _ (λ _. Unit {0}) _ (made_any (keyword (codes "par"))) (made_rest placed_rule IsPlacedInRange placed_rule_made))
    x v e
    in
    let P : List PlacedRule → Type 0 = AllByRecursion IsPlacedInRange in
    subst P same are

pub par_again : (steps : List PlacedRule) → AllByRecursion IsPlacedInRange steps → Spells par 3 (par_item steps) steps
par_again steps h =
    spells_list path_steps
    (spells_part 2 path_steps (spells_keyword (codes "par") refl)
    (spells_rest placed_rule (path_steps tt) (spells_each placed_rule placed_rule_item 2 IsPlacedInRange placed_rule_again steps h)) (omega arith) (omega arith))
