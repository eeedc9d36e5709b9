-- Ranks of rules: what is read is in range, and what is printed is read again.
use Rattle.std.proofs.Common.{ℕ, ◌-◌, ◌^◌, List, codes, refl, subst, arith}
use Rattle.std.specs.List.{AllByRecursion}
use Rattle.text_reading.specs.Reading.{keyword}
use Rattle.text_reading.specs.Numbers.{number}
use Rattle.text_reading.specs.Printed.{number_item}
use Rattle.text_reading.proofs.Made.{Makes, made_part, made_rest, made_list, made_number, made_any}
use Rattle.text_reading.proofs.Again.{Spells, spells_part, spells_rest, spells_list, spells_each, spells_keyword, spells_number}
use Rattle.peak_text.specs.RuleRanks.{rule_ranks, ranks, ranks_item}
use Rattle.peak_text.specs.Ranges.{IsRank}

rank_made : Makes (number (2 ^ 63 - 1)) IsRank
rank_made x v e = let le = made_number (2 ^ 63 - 1) x v e in omega (arith, le)

pub ranks_made : Makes ranks (AllByRecursion IsRank)
ranks_made x v e =
    let (h, k, (numbers, are, same)) =
    made_list _ _ rule_ranks
    (made_part (keyword (codes "ranks")) _ (λ _. Unit {0}) _ (made_any (keyword (codes "ranks"))) (made_rest (number (2 ^ 63 - 1)) IsRank rank_made))
    x v e
    in
    let P : List ℕ → Type 0 = AllByRecursion IsRank in
    subst P same are

pub ranks_again : (numbers : List ℕ) → AllByRecursion IsRank numbers → Spells ranks 1 (ranks_item numbers) numbers
ranks_again numbers h =
    spells_list rule_ranks
    (spells_part 0 rule_ranks (spells_keyword (codes "ranks") refl)
    (spells_rest (number (2 ^ 63 - 1)) (rule_ranks tt)
    (spells_each (number (2 ^ 63 - 1)) number_item 0 IsRank (λ n is. spells_number (2 ^ 63 - 1) n (omega (arith, is)) (omega (arith, is))) numbers h))
    (omega arith) (omega arith))
