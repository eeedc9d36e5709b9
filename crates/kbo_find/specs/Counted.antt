-- The weight of a term by how often its symbols and its variables occur.
use Rattle.std.specs.Prelude.{◌≡◌, ℕ, ◌+◌, ◌*◌, List, sum_by}
use Rattle.trs_defs.specs.Tree.{Tree}
use Rattle.order_theory.specs.KnuthBendix.{weigh}
use Rattle.kbo_find.specs.declared.counts.Count.{Count}
use Rattle.kbo_find.specs.declared.counts.Counts.{Counts}

-- what symbols that occur so often weigh together
abbrev pub total_of : (ℕ → ℕ) → List Count → ℕ
total_of weight counts = sum_by (λ n. n.times * weight n.symbol) counts

-- the same with the variables, which weigh 1 each
abbrev pub total : (ℕ → ℕ) → Counts → ℕ
total weight counts = counts.variables + total_of weight counts.symbols.items

-- whatever the symbols weigh, the term weighs what the counts say
abbrev pub AreCountsOf : Tree → Counts → Type 0
AreCountsOf t counts = (weight : ℕ → ℕ) → weigh weight t ≡ total weight counts
