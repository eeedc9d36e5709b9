-- The occurrences of symbols and of variables, in ascending lists.
use Rattle.std.specs.Prelude.{◌≡◌, ℕ, ◌≤◌, ◌==◌, List, count_by}
use Rattle.std.specs.List.Sorted.{IsPermutation, IsNonDecreasing}
use Rattle.trs_defs.specs.Tree.{Tree}
use Rattle.trs_defs.specs.Variable.{occurrences}
use Rattle.trs_core.specs.Occurrences.{occurring_in}
use Rattle.order_search.specs.dp_core.Symbols.{symbols_of}
use Rattle.kbo_find.specs.declared.occurrences.Occurrences.{Occurrences}

-- the symbols and the variables of the term, each as often as it occurs
pub record AreOccurrences (t : Tree) (all : Occurrences) : Type 0 where
  pub symbols : IsPermutation (symbols_of t) all.symbols.items
  pub variables : IsPermutation (occurring_in t) all.variables.items
  pub ascending : IsNonDecreasing all.variables.items

-- how often the number stands in the list
abbrev pub times_in : ℕ → List ℕ → ℕ
times_in v ns = count_by (λ n. n == v) ns

-- each variable stands in the list as often as it occurs in the term
abbrev pub ListsVariables : Tree → List ℕ → Type 0
ListsVariables t ns = (v : ℕ) → times_in v ns ≡ occurrences v t

-- each number stands in the first list at least as often as in the second
abbrev pub StandAsOften : List ℕ → List ℕ → Type 0
StandAsOften many few = (v : ℕ) → times_in v few ≤ times_in v many
