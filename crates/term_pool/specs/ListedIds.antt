-- Ids with the paths that lead to them, as terms with these paths.
use Rattle.std.specs.Prelude.{ℕ, List, map}
use Rattle.std.specs.Global.{Vec}
use Rattle.trs_defs.specs.Tree.{Tree}
use Rattle.trs_defs.specs.Path.{PlacedRule}
use Rattle.term_pool.specs.Pooled.{tree_at}
use Rattle.term_pool.specs.Listed.{Listed}

abbrev pub listed : List Tree → ℕ × Vec PlacedRule → Listed
listed pool e = record { term = tree_at pool e.0; path = e.1.items }

abbrev pub listed_at : List Tree → List (ℕ × Vec PlacedRule) → List Listed
listed_at pool es = map (listed pool) es

abbrev pub ids_of : List (ℕ × Vec PlacedRule) → List ℕ
ids_of es = map (λ e. e.0) es
