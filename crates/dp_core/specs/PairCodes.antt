-- How marked terms and pairs are stored.
use Rattle.std.specs.Prelude.{ℕ, List, refl}
use Rattle.std.specs.Coded.{Coded, code_by, coded×, coded_list, coded_ℕ}
use Rattle.std.proofs.Common.{ap}
use Rattle.trs_defs.specs.Tree.{Tree, trees, items, trees_items, tree_code}
use Rattle.pair_theory.specs.Marked.{Marked, marked}
use Rattle.pair_theory.specs.DependencyPair.{DependencyPair}

-- a marked term is stored as its symbol and the list of its arguments
abbrev pub marked_code : Coded Marked
marked_code =
    code_by (ℕ × List Tree) (coded× coded_ℕ (coded_list tree_code)) (λ m. (m.symbol, items m.args)) (λ p. marked p.0 (trees p.1))
    (λ m. ap (marked m.symbol) (trees_items m.args))

-- a pair is stored as that of its sides
abbrev pub pair_code : Coded DependencyPair
pair_code =
    code_by (Marked × Marked) (coded× marked_code marked_code) (λ p. (p.from, p.to)) (λ c. record { from = c.0; to = c.1 }) (λ _. refl)
