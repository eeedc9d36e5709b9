-- Terms compare as their pair does.
use Rattle.std.proofs.Common.{ℕ, subst}
use Rattle.trs_defs.specs.Tree.{Tree}
use Rattle.path_lpo.specs.Comparison.{IsComparison}
use Rattle.path_lpo.specs.SharedPair.{ArePair, left_tree, right_tree}
use Rattle.path_lpo.specs.declared.comparison.Comparison.{Comparison}
use Rattle.path_lpo.specs.declared.pair.SharedPair.{SharedPair}

pub pair_compares : (rank : ℕ → ℕ) (s t : Tree) (pair : SharedPair) → ArePair s t pair → (c : Comparison) → IsComparison rank (left_tree pair) (right_tree pair) c → IsComparison rank s t c
pair_compares rank s t pair are c h = subst (λ u. IsComparison rank u t c) are.left_is (subst (λ u. IsComparison rank (left_tree pair) u c) are.right_is h)
