-- The path order with filters that keep all places is a reduction order.
use Rattle.std.proofs.Common.{ℕ, subst, List}
use Rattle.trs_defs.specs.Tree.{Tree}
use Rattle.trs_defs.specs.System.{RewriteRule}
use Rattle.pair_theory.proofs.Subterms.{sub_of_has, has_of_sub}
use Rattle.order_theory.specs.ArgumentFilter.{ArgumentFilter, PathStrict}
use Rattle.order_theory.specs.PathOrder.{PathGreater}
use Rattle.order_theory.proofs.PathPair.{strict_apply}
use Rattle.order_theory.proofs.PathAccessible.{var_least}
use Rattle.order_theory.proofs.PathLaws.{greater_vars}
use Rattle.order_theory.specs.Keeping.{KeepsAllPlaces}
use Rattle.order_theory.proofs.KeptWhole.{greater_of_strict}
use Rattle.order_theory.proofs.Contexts.{oriented_terminates}
use Rattle.path_lpo.specs.Table.{PathEntry, rank_in, filter_in}
use Rattle.completion.specs.GreaterBy.{GreaterBy}
use Rattle.completion.specs.ReductionOrder.{GoesDown, IsReductionOrder}

module _ (arities : List ℕ) (rank : ℕ → ℕ) (filter : ℕ → ArgumentFilter) (keeps : KeepsAllPlaces arities filter) where
  plainly_greater : (r : RewriteRule) → GoesDown arities (PathStrict rank filter) r → PathGreater rank r.left r.right
  plainly_greater r h = greater_of_strict arities filter keeps rank r.left r.right h.left_well_formed h.right_well_formed h.greater_side

  pub path_reduction_order : IsReductionOrder arities (PathStrict rank filter)
  path_reduction_order = record {
    instance = strict_apply rank filter;
    no_variable = λ r h (n, e). (let P : Tree → Type 0 = λ x. PathGreater rank x r.right in var_least (subst P e (plainly_greater r h)));
    variables = λ r h v k. has_of_sub v r.left (greater_vars rank (plainly_greater r h) v (sub_of_has v r.right k));
    terminating = λ rules each. oriented_terminates arities rank filter keeps rules (λ r i. let h = each r i in (h.left_well_formed, h.right_well_formed, h.greater_side));
  }

-- the same of a table
pub reduction_order : (arities : List ℕ) (order : List PathEntry) → KeepsAllPlaces arities (filter_in order) → IsReductionOrder arities (GreaterBy order)
reduction_order arities order keeps = path_reduction_order arities (rank_in order) (filter_in order) keeps
