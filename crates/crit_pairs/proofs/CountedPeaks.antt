-- Sizes of the terms of a peak that is not made.
use Rattle.std.specs.Prelude.{◌≡◌, ◌≤◌, ℕ, ◌+◌, ◌-◌, List, Some, IsTrue, length}
use Rattle.std.proofs.Common.{arith}
use Rattle.std.proofs.lemmas.Bool.{and_from}
use Rattle.trs_defs.specs.Tree.{Tree}
use Rattle.trs_defs.specs.Size.{size_of, within_limits}
use Rattle.trs_defs.specs.Substitution.{apply}
use Rattle.trs_defs.specs.Position.{subterm_at, replaced_at}
use Rattle.trs_defs.proofs.ArgumentLists.{depth_le_size}
use Rattle.trs_defs.proofs.InstancePlaces.{subterm_image, replaced_image}
use Rattle.trs_defs.proofs.Limits.{size_replaced, size_there, depth_replaced_within, limits_depth, limits_kept}
use Rattle.trs_unify.specs.Bindings.{stopped_size}
use Rattle.crit_pairs.specs.Sides.{AreCounted}

-- a term with few nodes is not deep
pub few_are_small : (t : Tree) → stopped_size t ≤ 1024 → IsTrue (within_limits t)
few_are_small t few = limits_kept t (omega (arith, few)) (let le = depth_le_size t in omega (arith, le, few))

module _ (σ : ℕ → Tree) (p : List ℕ) (t part : Tree) (there : subterm_at p t ≡ Some part) where
  pub redex_smaller : (whole redex : ℕ) → whole ≡ size_of (apply σ t) → redex ≡ size_of (apply σ part) → redex ≤ whole
  redex_smaller whole redex whole_is redex_is = omega (arith, whole_is, redex_is, size_there p (apply σ t) (apply σ part) (subterm_image σ p t part there))

  pub reduct_counted : (by right u : Tree) (whole other redex put : ℕ) → replaced_at p t by ≡ Some u → IsTrue (within_limits (apply σ t)) → IsTrue (within_limits (apply σ right))
      → whole ≡ size_of (apply σ t) → other ≡ size_of (apply σ right) → redex ≡ size_of (apply σ part) → put ≡ size_of (apply σ by) → whole - redex + put ≤ 65536 → length p + put ≤ 1024
      → AreCounted (apply σ t) (apply σ u) (apply σ right) (whole + (whole - redex + put) + other)
  reduct_counted by right u whole other redex put is small last whole_is other_is redex_is put_is few shallow =
      let at = subterm_image σ p t part there in
      let e = replaced_image σ p t by u is in
      let sizes = size_replaced p (apply σ t) (apply σ part) (apply σ by) (apply σ u) at e in
      let inside = redex_smaller whole redex whole_is redex_is in
      let reduct : whole - redex + put ≡ size_of (apply σ u) = omega (arith, sizes, inside, whole_is, redex_is, put_is) in
      let deep = (depth_replaced_within p (apply σ t) (apply σ part) (apply σ by) (apply σ u) 1024 at e (limits_depth (apply σ t) small)).1
      (let le = depth_le_size (apply σ by) in omega (arith, le, put_is, shallow)) in
      let fits : IsTrue (within_limits (apply σ u)) = limits_kept (apply σ u) (omega (arith, reduct, few)) deep in
      record {
        small = and_from (within_limits (apply σ t)) _ small (and_from (within_limits (apply σ u)) (within_limits (apply σ right)) fits last);
        counted = omega (arith, reduct, whole_is, other_is);
      }
