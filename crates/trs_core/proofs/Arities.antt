-- A term and its arity table.
use Rattle.std.proofs.Common.{◌≡◌, ℕ, ◌↔◌, false, List, map, length, Some, IsTrue, slice_get}
use Rattle.trs_core.specs.declared.terms.Term.{Term}
use Rattle.trs_core.specs.View.{tree, forest}
use Rattle.trs_defs.specs.Tree.{Tree, trees, app}
use Rattle.trs_defs.specs.WellFormed.{IsWellFormed, AreWellFormed}
use Rattle.trs_defs.proofs.ArgumentLists.{count_trees}

-- an application to these arguments
module _ (arities : List ℕ) (f : ℕ) (args : List Tree) (t : Tree) (is : t ≡ app f (trees args)) where
  pub well_formed_app : (ts : List Term) → map tree ts ≡ args → slice_get arities f ≡ Some (length args) → AreWellFormed arities (forest ts) ↔ IsWellFormed arities t
  well_formed_app ts listed there = rw (is, listed, count_trees args) (λ k. (there, k), λ k. k.1)

  pub wrong_count : (slice_get arities f ≡ Some (length args) → ⊥) → IsTrue false ↔ IsWellFormed arities t
  wrong_count other = rw (is, count_trees args) (λ k. absurd cc, λ k. absurd (other k.0))
