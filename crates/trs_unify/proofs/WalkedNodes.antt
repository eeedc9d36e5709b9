-- Nodes that are walked through for the variables of their terms.
use Rattle.std.proofs.Common.{◌≡◌, ℕ, ◌<◌, Bool, true, false, inl, inr, List, length, Some, IsTrue, sym, ◌∙◌, subst, slice_get, get_or, set, length-set, replicate, arith}
use Rattle.std.proofs.lemmas.List.{get_or-replicate, length-replicate}
use Rattle.std.proofs.lemmas.Option.{slice_get_within, get_or_from_slice_get}
use Rattle.trs_defs.specs.Tree.{Tree}
use Rattle.trs_defs.specs.Variable.{has_var, is_listed, with_variables}
use Rattle.trs_unify.specs.declared.shared.Node.{Node}
use Rattle.trs_unify.specs.Shared.{tree_at, shared_trees}
use Rattle.trs_unify.specs.Walked.{AreWalked}
use Rattle.trs_unify.proofs.ListedVariables.{listed_still, listed_variable, nothing_new}
use Rattle.trs_unify.proofs.Tables.{written}

no_mark : (n i : ℕ) → slice_get (replicate n false) i ≡ Some true → ⊥
no_mark n i e =
    let within : i < n = omega (arith, slice_get_within (replicate n false) i true e, length-replicate n false) in
    let marked : get_or (replicate n false) i true ≡ true = get_or_from_slice_get (replicate n false) i true true e in
    let other : get_or (replicate n false) i true ≡ false = get_or-replicate n i false true within in
    absurd cc

-- nothing is marked
pub none_walked : (nodes : List Node) (marks : List Bool) (order : List ℕ) (n : ℕ) → marks ≡ replicate n false → length marks ≡ length nodes → AreWalked nodes marks order
none_walked nodes marks order n is long = record { long = long; listed = λ i v marked has. absurd (no_mark n i (rw is at marked)) }

module _ (nodes : List Node) (marks : List Bool) (order : List ℕ) (walked : AreWalked nodes marks order) where
  -- the term of a marked node adds nothing
  pub walked_again : (i : ℕ) → slice_get marks i ≡ Some true → order ≡ with_variables order (tree_at (shared_trees nodes) i)
  walked_again i marked = sym (nothing_new order (tree_at (shared_trees nodes) i) (λ v has. walked.listed i v marked has))

  -- another term was added
  pub walked_still : (t : Tree) (more : List ℕ) → more ≡ with_variables order t → AreWalked nodes marks more
  walked_still t more is = record {
    long = walked.long;
    listed = λ i v marked has. rw is (listed_still v t order (walked.listed i v marked has));
  }

  -- one more node is marked, whose term was added
  pub walked_too : (i : ℕ) (old : List ℕ) → order ≡ with_variables old (tree_at (shared_trees nodes) i) → AreWalked nodes (set marks i true) order
  walked_too i old is = record {
    long = length-set marks i true ∙ walked.long;
    listed = λ j v marked has. elim (written marks i j true true marked) as (λ _. IsTrue (is_listed v order)) [
      | inl k ↦ rw is (listed_variable v (tree_at (shared_trees nodes) i) old (subst (λ n. IsTrue (has_var v (tree_at (shared_trees nodes) n))) k.0 has))
      | inr k ↦ walked.listed j v k.1 has
    ];
  }
