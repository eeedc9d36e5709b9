-- The arguments of a node as their terms get ids in a pool that grows.
use Rattle.std.proofs.Common.{◌≡◌, All, ℕ, ◌+◌, ◌<◌, ◌≤◌, List, [], ◌∷◌, ◌++◌, map, take, length, Some, slice_get, suc, refl, ap, sym, ◌∙◌, arith, take-suc}
use Rattle.std.proofs.lemmas.List.{take_all, map-append}
use Rattle.std.proofs.lemmas.List.Elements.{All-push}
use Rattle.std.proofs.lemmas.Option.{slice_get_within, get_or_from_slice_get}
use Rattle.trs_defs.specs.Tree.{Tree, app, trees}
use Rattle.term_pool.specs.Pooled.{StandsFor, Extends, tree_at}
use Rattle.term_pool.proofs.PoolTrees.{stands_at, stands_within, same_trees_at}
use Rattle.term_pool.proofs.Adding.{each_below}
use Rattle.term_pool.proofs.Extending.{extends_on, same_tree_at}

-- the first k terms have these ids
pub record AreTaken (us start now : List Tree) (ids : List ℕ) (k : ℕ) : Type 0 where
  pub kept : Extends start now
  pub below : All (λ i. i < length now) ids
  pub terms : map (tree_at now) ids ≡ take k us

taken_next : {T : Type 0} (xs : List T) (k : ℕ) (x : T) → slice_get xs k ≡ Some x → take (k + 1) xs ≡ take k xs ++ x ∷ []
taken_next xs k x there =
    let n : k + 1 ≡ suc k = omega arith in
    ap (λ m. take m xs) n ∙ (take-suc xs k x (slice_get_within xs k x there) ∙ ap (λ y. take k xs ++ y ∷ []) (get_or_from_slice_get xs k x x there))

pub one_taken : (us start now next : List Tree) (ids : List ℕ) (k id : ℕ) (u : Tree) → slice_get us k ≡ Some u → AreTaken us start now ids k
    → Extends now next → StandsFor next id u → AreTaken us start next (ids ++ id ∷ []) (k + 1)
one_taken us start now next ids k id u there so_far kept stand =
    let old : map (tree_at next) ids ≡ map (tree_at now) ids = same_trees_at now next (length now) ids so_far.below (same_tree_at now next kept) in
    let new : tree_at next id ≡ u = stands_at next id u stand in
    let both : map (tree_at next) ids ++ tree_at next id ∷ [] ≡ take k us ++ u ∷ [] = rw (old ∙ so_far.terms, new) refl in
    record {
      kept = extends_on start now next so_far.kept kept;
      below = All-push (λ i. i < length next) ids id (each_below (length now) (length next) ids kept.longer so_far.below) (stands_within next id u stand);
      terms = map-append (tree_at next) ids (id ∷ []) ∙ (both ∙ sym (taken_next us k u there));
    }

-- a symbol over all of them
pub all_taken : (us start now : List Tree) (ids : List ℕ) (k f : ℕ) → AreTaken us start now ids k → length us ≤ k → app f (trees (map (tree_at now) ids)) ≡ app f (trees us)
all_taken us start now ids k f so_far all = ap (λ ts. app f (trees ts)) (so_far.terms ∙ take_all k us all)
