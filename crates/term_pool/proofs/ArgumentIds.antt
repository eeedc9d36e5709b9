-- The arguments of a term as they get their ids, and terms as they are read.
use Rattle.std.proofs.Common.{◌≡◌, All, ℕ, ◌+◌, ◌<◌, ◌≤◌, List, [], ◌∷◌, ◌++◌, map, take, drop, length, refl, ap, sym, ◌∙◌, zero, suc, arith, get_or}
use Rattle.std.proofs.lemmas.List.{map_more, take_all, map-append}
use Rattle.std.proofs.lemmas.List.Elements.{All-nil, All-push}
use Rattle.trs_defs.specs.Tree.{Tree, app, trees}
use Rattle.trs_defs.specs.Size.{size_of, size_of_all}
use Rattle.trs_defs.proofs.ArgumentLists.{cell}
use Rattle.trs_core.specs.declared.terms.Term.{Term}
use Rattle.trs_core.specs.View.{tree}
use Rattle.term_pool.specs.Pooled.{StandsFor, Extends, tree_at}
use Rattle.term_pool.proofs.PoolTrees.{stands_at, stands_within, same_trees_at}
use Rattle.term_pool.proofs.Adding.{each_below}
use Rattle.term_pool.proofs.Extending.{extends_itself, extends_on, same_tree_at}

-- the nodes of the values of some arguments: their trees, or the instances of these
abbrev pub nodes_of : (Term → Tree) → List Term → ℕ
nodes_of value args = size_of_all (trees (map value args))

-- values that are equal so far, with one more
pub one_more_value : {X Y Z : Type 0} (f : X → Z) (g : Y → Z) (xs : List X) (ys : List Y) (k : ℕ) (x : X) (d : Y) → k < length ys → map f xs ≡ map g (take k ys) → f x ≡ g (get_or ys k d)
    → map f (xs ++ x ∷ []) ≡ map g (take (k + 1) ys)
one_more_value f g xs ys k x d within so_far new =
    let both : map f xs ++ f x ∷ [] ≡ map g (take k ys) ++ g (get_or ys k d) ∷ [] = rw (so_far, new) refl in
    map-append f xs (x ∷ []) ∙ (both ∙ sym (map_more g ys k d within))

-- the values of the first k arguments have these ids
pub record AreMade (value : Term → Tree) (start now : List Tree) (args : List Term) (ids : List ℕ) (k : ℕ) : Type 0 where
  pub kept : Extends start now
  pub below : All (λ i. i < length now) ids
  pub terms : map (tree_at now) ids ≡ map value (take k args)
  pub few : length now + nodes_of value (drop k args) ≤ length start + nodes_of value args

pub none_made : (value : Term → Tree) (start : List Tree) (args : List Term) (ids : List ℕ) → ids ≡ [] → AreMade value start start args ids 0
none_made value start args ids e = rw e (record { kept = extends_itself start; below = All-nil (λ i. i < length start); terms = refl; few = omega arith })

nodes_left : (value : Term → Tree) (xs : List Term) (k : ℕ) → nodes_of value (drop k xs) ≤ nodes_of value xs
nodes_left value xs zero = omega arith
nodes_left value [] (suc k) = omega arith
nodes_left value (x ∷ xs) (suc k) = omega (arith, nodes_left value xs k)

-- the next argument of the term t
module _ (value : Term → Tree) (args : List Term) (k : ℕ) (arg : Term) (within : k < length args) (is : arg ≡ get_or args k arg) where
  pub next_nodes : nodes_of value (drop k args) ≡ size_of (value arg) + nodes_of value (drop (k + 1) args)
  next_nodes = ap (nodes_of value) (cell args k arg within is)

  module _ (t : Tree) (f : ℕ) (whole : t ≡ app f (trees (map value args))) where
    size_whole : size_of t ≡ 1 + nodes_of value args
    size_whole = ap size_of whole

    pub next_smaller : size_of (value arg) < size_of t
    next_smaller = omega (arith, size_whole, nodes_left value args k, next_nodes)

    module _ (start now : List Tree) (ids : List ℕ) (so_far : AreMade value start now args ids k) where
      pub next_few : (next : List Tree) → length next ≤ length now + size_of (value arg) → length next ≤ length start + size_of t
      next_few next h = let few = so_far.few in omega (arith, size_whole, few, next_nodes, h)

  module _ (start now : List Tree) (ids : List ℕ) (so_far : AreMade value start now args ids k)
      (next : List Tree) (id : ℕ) (kept : Extends now next) (stand : StandsFor next id (value arg)) (few : length next ≤ length now + size_of (value arg)) where
    pub one_made : AreMade value start next args (ids ++ id ∷ []) (k + 1)
    one_made =
        let longer : length now ≤ length next = kept.longer in
        let old : map (tree_at next) ids ≡ map (tree_at now) ids = same_trees_at now next (length now) ids so_far.below (same_tree_at now next kept) in
        let new : tree_at next id ≡ value arg = stands_at next id (value arg) stand in
        let was = so_far.few in
        record {
          kept = extends_on start now next so_far.kept kept;
          below = All-push (λ i. i < length next) ids id (each_below (length now) (length next) ids longer so_far.below) (stands_within next id (value arg) stand);
          terms = one_more_value (tree_at next) value ids args k id arg within (old ∙ so_far.terms) (new ∙ ap value is);
          few = omega (arith, was, few, next_nodes);
        }

-- all arguments of the term t have their ids
module _ (value : Term → Tree) (start now : List Tree) (args : List Term) (ids : List ℕ) (k : ℕ) (so_far : AreMade value start now args ids k) (all : length args ≤ k)
    (t : Tree) (f : ℕ) (whole : t ≡ app f (trees (map value args))) where
  pub whole_made : app f (trees (map (tree_at now) ids)) ≡ t
  whole_made =
      let terms : map (tree_at now) ids ≡ map value args = so_far.terms ∙ ap (map value) (take_all k args all) in
      ap (λ ts. app f (trees ts)) terms ∙ sym whole

  pub whole_few : length now + 1 ≤ length start + size_of t
  whole_few =
      let sizes : size_of t ≡ 1 + nodes_of value args = ap size_of whole in
      let few = so_far.few in
      omega (arith, sizes, few)

-- one more argument of a node is read
pub one_read : (ts : List Tree) (args : List ℕ) (k : ℕ) (built : List Term) (t : Term) → k < length args → StandsFor ts (get_or args k 0) (tree t)
    → map tree built ≡ map (tree_at ts) (take k args) → map tree (built ++ t ∷ []) ≡ map (tree_at ts) (take (k + 1) args)
one_read ts args k built t h stand so_far = one_more_value tree (tree_at ts) built args k t 0 h so_far (sym (stands_at ts (get_or args k 0) (tree t) stand))
