-- The terms of entries by their numbers.
use Rattle.std.proofs.Common.{◌≡◌, ℕ, ◌<◌, ◌≤◌, All, List, [], ◌∷◌, ◌++◌, map, take, length, Some, refl, ap, sym, ◌∙◌, zero, suc, arith, slice_get, append_assoc, append-nil}
use Rattle.std.proofs.lemmas.List.{get_or-take}
use Rattle.std.proofs.lemmas.List.Elements.{All-head, All-tail}
use Rattle.std.proofs.lemmas.Option.{slice_get_within, same_Some, slice_get-get_or, get_or_from_slice_get}
use Rattle.trs_defs.specs.Tree.{Tree, var, app, trees}
use Rattle.term_pool.specs.declared.nodes.Node.{Node}
use Rattle.term_pool.specs.declared.nodes.Node.TheVariants.{Var, App}
use Rattle.term_pool.specs.declared.nodes.Measure.{Measure}
use Rattle.term_pool.specs.Pooled.{StandsFor, tree_at}
use Rattle.term_pool.specs.Nodes.{StandsBelow, node_tree}
use Rattle.term_pool.specs.Entries.{trees_over, pool_trees, IsPool}

pub length_over : (ts : List Tree) (es : List (Node × Measure)) → length (trees_over ts es) ≡ length es
length_over ts [] = refl
length_over ts (e ∷ es) = omega (arith, length_over (ts ++ node_tree ts e.0 ∷ []) es)

pub length_pool : (es : List (Node × Measure)) → length (pool_trees es) ≡ length es
length_pool es = length_over [] es

over_take : (ts : List Tree) (n : ℕ) (es : List (Node × Measure)) → trees_over ts (take n es) ≡ take n (trees_over ts es)
over_take ts zero es = refl
over_take ts (suc n) [] = refl
over_take ts (suc n) (e ∷ es) = ap (λ us. node_tree ts e.0 ∷ us) (over_take (ts ++ node_tree ts e.0 ∷ []) n es)

pub pool_take : (n : ℕ) (es : List (Node × Measure)) → pool_trees (take n es) ≡ take n (pool_trees es)
pool_take n es = over_take [] n es

over_more : (ts : List Tree) (es : List (Node × Measure)) (e : Node × Measure)
    → trees_over ts (es ++ e ∷ []) ≡ trees_over ts es ++ node_tree (ts ++ trees_over ts es) e.0 ∷ []
over_more ts [] e = rw (append-nil ts) refl
over_more ts (x ∷ es) e =
    let new : Tree = node_tree ts x.0 in
    let rest = over_more (ts ++ new ∷ []) es e in
    let whole : (ts ++ new ∷ []) ++ trees_over (ts ++ new ∷ []) es ≡ ts ++ new ∷ trees_over (ts ++ new ∷ []) es = append_assoc ts (new ∷ []) (trees_over (ts ++ new ∷ []) es) in
    ap (λ us. new ∷ us) (rest ∙ ap (λ us. trees_over (ts ++ new ∷ []) es ++ node_tree us e.0 ∷ []) whole)

pub pool_more : (es : List (Node × Measure)) (e : Node × Measure) → pool_trees (es ++ e ∷ []) ≡ pool_trees es ++ node_tree (pool_trees es) e.0 ∷ []
pool_more es e = over_more [] es e

-- an item of a list that was cut
pub taken_item : {X : Type 0} (n : ℕ) (xs : List X) (i : ℕ) (y : X) → slice_get (take n xs) i ≡ Some y → slice_get xs i ≡ Some y
taken_item zero xs i y e = absurd cc
taken_item (suc n) [] i y e = absurd cc
taken_item (suc n) (x ∷ xs) zero y e = e
taken_item (suc n) (x ∷ xs) (suc i) y e = taken_item n xs i y e

-- an id below the length stands for its term
pub stands : (ts : List Tree) (i : ℕ) → i < length ts → StandsFor ts i (tree_at ts i)
stands ts i h = slice_get-get_or ts i (var 0) h

pub stands_within : (ts : List Tree) (i : ℕ) (t : Tree) → StandsFor ts i t → i < length ts
stands_within ts i t h = slice_get_within ts i t h

pub stands_at : (ts : List Tree) (i : ℕ) (t : Tree) → StandsFor ts i t → tree_at ts i ≡ t
stands_at ts i t h = get_or_from_slice_get ts i t (var 0) h

-- nodes over lists that agree
pub same_trees_at : (ts us : List Tree) (k : ℕ) (args : List ℕ) → All (λ i. i < k) args → ((i : ℕ) → i < k → tree_at us i ≡ tree_at ts i)
    → map (tree_at us) args ≡ map (tree_at ts) args
same_trees_at ts us k [] h same = refl
same_trees_at ts us k (a ∷ xs) h same =
    let rest : map (tree_at us) xs ≡ map (tree_at ts) xs = same_trees_at ts us k xs (All-tail (λ i. i < k) a xs h) same in
    cc (same a (All-head (λ i. i < k) a xs h))

pub same_node_tree : (ts us : List Tree) (k : ℕ) (n : Node) → StandsBelow k n → ((i : ℕ) → i < k → tree_at us i ≡ tree_at ts i) → node_tree us n ≡ node_tree ts n
same_node_tree ts us k (Var v) h same = refl
same_node_tree ts us k (App f args) h same = ap (λ xs. app f (trees xs)) (same_trees_at ts us k args.items h same)

over_read : (ts : List Tree) (es : List (Node × Measure)) (i : ℕ) (e : Node × Measure) → slice_get es i ≡ Some e
    → slice_get (trees_over ts es) i ≡ Some (node_tree (ts ++ take i (trees_over ts es)) e.0)
over_read ts [] i e h = absurd cc
over_read ts (x ∷ es) zero e h =
    let same : x ≡ e = same_Some x e h in
    rw (append-nil ts, same) refl
over_read ts (x ∷ es) (suc i) e h =
    let new : Tree = node_tree ts x.0 in
    let rest = over_read (ts ++ new ∷ []) es i e h in
    rest ∙ ap (λ us. Some (node_tree us e.0)) (append_assoc ts (new ∷ []) (take i (trees_over (ts ++ new ∷ []) es)))

-- an id stands for its node over the terms of the pool
pub node_stands : (es : List (Node × Measure)) (i : ℕ) (e : Node × Measure) → IsPool es → slice_get es i ≡ Some e → StandsFor (pool_trees es) i (node_tree (pool_trees es) e.0)
node_stands es i e pool h =
    let below : StandsBelow i e.0 = pool.below i e h in
    let same : node_tree (pool_trees es) e.0 ≡ node_tree (take i (pool_trees es)) e.0 =
    same_node_tree (take i (pool_trees es)) (pool_trees es) i e.0 below (λ k l. sym (get_or-take i (pool_trees es) k (var 0) l)) in
    over_read [] es i e h ∙ ap (λ t. Some t) (sym same)

-- a pool that is cut at a mark
pub released : (n : ℕ) (es : List (Node × Measure)) → IsPool es → IsPool (take n es)
released n es pool = record {
  below = λ i e h. pool.below i e (taken_item n es i e h);
  measured = λ i e t h s. pool.measured i e t (taken_item n es i e h) (taken_item n (pool_trees es) i t (rw (pool_take n es) at s));
  distinct = record { same = λ i j t s r. pool.distinct.same i j t (taken_item n (pool_trees es) i t (rw (pool_take n es) at s)) (taken_item n (pool_trees es) j t (rw (pool_take n es) at r)) };
  few = omega (arith, pool.few, length_taken n es);
}
  where
    length_taken : {X : Type 0} (n : ℕ) (xs : List X) → length (take n xs) ≤ length xs
    length_taken zero xs = omega arith
    length_taken (suc n) [] = omega arith
    length_taken (suc n) (x ∷ xs) = omega (arith, length_taken n xs)
