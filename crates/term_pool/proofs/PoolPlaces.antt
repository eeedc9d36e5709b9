-- Arguments of ids by their places.
use Rattle.std.proofs.Common.{◌≡◌, ◌≢◌, ℕ, ◌+◌, ◌-◌, ◌<◌, ◌≤◌, List, [], ◌∷◌, ◌++◌, map, take, length, Option, Some, None, refl, ap, sym, ◌∙◌, zero, suc, arith, slice_get, slice_set, get_or, sub-one, drop, length-set, Result, Ok, Err, IfOk}
use Rattle.std.specs.Borrow.{Bor}
use Rattle.std.specs.Option.{option_map, option_copied}
use Rattle.std.specs.Slice.{IsItemAt}
use Rattle.smallvec.specs.SmallVec.{SmallVec}
use Rattle.term_pool.specs.declared.nodes.Node.{Node}
use Rattle.term_pool.specs.declared.nodes.Node.TheVariants.{Var, App}
use Rattle.std.proofs.lemmas.Option.{slice_get-map, slice_get_read, slice_get_past, same_Some}
use Rattle.std.proofs.lemmas.List.{take_all, length-map}
use Rattle.trs_defs.proofs.Positions.{IsReplacedInside, replaced_inside}
use Rattle.trs_core.specs.declared.memory.OutOfMemory.{OutOfMemory}
use Rattle.trs_defs.specs.Tree.{Tree, Trees, var, app, trees, items, trees_items, items_trees}
use Rattle.trs_defs.specs.Position.{argument_at, with_argument, replaced_at}
use Rattle.term_pool.specs.Pooled.{StandsFor, Extends, tree_at}
use Rattle.term_pool.specs.Placing.{HasPut}
use Rattle.term_pool.specs.Nodes.{node_tree}
use Rattle.term_pool.proofs.PoolTrees.{stands, stands_at, stands_within}
use Rattle.term_pool.proofs.Extending.{same_tree_at}

pub argument_past : (pool : List Tree) (f : ℕ) (ids : List ℕ) (place : ℕ) → place ≢ 0
    → option_map (tree_at pool) (slice_get ids (place - 1)) ≡ argument_at (app f (trees (map (tree_at pool) ids))) place
argument_past pool f ids zero h = absurd (h refl)
argument_past pool f ids (suc i) h = rw (sub-one, items_trees (map (tree_at pool) ids)) (sym (slice_get-map (tree_at pool) ids i))

pub copied_item : (xs : List ℕ) (i : ℕ) (r : Option (Bor ℕ)) → IsItemAt xs i r → option_copied r ≡ slice_get xs i
copied_item xs i None h = sym (slice_get_past xs i h.3)
copied_item xs i (Some x) h = sym (slice_get_read xs (length xs) i x.now refl h.3.0 h.1)

-- the term of an id whose node is a symbol
pub id_tree : (pool : List Tree) (id g : ℕ) (n : Node) (args : SmallVec ℕ) (xs : List ℕ) → StandsFor pool id (node_tree pool n) → n ≡ App g args → xs ≡ args.items
    → tree_at pool id ≡ app g (trees (map (tree_at pool) xs))
id_tree pool id g n args xs stand is same = stands_at pool id (node_tree pool n) stand ∙ (ap (node_tree pool) is ∙ ap (λ ys. app g (trees (map (tree_at pool) ys))) (sym same))

pub id_variable : (pool : List Tree) (id v : ℕ) (n : Node) → StandsFor pool id (node_tree pool n) → n ≡ Var v → tree_at pool id ≡ var v
id_variable pool id v n stand is = stands_at pool id (node_tree pool n) stand ∙ ap (node_tree pool) is

pub argument_count : (pool : List Tree) (id g : ℕ) (n : Node) (args : SmallVec ℕ) (xs : List ℕ) → StandsFor pool id (node_tree pool n) → n ≡ App g args → xs ≡ args.items
    → (f : ℕ) (ts : Trees) → tree_at pool id ≡ app f ts → length xs ≡ length (items ts)
argument_count pool id g n args xs stand is same f ts e =
    let whole : app f ts ≡ app g (trees (map (tree_at pool) xs)) = sym e ∙ id_tree pool id g n args xs stand is same in
    let list : ts ≡ trees (map (tree_at pool) xs) = cc in
    sym (ap length (ap items list ∙ items_trees (map (tree_at pool) xs)) ∙ length-map xs (tree_at pool))

pub argument_of : (pool : List Tree) (id g place i : ℕ) (n : Node) (args : SmallVec ℕ) (xs : List ℕ) (r : Option (Bor ℕ)) (o : Option ℕ)
    → StandsFor pool id (node_tree pool n) → n ≡ App g args → xs ≡ args.items → place ≢ 0 → i ≡ place - 1 → IsItemAt xs i r → o ≡ option_copied r
    → option_map (tree_at pool) o ≡ argument_at (tree_at pool id) place
argument_of pool id g place i n args xs r o stand is same h e item copy =
    let t = id_tree pool id g n args xs stand is same in
    rw (t, copy, copied_item xs i r item, e) (argument_past pool g xs place h)

-- the arguments with another one at a place
abbrev pub set_place : List ℕ → ℕ → ℕ → List ℕ
set_place ids zero by = ids
set_place ids (suc i) by = slice_set ids i by

next_set : (ids : List ℕ) (k place by x : ℕ) → k < length ids → (place ≡ suc k → x ≡ by) → (place ≢ suc k → x ≡ get_or ids k 0)
    → take (suc k) (set_place ids place by) ≡ take k (set_place ids place by) ++ x ∷ []
next_set [] k place by x h here other = absurd (omega arith)
next_set (a ∷ ids) zero zero by x h here other = let is : x ≡ a = other (λ e. omega (arith, e)) in rw is refl
next_set (a ∷ ids) zero (suc zero) by x h here other = let is : x ≡ by = here refl in rw is refl
next_set (a ∷ ids) zero (suc (suc i)) by x h here other = let is : x ≡ a = other (λ e. omega (arith, e)) in rw is refl
next_set (a ∷ ids) (suc k) zero by x h here other =
    ap (λ xs. a ∷ xs) (next_set ids k zero by x (omega arith) (λ e. absurd (omega (arith, e))) (λ e. other (λ e. omega (arith, e))))
next_set (a ∷ ids) (suc k) (suc zero) by x h here other =
    ap (λ xs. by ∷ xs) (next_set ids k zero by x (omega arith) (λ e. absurd (omega (arith, e))) (λ e. other (λ e. omega (arith, e))))
next_set (a ∷ ids) (suc k) (suc (suc i)) by x h here other =
    ap (λ xs. a ∷ xs) (next_set ids k (suc i) by x (omega arith) (λ e. here (omega (arith, e))) (λ e. other (λ l. e (omega (arith, l)))))

pub one_set : (ids : List ℕ) (k place by x : ℕ) → k < length ids → (place ≡ k + 1 → x ≡ by) → (place ≢ k + 1 → x ≡ get_or ids k 0)
    → take (k + 1) (set_place ids place by) ≡ take k (set_place ids place by) ++ x ∷ []
one_set ids k place by x h here other =
    let e : k + 1 ≡ suc k = omega arith in
    rw e (next_set ids k place by x h (λ l. here (omega (arith, l))) (λ l. other (λ m. l (omega (arith, m)))))

map_set : (pool : List Tree) (ids : List ℕ) (i by : ℕ) → map (tree_at pool) (slice_set ids i by) ≡ slice_set (map (tree_at pool) ids) i (tree_at pool by)
map_set pool [] i by = refl
map_set pool (a ∷ ids) zero by = refl
map_set pool (a ∷ ids) (suc i) by = ap (λ ts. tree_at pool a ∷ ts) (map_set pool ids i by)

pub set_tree : (pool : List Tree) (f : ℕ) (ids : List ℕ) (place by : ℕ)
    → app f (trees (map (tree_at pool) (set_place ids place by))) ≡ with_argument (app f (trees (map (tree_at pool) ids))) place (tree_at pool by)
set_tree pool f ids zero by = refl
set_tree pool f ids (suc i) by = rw (items_trees (map (tree_at pool) ids)) (ap (λ ts. app f (trees ts)) (map_set pool ids i by))

length_set : (ids : List ℕ) (place by : ℕ) → length (set_place ids place by) ≡ length ids
length_set ids zero by = refl
length_set ids (suc i) by = length-set ids i by

-- the new arguments, when all are done
module _ (pool : List Tree) (id g place by k : ℕ) (n : Node) (args : SmallVec ℕ) (ids xs : List ℕ)
    (stand : StandsFor pool id (node_tree pool n)) (is : n ≡ App g args) (same : ids ≡ args.items)
    (so_far : xs ≡ take k (set_place ids place by)) (all : length ids ≤ k) where
  pub placed : app g (trees (map (tree_at pool) xs)) ≡ with_argument (tree_at pool id) place (tree_at pool by)
  placed =
      let t = id_tree pool id g n args ids stand is same in
      let whole : xs ≡ set_place ids place by = so_far ∙ take_all k (set_place ids place by) (omega (arith, all, length_set ids place by)) in
      rw (whole, t) (set_tree pool g ids place by)

pub variable_kept : (pool : List Tree) (id v place by : ℕ) (n : Node) → id < length pool → StandsFor pool id (node_tree pool n) → n ≡ Var v
    → StandsFor pool id (with_argument (tree_at pool id) place (tree_at pool by))
variable_kept pool id v place by n h stand is =
    let e = id_variable pool id v n stand is in
    let whole : tree_at pool id ≡ with_argument (tree_at pool id) place (tree_at pool by) = e ∙ sym (ap (λ t. with_argument t place (tree_at pool by)) e) in
    stands pool id h ∙ ap (λ t. Some t) whole

-- the rest of a way
split : (xs : List ℕ) → 0 < length xs → xs ≡ get_or xs 0 0 ∷ take (length xs - 1) (drop 1 xs)
split [] h = absurd (omega arith)
split (x ∷ xs) h = ap (λ ys. x ∷ ys) (sym (take_all (length (x ∷ xs) - 1) xs (omega arith)))

pub rest_shorter : (xs : List ℕ) → 0 < length xs → 1 + length (take (length xs - 1) (drop 1 xs)) ≡ length xs
rest_shorter xs h = let e : length xs ≡ length (get_or xs 0 0 ∷ take (length xs - 1) (drop 1 xs)) = ap length (split xs h) in omega (arith, e)

set_item : (xs : List Tree) (i : ℕ) (a u : Tree) → slice_get xs i ≡ Some a → slice_get (slice_set xs i u) i ≡ Some u
set_item [] i a u e = absurd cc
set_item (x ∷ xs) zero a u e = refl
set_item (x ∷ xs) (suc i) a u e = set_item xs i a u e

pub argument_set : (t : Tree) (place : ℕ) (a u : Tree) → argument_at t place ≡ Some a → argument_at (with_argument t place u) place ≡ Some u
argument_set (var n) place a u e = absurd cc
argument_set (app f ts) zero a u e = absurd cc
argument_set (app f ts) (suc i) a u e = rw (items_trees (slice_set (items ts) i u)) (set_item (items ts) i a u e)

set_same : (xs : List Tree) (i : ℕ) (a : Tree) → slice_get xs i ≡ Some a → slice_set xs i a ≡ xs
set_same [] i a e = absurd cc
set_same (x ∷ xs) zero a e = ap (λ y. y ∷ xs) (sym (same_Some x a e))
set_same (x ∷ xs) (suc i) a e = ap (λ ys. x ∷ ys) (set_same xs i a e)

argument_kept : (t : Tree) (place : ℕ) (a : Tree) → argument_at t place ≡ Some a → with_argument t place a ≡ t
argument_kept (var n) place a e = refl
argument_kept (app f ts) zero a e = refl
argument_kept (app f ts) (suc i) a e = ap (λ us. app f us) (ap trees (set_same (items ts) i a e) ∙ trees_items ts)

module _ (pool : List Tree) (xs : List ℕ) (id by : ℕ) (some : 0 < length xs) (h : HasPut pool xs id by) where
  inside : IsReplacedInside (get_or xs 0 0) (take (length xs - 1) (drop 1 xs)) (tree_at pool id) (tree_at pool by) h.result
  inside = replaced_inside (get_or xs 0 0) (take (length xs - 1) (drop 1 xs)) (tree_at pool id) (tree_at pool by) h.result
      (ap (λ ys. replaced_at ys (tree_at pool id) (tree_at pool by)) (sym (split xs some)) ∙ h.put)

  pub some_argument : None ≡ argument_at (tree_at pool id) (get_or xs 0 0) → ⊥
  some_argument e = let there = inside.there in absurd cc

  module _ (part : ℕ) (is : Some (tree_at pool part) ≡ argument_at (tree_at pool id) (get_or xs 0 0)) where
    same_part : inside.argument ≡ tree_at pool part
    same_part = same_Some inside.argument (tree_at pool part) (sym inside.there ∙ sym is)

    rest_put : replaced_at (take (length xs - 1) (drop 1 xs)) (tree_at pool part) (tree_at pool by) ≡ Some inside.changed
    rest_put = ap (λ t. replaced_at (take (length xs - 1) (drop 1 xs)) t (tree_at pool by)) (sym same_part) ∙ inside.below

    pub put_part : HasPut pool (take (length xs - 1) (drop 1 xs)) part by
    put_part = record { result = inside.changed; put = rest_put }

    module _ (next : List Tree) (changed : ℕ) (extends : Extends pool next) (within : id < length pool)
        (made : replaced_at (take (length xs - 1) (drop 1 xs)) (tree_at pool part) (tree_at pool by) ≡ Some (tree_at next changed)) where
      pub whole_put : with_argument (tree_at next id) (get_or xs 0 0) (tree_at next changed) ≡ h.result
      whole_put =
          let same : inside.changed ≡ tree_at next changed = same_Some inside.changed (tree_at next changed) (sym rest_put ∙ made) in
          let old : tree_at next id ≡ tree_at pool id = same_tree_at pool next extends id within in
          rw (old, ← same) inside.whole

      pub is_put : (last : List Tree) (r : Result ℕ OutOfMemory) → IfOk r (λ new. StandsFor last new (with_argument (tree_at next id) (get_or xs 0 0) (tree_at next changed)))
          → IfOk r (λ new. replaced_at xs (tree_at pool id) (tree_at pool by) ≡ Some (tree_at last new))
      is_put last (Ok new) s = h.put ∙ ap (λ t. Some t) (sym whole_put ∙ sym (stands_at last new _ s))
      is_put last (Err e) s = tt

      -- where the subterm stays, the term stays
      pub put_kept : part < length pool → changed ≡ part → replaced_at xs (tree_at pool id) (tree_at pool by) ≡ Some (tree_at next id)
      put_kept there same =
          let old : tree_at next id ≡ tree_at pool id = same_tree_at pool next extends id within in
          let stays : tree_at next changed ≡ tree_at pool part = ap (tree_at next) same ∙ same_tree_at pool next extends part there in
          let whole : with_argument (tree_at next id) (get_or xs 0 0) (tree_at next changed) ≡ tree_at next id =
          rw (old, stays) (argument_kept (tree_at pool id) (get_or xs 0 0) (tree_at pool part) (sym is)) in
          h.put ∙ ap (λ t. Some t) (sym whole_put ∙ whole)

pub put_here : (pool : List Tree) (xs : List ℕ) (id by : ℕ) → length xs < 1 → replaced_at xs (tree_at pool id) (tree_at pool by) ≡ Some (tree_at pool by)
put_here pool [] id by h = refl
put_here pool (x ∷ xs) id by h = absurd (omega arith)

pub is_there : (last : List Tree) (r : Result ℕ OutOfMemory) (t : Tree) → IfOk r (λ new. StandsFor last new t) → IfOk r (λ new. new < length last)
is_there last (Ok new) t s = stands_within last new t s
is_there last (Err e) t s = tt
