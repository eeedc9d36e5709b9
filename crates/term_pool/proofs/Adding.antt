-- A node that is looked up or added.
use Rattle.std.proofs.Common.{◌≡◌, All, ℕ, ◌+◌, ◌-◌, ◌<◌, ◌≤◌, ◌^◌, min, Bool, true, false, ◌⊎◌, inl, inr, List, [], ◌∷◌, ◌++◌, map, length, Some, None, is_some, not, nat_lt, position, subst, refl, ap, sym, ◌∙◌, arith, slice_get, get_or, length-append, cond, if◌then◌else◌, zero, suc}
use Rattle.std.proofs.lemmas.Option.{same_Some, slice_get_within, slice_get-get_or}
use Rattle.std.proofs.lemmas.List.Elements.{All-head, All-tail, All-weaker}
use Rattle.std.specs.List.{position_or_len}
use Rattle.smallvec.specs.SmallVec.{SmallVec}
use Rattle.std.specs.Map.{keys_of, lookup}
use Rattle.indexmap.specs.IndexMap.{insert_entry}
use Rattle.trs_defs.specs.Tree.{Tree, trees}
use Rattle.trs_defs.specs.Size.{size_of, depth_of}
use Rattle.trs_defs.proofs.ArgumentLists.{same_trees}
use Rattle.trs_defs.proofs.ListItems.{item_of_more, old_item, last_item}
use Rattle.term_pool.specs.declared.nodes.Node.{Node}
use Rattle.term_pool.specs.declared.nodes.Node.TheVariants.{Var, App}
use Rattle.term_pool.specs.declared.nodes.Measure.{Measure}
use Rattle.term_pool.specs.Pooled.{StandsFor, Extends, AreDistinct, tree_at}
use Rattle.term_pool.specs.Nodes.{StandsBelow, node_tree}
use Rattle.term_pool.specs.Entries.{pool_trees, IsPool, IsMeasure}
use Rattle.term_pool.proofs.PoolTrees.{pool_more, stands, stands_within}
use Rattle.term_pool.proofs.PoolReads.{reads, same_length}

clash : (b : Bool) → b ≡ false → b ≡ true → ⊥
clash true f t = absurd cc
clash false f t = absurd cc

index_read : (b : Bool) (k i : ℕ) → cond b (Some k) None ≡ Some i → k ≡ i
index_read true k i e = same_Some k i e
index_read false k i e = absurd cc

-- a look-up that finds nothing, and one that finds an index
module _ {X : Type 0} (eq : Node → Node → Bool) (n : Node) where
  pub goes_last : (es : List (Node × X)) (x : X) → is_some (lookup (eq n) es) ≡ false → insert_entry eq es n x ≡ es ++ (n, x) ∷ []
  goes_last [] x h = refl
  goes_last (e ∷ es) x h = go (eq n e.0) h (goes_last es x)
    where
      go : (b : Bool) → is_some (cond b (Some e.1) (lookup (eq n) es)) ≡ false → (is_some (lookup (eq n) es) ≡ false → insert_entry eq es n x ≡ es ++ (n, x) ∷ [])
          → (if b then (e.0, x) ∷ es else e ∷ insert_entry eq es n x) ≡ e ∷ es ++ (n, x) ∷ []
      go true k rest = absurd cc
      go false k rest = ap (λ fs. e ∷ fs) (rest k)

  pub none_found : (es : List (Node × X)) (i : ℕ) (e : Node × X) → is_some (lookup (eq n) es) ≡ false → slice_get es i ≡ Some e → eq n e.0 ≡ true → ⊥
  none_found [] i e h at is = absurd cc
  none_found (x ∷ es) i e h at is = go (eq n x.0) refl h i at (λ k j there. none_found es j e k there is)
    where
      go : (b : Bool) → eq n x.0 ≡ b → is_some (cond b (Some x.1) (lookup (eq n) es)) ≡ false → (i : ℕ) → slice_get (x ∷ es) i ≡ Some e
          → (is_some (lookup (eq n) es) ≡ false → (j : ℕ) → slice_get es j ≡ Some e → ⊥) → ⊥
      go true b k i at rest = absurd cc
      go false b k zero at rest = let same : x ≡ e = same_Some x e at in absurd (clash (eq n e.0) (rw same at b) is)
      go false b k (suc i) at rest = rest k i at

  -- the index of a look-up
  last_index : (es : List (Node × X)) → is_some (lookup (eq n) es) ≡ false → position_or_len (eq n) (keys_of es) ≡ length es
  last_index [] h = refl
  last_index (e ∷ es) h = go (eq n e.0) h (last_index es)
    where
      go : (b : Bool) → is_some (cond b (Some e.1) (lookup (eq n) es)) ≡ false → (is_some (lookup (eq n) es) ≡ false → position_or_len (eq n) (keys_of es) ≡ length es)
          → cond (not b) (1 + position_or_len (eq n) (keys_of es)) 0 ≡ suc (length es)
      go true k rest = absurd cc
      go false k rest = let tail = rest k in omega (arith, tail)

  found_index : (es : List (Node × X)) → is_some (lookup (eq n) es) ≡ true → (e : Node × X) × (slice_get es (position_or_len (eq n) (keys_of es)) ≡ Some e) × (eq n e.0 ≡ true)
  found_index [] h = absurd cc
  found_index (e ∷ es) h = go (eq n e.0) refl h (found_index es)
    where
      go : (b : Bool) → eq n e.0 ≡ b → is_some (cond b (Some e.1) (lookup (eq n) es)) ≡ true
          → (is_some (lookup (eq n) es) ≡ true → (f : Node × X) × (slice_get es (position_or_len (eq n) (keys_of es)) ≡ Some f) × (eq n f.0 ≡ true))
          → (f : Node × X) × (slice_get (e ∷ es) (cond (not b) (1 + position_or_len (eq n) (keys_of es)) 0) ≡ Some f) × (eq n f.0 ≡ true)
      go true is k rest = (e, refl, is)
      go false is k rest =
          let tail = rest k in
          let next : 1 + position_or_len (eq n) (keys_of es) ≡ suc (position_or_len (eq n) (keys_of es)) = omega arith in
          (tail.0, ap (slice_get (e ∷ es)) next ∙ tail.1, tail.2)

  -- a key that is there keeps its value, if that is written again
  unchanged : (es : List (Node × X)) (x : X) → ((i : ℕ) (e : Node × X) → slice_get es i ≡ Some e → eq n e.0 ≡ true → e.1 ≡ x)
      → is_some (lookup (eq n) es) ≡ true → insert_entry eq es n x ≡ es
  unchanged [] x same h = absurd cc
  unchanged (e ∷ es) x same h = go (eq n e.0) refl h (unchanged es x (λ i f at is. same (suc i) f at is))
    where
      go : (b : Bool) → eq n e.0 ≡ b → is_some (cond b (Some e.1) (lookup (eq n) es)) ≡ true → (is_some (lookup (eq n) es) ≡ true → insert_entry eq es n x ≡ es)
          → (if b then (e.0, x) ∷ es else e ∷ insert_entry eq es n x) ≡ e ∷ es
      go true is k rest = ap (λ y. (e.0, y) ∷ es) (sym (same zero e refl is))
      go false is k rest = ap (λ fs. e ∷ fs) (rest k)

-- arguments that stand for the same terms are the same ids
same_ids : (ts : List Tree) (distinct : AreDistinct ts) (xs ys : List ℕ) → All (λ i. i < length ts) xs → All (λ i. i < length ts) ys
    → map (tree_at ts) xs ≡ map (tree_at ts) ys → xs ≡ ys
same_ids ts distinct [] [] h k e = refl
same_ids ts distinct [] (y ∷ ys) h k e = absurd cc
same_ids ts distinct (x ∷ xs) [] h k e = absurd cc
same_ids ts distinct (x ∷ xs) (y ∷ ys) h k e =
    let first : tree_at ts x ≡ tree_at ts y = cc in
    let below : ℕ → Type 0 = λ i. i < length ts in
    let here : x ≡ y = distinct.same x y (tree_at ts x) (stands ts x (All-head below x xs h)) (rw first (stands ts y (All-head below y ys k))) in
    let rest : xs ≡ ys = same_ids ts distinct xs ys (All-tail below x xs h) (All-tail below y ys k) cc in
    cc

pub each_below : (m n : ℕ) (xs : List ℕ) → m ≤ n → All (λ i. i < m) xs → All (λ i. i < n) xs
each_below m n xs l h = All-weaker (λ i. i < m) (λ i. i < n) (λ i k. omega (arith, l, k)) xs h

pub stands_below_more : (m n : ℕ) (k : Node) → m ≤ n → StandsBelow m k → StandsBelow n k
stands_below_more m n (Var v) l h = tt
stands_below_more m n (App f args) l h = each_below m n args.items l h

-- `==` on nodes, as far as it is needed
pub record IsNodeEquality (eq : Node → Node → Bool) : Type 0 where
  pub sound : (ts : List Tree) (m n : Node) → eq m n ≡ true → node_tree ts m ≡ node_tree ts n
  pub variables : (v : ℕ) → eq (Var v) (Var v) ≡ true
  pub symbols : (f : ℕ) (a b : SmallVec ℕ) → a.items ≡ b.items → eq (App f a) (App f b) ≡ true

-- the entries with the node at an index
pub record IsEntered (view : List Tree) (n : Node) (index : ℕ) (es : List (Node × Measure)) : Type 0 where
  pub pool : IsPool es
  pub stands : StandsFor (pool_trees es) index (node_tree view n)
  pub extends : Extends view (pool_trees es)
  pub few : length (pool_trees es) ≤ length view + 1

abbrev measure_of : ℕ → ℕ → Measure
measure_of s d = record { size = s; depth = d }

-- nodes with equal terms are equal
module _ (eq : Node → Node → Bool) (laws : IsNodeEquality eq) where
  same_node : (ts : List Tree) (m n : Node) → AreDistinct ts → StandsBelow (length ts) m → StandsBelow (length ts) n → node_tree ts m ≡ node_tree ts n → eq m n ≡ true
  same_node ts (Var v) (Var w) distinct h k e = let same : v ≡ w = cc in rw same (laws.variables w)
  same_node ts (Var v) (App g b) distinct h k e = absurd cc
  same_node ts (App f a) (Var w) distinct h k e = absurd cc
  same_node ts (App f a) (App g b) distinct h k e =
      let root : f ≡ g = cc in
      let args : trees (map (tree_at ts) a.items) ≡ trees (map (tree_at ts) b.items) = cc in
      let ids : a.items ≡ b.items = same_ids ts distinct a.items b.items h k (same_trees (map (tree_at ts) a.items) (map (tree_at ts) b.items) args) in
      rw root (laws.symbols g a b ids)

  module _ (es : List (Node × Measure)) (view : List Tree) (pool : IsPool es) (is : pool_trees es ≡ view) (n : Node) where
    module _ (m : Measure) (below : StandsBelow (length view) n) (measure : IsMeasure (node_tree view n) m)
        (room : length view + 1 < 2 ^ 32) (none : is_some (lookup (eq n) es) ≡ false) where
      distinct_view : AreDistinct view
      distinct_view = rw (← is) pool.distinct

      new_tree : (i : ℕ) → StandsFor view i (node_tree view n) → ⊥
      new_tree i s =
          let within : i < length es = omega (arith, stands_within view i (node_tree view n) s, same_length es view pool is) in
          let e : Node × Measure = get_or es i (n, m) in
          let there : slice_get es i ≡ Some e = slice_get-get_or es i (n, m) within in
          let read : StandsFor view i (node_tree view e.0) = reads es view pool is i e (sym there) in
          let same : node_tree view n ≡ node_tree view e.0 = same_Some (node_tree view n) (node_tree view e.0) (sym s ∙ read) in
          let old : StandsBelow (length view) e.0 = stands_below_more i (length view) e.0 (omega (arith, within, same_length es view pool is)) (pool.below i e there) in
          none_found eq n es i e none there (same_node view n e.0 distinct_view below old same)

      more_trees : pool_trees (es ++ (n, m) ∷ []) ≡ view ++ node_tree view n ∷ []
      more_trees = rw (← is) (pool_more es (n, m))

      extends : Extends view (pool_trees (es ++ (n, m) ∷ []))
      extends = rw more_trees (record { longer = omega (arith, length-append view (node_tree view n ∷ [])); kept = λ i t h. old_item view (node_tree view n) t i h })

      few_more : length (pool_trees (es ++ (n, m) ∷ [])) ≤ length view + 1
      few_more = rw more_trees (omega (arith, length-append view (node_tree view n ∷ [])))

      new_stands : StandsFor (pool_trees (es ++ (n, m) ∷ [])) (length view) (node_tree view n)
      new_stands = rw more_trees (last_item view (node_tree view n) [])

      last_below : StandsBelow (length es) n
      last_below = rw (same_length es view pool is) below

      more_item : (i : ℕ) (t : Tree) → StandsFor (pool_trees (es ++ (n, m) ∷ [])) i t → (StandsFor view i t) ⊎ ((i ≡ length view) × (t ≡ node_tree view n))
      more_item i t s = item_of_more view (node_tree view n) t i (rw more_trees at s)

      more_below : (i : ℕ) (e : Node × Measure) → slice_get (es ++ (n, m) ∷ []) i ≡ Some e → StandsBelow i e.0
      more_below i e h = elim (item_of_more es (n, m) e i h) as (λ _. StandsBelow i e.0) [
        | inl k ↦ pool.below i e k
        | inr k ↦ rw (k.0, k.1) last_below
      ]

      more_measured : (i : ℕ) (e : Node × Measure) (t : Tree) → slice_get (es ++ (n, m) ∷ []) i ≡ Some e → StandsFor (pool_trees (es ++ (n, m) ∷ [])) i t → IsMeasure t e.1
      more_measured i e t h s = elim (item_of_more es (n, m) e i h) as (λ _. IsMeasure t e.1) [
        | inl k ↦ elim (more_item i t s) as (λ _. IsMeasure t e.1) [
          | inl l ↦ pool.measured i e t k (rw is l)
          | inr l ↦ absurd (omega (arith, l.0, slice_get_within es i e k, same_length es view pool is))
        ]
        | inr k ↦ elim (more_item i t s) as (λ _. IsMeasure t e.1) [
          | inl l ↦ absurd (omega (arith, k.0, stands_within view i t l, same_length es view pool is))
          | inr l ↦ rw (l.1, k.1) measure
        ]
      ]

      more_distinct : (i j : ℕ) (t : Tree) → StandsFor (pool_trees (es ++ (n, m) ∷ [])) i t → StandsFor (pool_trees (es ++ (n, m) ∷ [])) j t → i ≡ j
      more_distinct i j t s r = elim (more_item i t s) as (λ _. i ≡ j) [
        | inl h ↦ elim (more_item j t r) as (λ _. i ≡ j) [
          | inl k ↦ distinct_view.same i j t h k
          | inr k ↦ absurd (new_tree i (rw k.1 at h))
        ]
        | inr h ↦ elim (more_item j t r) as (λ _. i ≡ j) [
          | inl k ↦ absurd (new_tree j (rw h.1 at k))
          | inr k ↦ omega (arith, h.0, k.0)
        ]
      ]

      added : IsPool (es ++ (n, m) ∷ [])
      added = record {
        below = more_below;
        measured = more_measured;
        distinct = record { same = more_distinct };
        few = omega (arith, room, same_length es view pool is, length-append es ((n, m) ∷ []));
      }

      new_entry : IsEntered view n (position_or_len (eq n) (keys_of es)) (insert_entry eq es n m)
      new_entry =
          let index : position_or_len (eq n) (keys_of es) ≡ length view = last_index eq n es none ∙ same_length es view pool is in
          rw (goes_last eq n es m none, index) (record { pool = added; stands = new_stands; extends = extends; few = few_more })

    -- a node that is found stands at its index
    pub found_stands : (i : ℕ) → is_some (lookup (eq n) es) ≡ true → position (eq n) (keys_of es) ≡ Some i → StandsFor view i (node_tree view n)
    found_stands i there at =
        let found = found_index eq n es there in
        let here : position_or_len (eq n) (keys_of es) ≡ i = index_read (nat_lt (position_or_len (eq n) (keys_of es)) (length (keys_of es))) (position_or_len (eq n) (keys_of es)) i at in
        let read : StandsFor view (position_or_len (eq n) (keys_of es)) (node_tree view found.0.0) = reads es view pool is _ found.0 (sym found.1) in
        let tree : node_tree view n ≡ node_tree view found.0.0 = laws.sound view n found.0.0 found.2 in
        rw tree (subst (λ k. StandsFor view k (node_tree view found.0.0)) here read)

    module _ (m : Measure) (measure : IsMeasure (node_tree view n) m) where
      same_measures : (a b : Measure) → a.size ≡ b.size → a.depth ≡ b.depth → a ≡ b
      same_measures a b e f = let same : measure_of a.size a.depth ≡ measure_of b.size b.depth = rw (e, f) refl in same

      old_measure : (i : ℕ) (e : Node × Measure) → slice_get es i ≡ Some e → eq n e.0 ≡ true → e.1 ≡ m
      old_measure i e at same =
          let read : StandsFor view i (node_tree view e.0) = reads es view pool is i e (sym at) in
          let old : IsMeasure (node_tree view e.0) e.1 = pool.measured i e (node_tree view e.0) at (rw is read) in
          let tree : node_tree view n ≡ node_tree view e.0 = laws.sound view n e.0 same in
          same_measures e.1 m (old.size ∙ sym (measure.size ∙ ap (λ t. min (size_of t) (2 ^ 32 - 1)) tree)) (old.depth ∙ sym (measure.depth ∙ ap (λ t. min (depth_of t) (2 ^ 32 - 1)) tree))

      old_entry : is_some (lookup (eq n) es) ≡ true → IsEntered view n (position_or_len (eq n) (keys_of es)) (insert_entry eq es n m)
      old_entry there =
          let found = found_index eq n es there in
          let read : StandsFor view (position_or_len (eq n) (keys_of es)) (node_tree view found.0.0) = reads es view pool is _ found.0 (sym found.1) in
          let tree : node_tree view n ≡ node_tree view found.0.0 = laws.sound view n found.0.0 found.2 in
          rw (unchanged eq n es m old_measure there) (record {
            pool = pool;
            stands = rw (is, tree) read;
            extends = rw is (record { longer = omega arith; kept = λ i t h. h });
            few = rw is (omega arith);
          })

      pub entered : StandsBelow (length view) n → length view + 1 < 2 ^ 32
          → IsEntered view n (position_or_len (eq n) (keys_of es)) (insert_entry eq es n m)
      entered below room = go (is_some (lookup (eq n) es)) refl
        where
          go : (b : Bool) → is_some (lookup (eq n) es) ≡ b → IsEntered view n (position_or_len (eq n) (keys_of es)) (insert_entry eq es n m)
          go true there = old_entry there
          go false none = new_entry m below measure room none
