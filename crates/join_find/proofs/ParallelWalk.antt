-- The steps of a parallel step, as they are added argument by argument.
use Rattle.std.specs.Prelude.{◌≡◌, ◌≢◌, ◌<◌, ◌≤◌, ℕ, ◌+◌, List, [], ◌∷◌, ◌++◌, length, drop, map, Some, IsTrue, slice_get, refl}
use Rattle.std.proofs.Common.{suc, ap, sym, subst, ◌∙◌, append_assoc, append-nil, arith}
use Rattle.std.proofs.lemmas.List.{map-append, drop_all}
use Rattle.trs_defs.specs.Tree.{Tree, Trees, app, cons, trees, count, items, trees_items}
use Rattle.trs_defs.specs.Size.{size_of, within_limits}
use Rattle.trs_defs.specs.Position.{subterm_at}
use Rattle.trs_defs.specs.System.{RewriteRule}
use Rattle.trs_defs.specs.Path.{PlacedRule}
use Rattle.trs_defs.proofs.ArgumentLists.{count_trees, item_size}
use Rattle.trs_defs.proofs.ListItems.{item_there, from_item}
use Rattle.trs_defs.proofs.Limits.{size_there, depth_there, limits_size, limits_depth, limits_kept}
use Rattle.term_pool.specs.Pooled.{AreDistinct, StandsFor, tree_at}
use Rattle.term_pool.specs.Redexes.{IsNarrow, Grows, below}
use Rattle.term_pool.proofs.PoolTrees.{stands, stands_at, stands_within}
use Rattle.term_pool.proofs.RedexWalk.{below_below, nothing_grown, grown_same}
use Rattle.join_find.specs.Alike.{AreAlike}
use Rattle.join_find.specs.ParallelRow.{HasNoRootStep, IsRootStep, IsParallelStep, no_step, at_root, in_arguments, AreParallelSteps, no_argument, one_argument}
use Rattle.join_find.proofs.NarrowPeaks.{narrow_part}
use Rattle.join_find.proofs.ParallelSteps.{parallel_cases, first_and_rest, same_count}

count_items : (ts : Trees) → count ts ≡ length (items ts)
count_items ts = ap count (sym (trees_items ts)) ∙ count_trees (items ts)

-- ---- an argument of a term

argument_there : (t : Tree) (f : ℕ) (ts : Trees) (i : ℕ) (x : Tree) → t ≡ app f ts → slice_get (items ts) i ≡ Some x → subterm_at ((i + 1) ∷ []) t ≡ Some x
argument_there t f ts i x is there =
    let place : i + 1 ≡ suc i = omega arith in
    rw (is, place, there) refl

module _ (pool : List Tree) (id f i : ℕ) (ts : Trees) (is : tree_at pool id ≡ app f ts) (within : i < length (items ts)) where
  pub argument_of : (t : Tree) × (subterm_at ((i + 1) ∷ []) (tree_at pool id) ≡ Some t)
  argument_of =
      let (x, there) = item_there (items ts) i within in
      (x, argument_there (tree_at pool id) f ts i x is there)

  -- the id of an argument
  pub part_there : (part : ℕ) → ((t : Tree) → subterm_at ((i + 1) ∷ []) (tree_at pool id) ≡ Some t → StandsFor pool part t)
      → (part < length pool) × (slice_get (items ts) i ≡ Some (tree_at pool part))
  part_there part h =
      let (x, there) = item_there (items ts) i within in
      let at = h x (argument_there (tree_at pool id) f ts i x is there) in
      (stands_within pool part x at, there ∙ ap (λ t. Some t) (sym (stands_at pool part x at)))

module _ (t : Tree) (f : ℕ) (ts : Trees) (i : ℕ) (x : Tree) (is : t ≡ app f ts) (there : slice_get (items ts) i ≡ Some x) where
  -- it is smaller than the term, and keeps its limits
  pub smaller_part : size_of x < size_of t
  smaller_part =
      let small = item_size ts i x there in
      rw is (omega (arith, small))

  pub limits_inside : IsTrue (within_limits t) → IsTrue (within_limits x)
  limits_inside limits =
      let at = argument_there t f ts i x is there in
      let size = limits_size t limits in
      let depth = limits_depth t limits in
      let smaller = size_there ((i + 1) ∷ []) t x at in
      let lower = depth_there ((i + 1) ∷ []) t x at in
      limits_kept x (omega (arith, size, smaller)) (omega (arith, depth, lower))

  pub narrow_inside : IsNarrow t → IsNarrow x
  narrow_inside narrow = narrow_part ((i + 1) ∷ []) t x narrow (argument_there t f ts i x is there)

pub few_arguments : (t : Tree) (f : ℕ) (ts : Trees) → t ≡ app f ts → IsNarrow t → length (items ts) ≤ 255
few_arguments t f ts is narrow =
    let h : IsNarrow (app f ts) = subst IsNarrow is narrow in
    let few = h.0 in
    omega (arith, few, count_items ts)

-- ---- ids

pub different_terms : (pool : List Tree) (a b : ℕ) → AreDistinct pool → a < length pool → b < length pool → a ≢ b → tree_at pool a ≢ tree_at pool b
different_terms pool a b distinct in_a in_b other same = other (distinct.same a b (tree_at pool b) (stands pool a in_a ∙ ap (λ x. Some x) same) (stands pool b in_b))

module _ (rules : List RewriteRule) (place : List ℕ) (s t : Tree) where
  pub no_step_added : (steps : List PlacedRule) → s ≡ t → Grows place (IsParallelStep rules s t) steps steps
  no_step_added steps same = nothing_grown place (IsParallelStep rules s t) steps (subst (λ u. IsParallelStep rules s u []) same no_step)

  pub root_step_added : (old new : List PlacedRule) (q : List ℕ) (k : ℕ) → s ≢ t → IsRootStep rules s t k → q ≡ place → new ≡ old ++ record { place = q; rule = k } ∷ []
      → Grows place (IsParallelStep rules s t) old new
  root_step_added old new q k other step is made =
      let at : q ≡ place ++ [] = is ∙ sym (append-nil place) in
      (record { place = []; rule = k } ∷ [], at_root other step, made ∙ ap (λ p. old ++ record { place = p; rule = k } ∷ []) at)

  -- terms that are not alike have no step but one at the root
  pub none_unless_alike : s ≢ t → HasNoRootStep rules s t → ((n : ℕ) → AreAlike s t n → ⊥) → (ss : List PlacedRule) → IsParallelStep rules s t ss → ⊥
  none_unless_alike other none differ ss h =
      parallel_cases rules ⊥ h other (λ k step. none k step.steps)
      (λ f xs ys left right args. differ (length (items xs)) (record {
        root = f;
        lefts = xs;
        rights = ys;
        left = left;
        right = right;
        left_count = refl;
        right_count = sym (count_items ys) ∙ (sym (same_count rules args) ∙ count_items xs);
      }))

  module _ (n : ℕ) (a : AreAlike s t n) (other : s ≢ t) (none : HasNoRootStep rules s t) where
    -- the steps are those of the arguments
    of_arguments : (ss : List PlacedRule) → IsParallelStep rules s t ss → AreParallelSteps rules 1 a.lefts a.rights ss
    of_arguments ss h = parallel_cases rules (AreParallelSteps rules 1 a.lefts a.rights ss) h (λ same. absurd (other same)) (λ k step. absurd (none k step.steps))
        (λ f as_left as_right left right args.
        (let l : app f as_left ≡ app a.root a.lefts = sym left ∙ a.left in
        let r : app f as_right ≡ app a.root a.rights = sym right ∙ a.right in
        let left_is : as_left ≡ a.lefts = cc l in
        let right_is : as_right ≡ a.rights = cc r in
        subst (λ zs. AreParallelSteps rules 1 a.lefts zs ss) right_is (subst (λ zs. AreParallelSteps rules 1 zs as_right ss) left_is args)))

    pub arguments_begin : (old rest : List PlacedRule) → AreParallelSteps rules 1 (trees (items a.lefts)) (trees (items a.rights)) rest
        → Grows place (IsParallelStep rules s t) old (old ++ map (below place) rest)
    arguments_begin old rest h =
        let f = a.root in
        let differ : app f a.lefts ≢ app f a.rights = λ e. other (a.left ∙ e ∙ sym a.right) in
        let no_root : HasNoRootStep rules (app f a.lefts) (app f a.rights) = subst (λ u. HasNoRootStep rules (app f a.lefts) u) a.right (subst (λ u. HasNoRootStep rules u t) a.left none) in
        let args : AreParallelSteps rules 1 a.lefts a.rights rest =
        subst (λ zs. AreParallelSteps rules 1 a.lefts zs rest) (trees_items a.rights) (subst (λ zs. AreParallelSteps rules 1 zs (trees (items a.rights)) rest) (trees_items a.lefts) h) in
        (rest, subst (λ u. IsParallelStep rules u t rest) (sym a.left) (subst (λ u. IsParallelStep rules (app f a.lefts) u rest) (sym a.right) (in_arguments differ no_root args)), refl)

    pub arguments_refute : ((rest : List PlacedRule) → AreParallelSteps rules 1 (trees (items a.lefts)) (trees (items a.rights)) rest → ⊥) → (ss : List PlacedRule) → IsParallelStep rules s t ss → ⊥
    arguments_refute h ss step =
        h ss (subst (λ zs. AreParallelSteps rules 1 (trees (items a.lefts)) zs ss) (sym (trees_items a.rights))
        (subst (λ zs. AreParallelSteps rules 1 zs a.rights ss) (sym (trees_items a.lefts)) (of_arguments ss step)))

-- ---- one argument after another

module _ (rules : List RewriteRule) (xs ys : List Tree) (i : ℕ) (x y : Tree) (at : slice_get xs i ≡ Some x) (at_other : slice_get ys i ≡ Some y) where
  next_item : (zs : List Tree) (z : Tree) → slice_get zs i ≡ Some z → trees (drop i zs) ≡ cons z (trees (drop (i + 1) zs))
  next_item zs z there =
      let place : suc i ≡ i + 1 = omega arith in
      ap trees (from_item zs i z there) ∙ ap (λ k. cons z (trees (drop k zs))) place

  next_left : trees (drop i xs) ≡ cons x (trees (drop (i + 1) xs))
  next_left = next_item xs x at

  next_right : trees (drop i ys) ≡ cons y (trees (drop (i + 1) ys))
  next_right = next_item ys y at_other

  pub argument_then_rest : (place inner : List ℕ) (P : List PlacedRule → Type 0) (old cur newer : List PlacedRule) → inner ≡ place ++ (i + 1) ∷ []
      → ((rest : List PlacedRule) → AreParallelSteps rules (i + 1) (trees (drop i xs)) (trees (drop i ys)) rest → Grows place P old (cur ++ map (below place) rest))
      → Grows inner (IsParallelStep rules x y) cur newer → (rest : List PlacedRule)
      → AreParallelSteps rules (i + 1 + 1) (trees (drop (i + 1) xs)) (trees (drop (i + 1) ys)) rest → Grows place P old (newer ++ map (below place) rest)
  argument_then_rest place inner P old cur newer is before g rest h =
      let first = map (below ((i + 1) ∷ [])) g.0 in
      let all : AreParallelSteps rules (i + 1) (trees (drop i xs)) (trees (drop i ys)) (first ++ rest) = rw (next_left, next_right) (one_argument g.1 h) in
      let grown : newer ≡ cur ++ map (below place) first = g.2 ∙ rw (is, below_below place (i + 1) g.0) refl in
      let e : cur ++ map (below place) (first ++ rest) ≡ newer ++ map (below place) rest =
      rw (grown, map-append (below place) first rest, append_assoc cur (map (below place) first) (map (below place) rest)) refl in
      grown_same place P old (cur ++ map (below place) (first ++ rest)) (newer ++ map (below place) rest) e (before (first ++ rest) all)

  pub no_rest_further : (Q : Type 0) → (((rest : List PlacedRule) → AreParallelSteps rules (i + 1) (trees (drop i xs)) (trees (drop i ys)) rest → ⊥) → Q)
      → ((rest : List PlacedRule) → AreParallelSteps rules (i + 1 + 1) (trees (drop (i + 1) xs)) (trees (drop (i + 1) ys)) rest → ⊥) → Q
  no_rest_further Q before none = before (λ rest h.
      (let two = first_and_rest rules h x y (trees (drop (i + 1) xs)) (trees (drop (i + 1) ys)) next_left next_right in none two.rest two.of_rest))

  pub no_first : (Q : Type 0) → (((rest : List PlacedRule) → AreParallelSteps rules (i + 1) (trees (drop i xs)) (trees (drop i ys)) rest → ⊥) → Q)
      → ((ss : List PlacedRule) → IsParallelStep rules x y ss → ⊥) → Q
  no_first Q before none = before (λ rest h.
      (let two = first_and_rest rules h x y (trees (drop (i + 1) xs)) (trees (drop (i + 1) ys)) next_left next_right in none two.first two.of_first))

pub no_argument_left : (rules : List RewriteRule) (xs ys : List Tree) (i : ℕ) → length xs ≤ i → length ys ≡ length xs → AreParallelSteps rules (i + 1) (trees (drop i xs)) (trees (drop i ys)) []
no_argument_left rules xs ys i all same = rw (drop_all i xs all, drop_all i ys (omega (arith, all, same))) no_argument
