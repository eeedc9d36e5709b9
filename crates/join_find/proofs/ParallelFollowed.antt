-- A parallel step is followed place by place: between terms that have few nodes together no term on the way passes a limit.
use Rattle.std.specs.Prelude.{◌≡◌, ◌≢◌, ◌≤◌, ℕ, ◌+◌, List, [], ◌∷◌, ◌++◌, length, map, Some, IsTrue, slice_get, slice_set, refl}
use Rattle.std.specs.Option.{option_and_then, option_map}
use Rattle.std.proofs.Common.{zero, suc, ap, sym, subst, ◌∙◌, append_assoc, append-nil, arith}
use Rattle.std.proofs.lemmas.List.{map-append}
use Rattle.trs_defs.specs.Tree.{Tree, Trees, app, cons, trees, items, items_trees, trees_items}
use Rattle.trs_defs.specs.Size.{size_of, size_of_all, depth_of, within_limits}
use Rattle.trs_defs.specs.Position.{argument_at, subterm_at, with_argument, replaced_at}
use Rattle.trs_defs.specs.System.{RewriteRule}
use Rattle.trs_defs.specs.Path.{PlacedRule, Follows}
use Rattle.trs_defs.proofs.Limits.{size_replaced, depth_there, depth_replaced_within, limits_depth, limits_kept}
use Rattle.term_pool.specs.Redexes.{below}
use Rattle.term_pool.proofs.RedexLists.{below_nothing}
use Rattle.term_pool.proofs.RedexWalk.{below_below}
use Rattle.rewrite_core.proofs.ShiftedSteps.{part_of_part, replaced_in_part, shifted_steps}
use Rattle.join_find.specs.ParallelRow.{IsParallelStep, no_step, at_root, in_arguments, AreParallelSteps, no_argument, one_argument}

-- the argument list with these arguments, the last one first, before the others
abbrev after : List Tree → Trees → Trees
after [] zs = zs
after (t ∷ done) zs = after done (cons t zs)

item_after : (done : List Tree) (zs : Trees) (i : ℕ) → slice_get (items (after done zs)) (length done + i) ≡ slice_get (items zs) i
item_after [] zs i =
    let place : 0 + i ≡ i = omega arith in
    ap (slice_get (items zs)) place
item_after (t ∷ done) zs i =
    let place : length (t ∷ done) + i ≡ length done + suc i = omega arith in
    ap (slice_get (items (after done (cons t zs)))) place ∙ item_after done (cons t zs) (suc i)

set_after : (done : List Tree) (zs : Trees) (i : ℕ) (v : Tree) → slice_set (items (after done zs)) (length done + i) v ≡ items (after done (trees (slice_set (items zs) i v)))
set_after [] zs i v =
    let place : 0 + i ≡ i = omega arith in
    ap (λ n. slice_set (items zs) n v) place ∙ sym (items_trees (slice_set (items zs) i v))
set_after (t ∷ done) zs i v =
    let place : length (t ∷ done) + i ≡ length done + suc i = omega arith in
    ap (λ n. slice_set (items (after done (cons t zs))) n v) place ∙ set_after done (cons t zs) (suc i) v

-- k u has u at the position p, and is otherwise the same for each u
record IsAround (p : List ℕ) (k : Tree → Tree) : Type 0 where
  there : (u : Tree) → subterm_at p (k u) ≡ Some u
  put : (u v : Tree) → replaced_at p (k u) v ≡ Some (k v)

nothing_around : IsAround [] (λ u. u)
nothing_around = record { there = λ u. refl; put = λ u v. refl }

module _ (f : ℕ) (done : List Tree) (zs : Trees) where
  -- the application with this argument behind those that are done
  abbrev with_next : Tree → Tree
  with_next u = app f (after done (cons u zs))

  next_there : (u : Tree) → argument_at (with_next u) (length done + 1) ≡ Some u
  next_there u =
      let place : length done + 1 ≡ suc (length done + zero) = omega arith in
      ap (argument_at (with_next u)) place ∙ item_after done (cons u zs) zero

  next_set : (u v : Tree) → with_argument (with_next u) (length done + 1) v ≡ with_next v
  next_set u v =
      let place : length done + 1 ≡ suc (length done + zero) = omega arith in
      ap (λ n. with_argument (with_next u) n v) place
      ∙ (ap (λ l. app f (trees l)) (set_after done (cons u zs) zero v)
      ∙ (ap (app f) (trees_items (after done (cons v (trees (items zs))))) ∙ ap (λ ys. app f (after done (cons v ys))) (trees_items zs)))

  around_next : (p : List ℕ) (k : Tree → Tree) → IsAround p k → IsAround (p ++ (length done + 1) ∷ []) (λ u. k (with_next u))
  around_next p k around =
      let n : ℕ = length done + 1 in
      let inside : (u : Tree) → subterm_at (n ∷ []) (with_next u) ≡ Some u = λ u. ap (option_and_then (subterm_at [])) (next_there u) in
      let changed : (u v : Tree) → replaced_at (n ∷ []) (with_next u) v ≡ Some (with_next v) =
      λ u v. ap (option_and_then (λ a. option_map (with_argument (with_next u) n) (replaced_at [] a v))) (next_there u) ∙ ap (λ t. Some t) (next_set u v) in
      record {
        there = λ u. part_of_part p (n ∷ []) (k (with_next u)) (with_next u) u (around.there (with_next u)) (inside u);
        put = λ u v. replaced_in_part p (n ∷ []) (k (with_next u)) (with_next u) (with_next v) v (k (with_next v))
            (around.there (with_next u)) (around.put (with_next u) (with_next v)) (changed u v);
      }

module _ (p : List ℕ) (k : Tree → Tree) (around : IsAround p k) where
  size_around : (u v : Tree) → size_of (k v) + size_of u ≡ size_of (k u) + size_of v
  size_around u v = size_replaced p (k u) u v (k v) (around.there u) (around.put u v)

  deep_around : (u v : Tree) → depth_of (k u) ≤ 1024 → length p + depth_of v ≤ 1024 → depth_of (k v) ≤ 1024
  deep_around u v deep low = (depth_replaced_within p (k u) u v (k v) 1024 (around.there u) (around.put u v) deep).1 low

  deep_inside : (u : Tree) → depth_of (k u) ≤ 1024 → length p + depth_of u ≤ 1024
  deep_inside u deep =
      let low = depth_there p (k u) u (around.there u) in
      omega (arith, deep, low)

module _ (rules : List RewriteRule) where
  -- the steps of a first argument come before those of the rest
  steps_split : (p : List ℕ) (n : ℕ) (first more rest : List PlacedRule)
      → map (below (p ++ n ∷ [])) first ++ (map (below p) more ++ rest) ≡ map (below p) (map (below (n ∷ [])) first ++ more) ++ rest
  steps_split p n first more rest =
      rw (below_below p n first, map-append (below p) (map (below (n ∷ [])) first) more, append_assoc (map (below p) (map (below (n ∷ [])) first)) (map (below p) more) rest) refl

  mutual
    followed_at : {s t : Tree} {steps : List PlacedRule} → IsParallelStep rules s t steps → (p : List ℕ) (k : Tree → Tree) → IsAround p k → size_of (k s) + size_of t ≤ 65536
        → depth_of (k s) ≤ 1024 → depth_of (k t) ≤ 1024 → (rest : List PlacedRule) (v : Tree) → Follows rules rest (k t) v → Follows rules (map (below p) steps ++ rest) (k s) v
    followed_at no_step p k around few deep deep_end rest v h = h
    followed_at (at_root {s = s} {t = t} {k = rule} ne root) p k around few deep deep_end rest v h =
        let size = size_around p k around s t in
        let step = shifted_steps rules p (record { place = []; rule = rule }) (k s) s t (k t) (around.there s) (around.put s t) root.steps in
        (k t, step, limits_kept (k t) (omega (arith, size, few)) deep_end, h)
    followed_at (in_arguments {f = f} {ss = ss} {ts = ts} ne none args) p k around few deep deep_end rest v h =
        all_followed_at args f [] (omega arith) p k around (omega (arith, few)) deep deep_end rest v h

    all_followed_at : {place : ℕ} {ss ts : Trees} {steps : List PlacedRule} → AreParallelSteps rules place ss ts steps → (f : ℕ) (done : List Tree) → length done + 1 ≡ place
        → (p : List ℕ) (k : Tree → Tree) → IsAround p k → size_of (k (app f (after done ss))) + size_of_all ts ≤ 65536
        → depth_of (k (app f (after done ss))) ≤ 1024 → depth_of (k (app f (after done ts))) ≤ 1024
        → (rest : List PlacedRule) (v : Tree) → Follows rules rest (k (app f (after done ts))) v → Follows rules (map (below p) steps ++ rest) (k (app f (after done ss))) v
    all_followed_at no_argument f done is p k around few deep deep_end rest v h = h
    all_followed_at (one_argument {place = place} {s = s} {t = t} {ss = ss} {ts = ts} {first = first} {rest = more} first_step later) f done is p k around few deep deep_end rest v h =
        let q : List ℕ = p ++ (length done + 1) ∷ [] in
        let K : Tree → Tree = λ u. k (with_next f done ss u) in
        let here : IsAround q K = around_next f done ss p k around in
        let size = size_around q K here s t in
        let low : length q + depth_of t ≤ 1024 = deep_inside q (λ u. k (with_next f done ts u)) (around_next f done ts p k around) t deep_end in
        let deep_next : depth_of (K t) ≤ 1024 = deep_around q K here s t deep low in
        let behind : Follows rules (map (below p) more ++ rest) (K t) v =
        all_followed_at later f (t ∷ done) (omega (arith, is)) p k around (omega (arith, few, size)) deep_next deep_end rest v h in
        let all : Follows rules (map (below q) first ++ (map (below p) more ++ rest)) (K s) v =
        followed_at first_step q K here (omega (arith, few)) deep deep_next (map (below p) more ++ rest) v behind in
        let F : List PlacedRule → Type 0 = λ path. Follows rules path (K s) v in
        subst F (steps_split p place first more rest) (subst (λ (n : ℕ). F (map (below (p ++ n ∷ [])) first ++ (map (below p) more ++ rest))) is all)

  whole_followed : {s t : Tree} {steps : List PlacedRule} → IsParallelStep rules s t steps → IsTrue (within_limits s) → IsTrue (within_limits t)
      → size_of s + size_of t ≤ 65536 → Follows rules steps s t
  whole_followed {s = s} {t = t} {steps = steps} step small small_end few =
      let F : List PlacedRule → Type 0 = λ path. Follows rules path s t in
      let all = followed_at step [] (λ u. u) nothing_around few (limits_depth s small) (limits_depth t small_end) [] t refl in
      subst F (below_nothing steps) (subst F (append-nil (map (below []) steps)) all)

  -- it is followed, where its ends, if they differ, have few nodes together
  pub parallel_step_followed : {s t : Tree} {steps : List PlacedRule} → IsParallelStep rules s t steps → IsTrue (within_limits s) → IsTrue (within_limits t)
      → (s ≢ t → size_of s + size_of t ≤ 65536) → Follows rules steps s t
  parallel_step_followed no_step small small_end few = refl
  parallel_step_followed (at_root ne root) small small_end few = whole_followed (at_root ne root) small small_end (few ne)
  parallel_step_followed (in_arguments ne none args) small small_end few = whole_followed (in_arguments ne none args) small small_end (few ne)
