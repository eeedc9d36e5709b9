-- The size and the depth of a term with another subterm at a position.
use Rattle.std.specs.Prelude.{◌≡◌, ◌↔◌, ℕ, ◌+◌, ◌≤◌, ◌<◌, max, Bool, true, false, ◌&&◌, nat_le, List, [], ◌∷◌, length, IsTrue, Some, slice_get, slice_set, refl}
use Rattle.std.proofs.Common.{zero, suc, ap, subst, arith}
use Rattle.std.proofs.lemmas.Bool.Decides.{nat_tests}
use Rattle.std.proofs.lemmas.Bool.{and_parts, leb-true}
use Rattle.trs_defs.specs.Tree.{Tree, var, app, trees, items, trees_items}
use Rattle.trs_defs.specs.Size.{size_of, size_of_all, depth_of, depth_of_all, within_limits}
use Rattle.trs_defs.specs.Position.{argument_at, subterm_at, with_argument, replaced_at}
use Rattle.trs_defs.proofs.Positions.{replaced_inside}
use Rattle.trs_defs.proofs.Contexts.{replaced_by_itself}

-- the measures of a term t with b for its part a, which is d deep in it, and so u
record IsMeasured (d : ℕ) (t a b u : Tree) : Type 0 where
  size : size_of u + size_of a ≡ size_of t + size_of b
  smaller : size_of a ≤ size_of t
  part : d + depth_of a ≤ depth_of t
  below : d + depth_of b ≤ depth_of u
  within : depth_of u ≤ max (depth_of t) (d + depth_of b)

record IsListMeasured (xs ys : List Tree) (a b : Tree) : Type 0 where
  size : size_of_all (trees ys) + size_of a ≡ size_of_all (trees xs) + size_of b
  smaller : size_of a ≤ size_of_all (trees xs)
  part : depth_of a ≤ depth_of_all (trees xs)
  below : depth_of b ≤ depth_of_all (trees ys)
  within : depth_of_all (trees ys) ≤ max (depth_of_all (trees xs)) (depth_of b)

list_measured : (xs : List Tree) (i : ℕ) (a b : Tree) → slice_get xs i ≡ Some a → IsListMeasured xs (slice_set xs i b) a b
list_measured [] i a b e = absurd cc
list_measured (x ∷ xs) zero a b e =
    let same : x ≡ a = cc in
    rw (← same) (record { size = omega arith; smaller = omega arith; part = omega arith; below = omega arith; within = omega arith })
list_measured (x ∷ xs) (suc i) a b e =
    let rest = list_measured xs i a b e in
    record { size = omega arith; smaller = omega arith; part = omega arith; below = omega arith; within = omega arith }

argument_measured : (t : Tree) (place : ℕ) (a b : Tree) → argument_at t place ≡ Some a → IsMeasured 1 t a b (with_argument t place b)
argument_measured (var n) place a b e = absurd cc
argument_measured (app f ts) zero a b e = absurd cc
argument_measured (app f ts) (suc i) a b e =
    let rest = list_measured (items ts) i a b e in
    let sizes : size_of_all (trees (items ts)) ≡ size_of_all ts = ap size_of_all (trees_items ts) in
    let depths : depth_of_all (trees (items ts)) ≡ depth_of_all ts = ap depth_of_all (trees_items ts) in
    record { size = omega arith; smaller = omega arith; part = omega arith; below = omega arith; within = omega arith }

measured_deeper : (d : ℕ) (t a b u part new : Tree) → IsMeasured d a part new b → IsMeasured 1 t a b u → IsMeasured (suc d) t part new u
measured_deeper d t a b u part new h k = record { size = omega arith; smaller = omega arith; part = omega arith; below = omega arith; within = omega arith }

replaced_measured : (p : List ℕ) (t part new u : Tree) → subterm_at p t ≡ Some part → replaced_at p t new ≡ Some u → IsMeasured (length p) t part new u
replaced_measured [] t part new u at e =
    let same : t ≡ part = cc in
    let made : new ≡ u = cc in
    rw (← same, ← made) (record { size = omega arith; smaller = omega arith; part = omega arith; below = omega arith; within = omega arith })
replaced_measured (place ∷ p) t part new u at e =
    let h = replaced_inside place p t new u e in
    let inner : subterm_at p h.argument ≡ Some part = rw h.there at at in
    let deeper = measured_deeper (length p) t h.argument h.changed (with_argument t place h.changed) part new
    (replaced_measured p h.argument part new h.changed inner h.below) (argument_measured t place h.argument h.changed h.there) in
    subst (IsMeasured (suc (length p)) t part new) h.whole deeper

-- The new term has the nodes of the old one, but for those of its part, and those of what stands there now.
pub size_replaced : (p : List ℕ) (t part new u : Tree) → subterm_at p t ≡ Some part → replaced_at p t new ≡ Some u
    → size_of u + size_of part ≡ size_of t + size_of new
size_replaced p t part new u at e = (replaced_measured p t part new u at e).size

-- What stands in a term is no larger.
pub size_there : (p : List ℕ) (t part : Tree) → subterm_at p t ≡ Some part → size_of part ≤ size_of t
size_there p t part at = (replaced_measured p t part part t at (replaced_by_itself p t part at)).smaller

-- A term is at least as deep as a position in it and what stands there.
pub depth_there : (p : List ℕ) (t part : Tree) → subterm_at p t ≡ Some part → length p + depth_of part ≤ depth_of t
depth_there p t part at = (replaced_measured p t part part t at (replaced_by_itself p t part at)).part

-- The new term is at least as deep as the position and what stands there now.
pub depth_replaced : (p : List ℕ) (t part new u : Tree) → subterm_at p t ≡ Some part → replaced_at p t new ≡ Some u
    → length p + depth_of new ≤ depth_of u
depth_replaced p t part new u at e = (replaced_measured p t part new u at e).below

-- Where the old term is no deeper than n, the new one is so exactly where the position and what stands there now are.
pub depth_replaced_within : (p : List ℕ) (t part new u : Tree) (n : ℕ) → subterm_at p t ≡ Some part → replaced_at p t new ≡ Some u
    → depth_of t ≤ n → (depth_of u ≤ n) ↔ (length p + depth_of new ≤ n)
depth_replaced_within p t part new u n at e small =
    let h = replaced_measured p t part new u at e in
    (λ k. omega arith, λ k. omega arith)

smaller_within : (m n k : ℕ) → m ≤ n → nat_le m k ≡ false → nat_le n k ≡ false
smaller_within m n k h e = grind (arith, nat_tests)

not_within : (a b c d : Bool) → (a && b) ≡ false → (a ≡ false → c ≡ false) → (b ≡ false → d ≡ false) → (c && d) ≡ false
not_within true true c d h p q = absurd cc
not_within true false c d h p q = go c (q refl)
  where
    go : (c : Bool) → d ≡ false → (c && d) ≡ false
    go true e = e
    go false e = refl
not_within false b c d h p q = rw (p refl) refl

-- What holds too large a term is too large.
pub too_large_inside : (p : List ℕ) (t part new u : Tree) → subterm_at p t ≡ Some part → replaced_at p t new ≡ Some u
    → within_limits new ≡ false → within_limits u ≡ false
too_large_inside p t part new u at e h =
    let k = replaced_measured p t part new u at e in
    not_within _ _ _ _ h (smaller_within (size_of new) (size_of u) 65536 (omega arith)) (smaller_within (depth_of new) (depth_of u) 1024 (omega arith))

pub test_of : (m n : ℕ) → m ≤ n → nat_le m n ≡ true
test_of m n h = grind (arith, nat_tests)

pub no_test_of : (m n : ℕ) → n < m → nat_le m n ≡ false
no_test_of m n h = grind (arith, nat_tests)

and_false : (a b : Bool) → b ≡ false → (a && b) ≡ false
and_false true b e = e
and_false false b e = refl

-- The limits as a test, and as facts on the size and the depth.
pub limits_size : (t : Tree) → IsTrue (within_limits t) → size_of t ≤ 65536
limits_size t h = leb-true (size_of t) 65536 (and_parts (nat_le (size_of t) 65536) (nat_le (depth_of t) 1024) h).0

pub limits_depth : (t : Tree) → IsTrue (within_limits t) → depth_of t ≤ 1024
limits_depth t h = leb-true (depth_of t) 1024 (and_parts (nat_le (size_of t) 65536) (nat_le (depth_of t) 1024) h).1

pub limits_kept : (t : Tree) → size_of t ≤ 65536 → depth_of t ≤ 1024 → IsTrue (within_limits t)
limits_kept t h k = rw (test_of (size_of t) 65536 h, test_of (depth_of t) 1024 k) refl

pub limits_passed_by_size : (t : Tree) → 65536 < size_of t → within_limits t ≡ false
limits_passed_by_size t h = rw (no_test_of (size_of t) 65536 h) refl

pub limits_passed_by_depth : (t : Tree) → 1024 < depth_of t → within_limits t ≡ false
limits_passed_by_depth t h = and_false (nat_le (size_of t) 65536) (nat_le (depth_of t) 1024) (no_test_of (depth_of t) 1024 h)
