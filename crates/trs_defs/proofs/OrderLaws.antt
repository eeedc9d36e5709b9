-- The order of terms is total, and only equal terms tie.
use Rattle.std.specs.Prelude.{◌≡◌, ℕ, List, [], ◌∷◌, ◌++◌, refl}
use Rattle.std.specs.declared.cmp.Ordering.TheVariants.{Less, Equal, Greater}
use Rattle.std.specs.declared.cmp.Ordering.{Ordering}
use Rattle.std.specs.Ordering.{nat_cmp, ordering_then, ordering_reverse}
use Rattle.std.specs.Cmp.{IsTotalOrder}
use Rattle.std.specs.Cmp.Lexicographic.{slice_cmp}
use Rattle.std.specs.FinMap.{nat_cmp-IsAntisymmetric}
use Rattle.std.proofs.Common.{ap, sym, ◌∙◌, append_assoc, subst, arith}
use Rattle.std.proofs.lemmas.Cmp.{nat_list_cmp_total, on_total}
use Rattle.trs_defs.specs.Tree.{Tree, Trees, var, app, nil, cons, count}
use Rattle.trs_defs.specs.Order.{tree_cmp, trees_cmp}

-- a list of numbers that is in the order of lists where the tree is in the order of trees
abbrev mutual
  key : Tree → List ℕ
  key (var n) = 0 ∷ n ∷ []
  key (app f ts) = 1 ∷ f ∷ count ts ∷ keys ts

  keys : Trees → List ℕ
  keys nil = []
  keys (cons t ts) = key t ++ keys ts

pub then_assoc : (a b c : Ordering) → ordering_then (ordering_then a b) c ≡ ordering_then a (ordering_then b c)
then_assoc Less b c = refl
then_assoc Equal b c = refl
then_assoc Greater b c = refl

-- what ties by number is equal
both_then : (x y : Ordering) (n m : ℕ) (a b c : Ordering) → nat_cmp n m ≡ y → (n ≡ m → a ≡ ordering_then b c)
    → ordering_then x (ordering_then y a) ≡ ordering_then (ordering_then x (ordering_then y b)) c
both_then Less y n m a b c is h = refl
both_then Greater y n m a b c is h = refl
both_then Equal Less n m a b c is h = refl
both_then Equal Greater n m a b c is h = refl
both_then Equal Equal n m a b c is h = h (nat_cmp-IsAntisymmetric n m is)

mutual
  key_cmp : (t u : Tree) (xs ys : List ℕ) → slice_cmp nat_cmp (key t ++ xs) (key u ++ ys) ≡ ordering_then (tree_cmp t u) (slice_cmp nat_cmp xs ys)
  key_cmp (var m) (var n) xs ys = refl
  key_cmp (var m) (app g us) xs ys = refl
  key_cmp (app f ts) (var n) xs ys = refl
  key_cmp (app f ts) (app g us) xs ys =
      both_then (nat_cmp f g) (nat_cmp (count ts) (count us)) (count ts) (count us) _ _ _ refl (keys_cmp ts us xs ys)

  keys_cmp : (ts us : Trees) (xs ys : List ℕ) → count ts ≡ count us → slice_cmp nat_cmp (keys ts ++ xs) (keys us ++ ys) ≡ ordering_then (trees_cmp ts us) (slice_cmp nat_cmp xs ys)
  keys_cmp nil nil xs ys e = refl
  keys_cmp nil (cons u us) xs ys e = absurd (omega arith)
  keys_cmp (cons t ts) nil xs ys e = absurd (omega arith)
  keys_cmp (cons t ts) (cons u us) xs ys e =
      rw (append_assoc (key t) (keys ts) xs, append_assoc (key u) (keys us) ys)
      (key_cmp t u (keys ts ++ xs) (keys us ++ ys)
      ∙ ap (ordering_then (tree_cmp t u)) (keys_cmp ts us xs ys (omega arith))
      ∙ sym (then_assoc (tree_cmp t u) (trees_cmp ts us) (slice_cmp nat_cmp xs ys)))

then_equal : (o : Ordering) → ordering_then o Equal ≡ o
then_equal Less = refl
then_equal Equal = refl
then_equal Greater = refl

tree_cmp_key : (t u : Tree) → slice_cmp nat_cmp (key t ++ []) (key u ++ []) ≡ tree_cmp t u
tree_cmp_key t u = key_cmp t u [] [] ∙ then_equal (tree_cmp t u)

pub tree_cmp_total : IsTotalOrder tree_cmp
tree_cmp_total = subst IsTotalOrder (λ i t u. tree_cmp_key t u i) (on_total (λ t. key t ++ []) nat_list_cmp_total)

-- where one comparison decides after another, both tie
pub both_equal : (a b : Ordering) → ordering_then a b ≡ Equal → (a ≡ Equal) × (b ≡ Equal)
both_equal Less b e = absurd cc
both_equal Greater b e = absurd cc
both_equal Equal b e = (refl, e)

-- the first comparison decides where it does not tie
pub then_unequal : (a b : Ordering) → (a ≡ Equal → ⊥) → ordering_then a b ≡ a
then_unequal Less b n = refl
then_unequal Greater b n = refl
then_unequal Equal b n = absurd (n refl)

mutual
  -- only equal terms tie
  pub tree_cmp_equal : (t u : Tree) → tree_cmp t u ≡ Equal → t ≡ u
  tree_cmp_equal (var m) (var n) e = ap var (nat_cmp-IsAntisymmetric m n e)
  tree_cmp_equal (var m) (app g us) e = absurd cc
  tree_cmp_equal (app f ts) (var n) e = absurd cc
  tree_cmp_equal (app f ts) (app g us) e =
      let one = both_equal (nat_cmp f g) (ordering_then (nat_cmp (count ts) (count us)) (trees_cmp ts us)) e in
      let two = both_equal (nat_cmp (count ts) (count us)) (trees_cmp ts us) one.1 in
      cc (nat_cmp-IsAntisymmetric f g one.0, trees_cmp_equal ts us two.1)

  pub trees_cmp_equal : (ts us : Trees) → trees_cmp ts us ≡ Equal → ts ≡ us
  trees_cmp_equal nil nil e = refl
  trees_cmp_equal nil (cons u us) e = absurd cc
  trees_cmp_equal (cons t ts) nil e = absurd cc
  trees_cmp_equal (cons t ts) (cons u us) e =
      let two = both_equal (tree_cmp t u) (trees_cmp ts us) e in
      cc (tree_cmp_equal t u two.0, trees_cmp_equal ts us two.1)

equal_to_itself : (o : Ordering) → o ≡ ordering_reverse o → o ≡ Equal
equal_to_itself Less e = absurd cc
equal_to_itself Equal e = refl
equal_to_itself Greater e = absurd cc

pub tree_cmp_same : (t u : Tree) → t ≡ u → tree_cmp t u ≡ Equal
tree_cmp_same t u e = rw (← e) (equal_to_itself (tree_cmp t t) (tree_cmp_total.antisymm t t))
