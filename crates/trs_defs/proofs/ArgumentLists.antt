-- Lists, and argument lists made of them: what a loop over arguments keeps.
use Rattle.std.proofs.Common.{◌≡◌, ℕ, ◌+◌, ◌<◌, ◌≤◌, List, [], ◌∷◌, map, length, drop, get_or, Some, slice_get, zero, suc, refl, ap, sym, ◌∙◌, arith, add-one, drop-cons}
use Rattle.std.proofs.lemmas.Option.{same_Some}
use Rattle.trs_defs.specs.Tree.{Tree, Trees, var, app, nil, cons, trees, items, items_trees, count}
use Rattle.trs_defs.specs.Size.{size_of, size_of_all, depth_of, depth_of_all}
use Rattle.trs_defs.specs.Substitution.{apply, apply_all}

-- what is left of a list, from the next item
pub cell : {T : Type 0} (xs : List T) (i : ℕ) (x : T) → i < length xs → x ≡ get_or xs i x → drop i xs ≡ x ∷ drop (i + 1) xs
cell xs i x h e = rw (add-one, drop-cons xs i x) (ap (λ y. y ∷ drop (suc i) xs) (sym e))

pub count_trees : (ts : List Tree) → count (trees ts) ≡ length ts
count_trees [] = refl
count_trees (t ∷ ts) = omega (arith, count_trees ts)

pub same_trees : (ts us : List Tree) → trees ts ≡ trees us → ts ≡ us
same_trees ts us e = sym (items_trees ts) ∙ (ap items e ∙ items_trees us)

pub count_apply_all : (s : ℕ → Tree) (ts : Trees) → count (apply_all s ts) ≡ count ts
count_apply_all s nil = refl
count_apply_all s (cons t ts) = omega (arith, count_apply_all s ts)

pub apply_all_trees : (s : ℕ → Tree) (ts : List Tree) → trees (map (apply s) ts) ≡ apply_all s (trees ts)
apply_all_trees s [] = refl
apply_all_trees s (t ∷ ts) = ap (cons (apply s t)) (apply_all_trees s ts)

-- an item is no larger and no deeper than its list
pub size_of_item : (ts : List Tree) (i : ℕ) (d : Tree) → i < length ts → size_of (get_or ts i d) ≤ size_of_all (trees ts)
size_of_item [] i d h = absurd (omega arith)
size_of_item (t ∷ ts) zero d h = omega arith
size_of_item (t ∷ ts) (suc i) d h = omega (arith, size_of_item ts i d (omega arith))

pub depth_of_item : (ts : List Tree) (i : ℕ) (d : Tree) → i < length ts → depth_of (get_or ts i d) ≤ depth_of_all (trees ts)
depth_of_item [] i d h = absurd (omega arith)
depth_of_item (t ∷ ts) zero d h = omega arith
depth_of_item (t ∷ ts) (suc i) d h = omega (arith, depth_of_item ts i d (omega arith))

pub item_size : (ts : Trees) (i : ℕ) (a : Tree) → slice_get (items ts) i ≡ Some a → size_of a ≤ size_of_all ts
item_size nil i a e = absurd cc
item_size (cons t ts) zero a e = let same : size_of t ≡ size_of a = ap size_of (same_Some t a e) in omega (arith, same)
item_size (cons t ts) (suc i) a e = omega (arith, item_size ts i a e)

mutual
  pub depth_le_size : (t : Tree) → depth_of t ≤ size_of t
  depth_le_size (var n) = omega arith
  depth_le_size (app f ts) = omega (arith, depth_le_size_all ts)

  pub depth_le_size_all : (ts : Trees) → depth_of_all ts ≤ size_of_all ts
  depth_le_size_all nil = omega arith
  depth_le_size_all (cons t ts) = omega (arith, depth_le_size t, depth_le_size_all ts)
