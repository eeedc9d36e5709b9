-- A term put at a position, from the first place.
use Rattle.std.proofs.Common.{◌≡◌, ℕ, ◌-◌, ◌<◌, ◌≤◌, ◌⊎◌, inl, inr, Bool, true, false, cond, List, [], ◌∷◌, Option, Some, None, zero, suc, length, take, drop, get_or, slice_get, slice_set, refl, ap, ◌∙◌, arith, sub-one}
use Rattle.std.specs.Option.{option_and_then, option_map}
use Rattle.std.proofs.lemmas.List.{take_all}
use Rattle.std.proofs.lemmas.Option.{slice_get_read, slice_get_past}
use Rattle.trs_defs.specs.Tree.{Tree, Trees, app, items}
use Rattle.trs_defs.specs.Position.{replaced_at, with_argument}
use Rattle.trs_core.specs.declared.terms.Term.{Term}
use Rattle.trs_core.specs.View.{tree, forest}
use Rattle.trs_core.proofs.Lookups.{items_forest, slice_get_map, with_argument_forest}

item_at : (ts : List Term) (args : Trees) (i : ℕ) → forest ts ≡ args → slice_get (items args) i ≡ option_map tree (slice_get ts i)
item_at ts args i is = rw (← is) (ap (λ us. slice_get us i) (items_forest ts) ∙ slice_get_map ts i)

pub put_past : (xs : List ℕ) (f : ℕ) (ts : List Term) (args : Trees) (u : Tree) → 0 < length xs → forest ts ≡ args
    → (get_or xs 0 0 ≡ 0) ⊎ (length ts < get_or xs 0 0) → replaced_at xs (app f args) u ≡ None
put_past [] f ts args u n is h = absurd (omega arith)
put_past (zero ∷ xs) f ts args u n is h = refl
put_past (suc i ∷ xs) f ts args u n is (inl h) = absurd (omega arith)
put_past (suc i ∷ xs) f ts args u n is (inr h) =
    let none : slice_get (items args) i ≡ None = item_at ts args i is ∙ ap (option_map tree) (slice_get_past ts i (omega arith)) in
    ap (option_and_then (λ a. option_map (with_argument (app f args) (suc i)) (replaced_at xs a u))) none

put_one : (f : ℕ) (ts : List Term) (args : Trees) (i : ℕ) (new : Term) (b : Bool) (o : Option Tree) → forest ts ≡ args → o ≡ cond b (Some (tree new)) None
    → option_map (with_argument (app f args) (suc i)) o ≡ cond b (Some (app f (forest (slice_set ts (suc i - 1) new)))) None
put_one f ts args i new true o is e = rw e (ap Some (with_argument_forest f ts args (suc i) new is (omega arith)))
put_one f ts args i new false o is e = rw e refl

pub put_inside : (xs : List ℕ) (f : ℕ) (ts : List Term) (args : Trees) (u : Tree) (k : ℕ) (item new : Term) (b : Bool) → 0 < length xs → forest ts ≡ args
    → k ≡ get_or xs 0 0 → (k ≡ 0 → ⊥) → k ≤ length ts → item ≡ get_or ts (k - 1) item
    → replaced_at (take (length xs - 1) (drop 1 xs)) (tree item) u ≡ cond b (Some (tree new)) None
    → replaced_at xs (app f args) u ≡ cond b (Some (app f (forest (slice_set ts (k - 1) new)))) None
put_inside [] f ts args u k item new b n is at positive h read rest = absurd (omega arith)
put_inside (zero ∷ xs) f ts args u k item new b n is at positive h read rest = absurd (positive at)
put_inside (suc i ∷ xs) f ts args u k item new b n is at positive h read rest =
    let j : suc i - 1 ≡ i = sub-one (suc i) in
    let there : slice_get ts i ≡ Some item = slice_get_read ts (length ts) i item refl (omega arith) (rw (at, j) at read) in
    let some : slice_get (items args) i ≡ Some (tree item) = item_at ts args i is ∙ ap (option_map tree) there in
    let whole : take (suc (length xs) - 1) xs ≡ xs = take_all (suc (length xs) - 1) xs (omega arith) in
    rw (at, some) (put_one f ts args i new b (replaced_at xs (tree item) u) is (rw whole at rest))
