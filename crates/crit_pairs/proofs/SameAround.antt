-- Terms that are the same but at one position, from their arguments.
use Rattle.std.proofs.Common.{◌≡◌, ◌≢◌, ℕ, Bool, cond, ◌-◌, ◌<◌, ◌≤◌, List, [], ◌∷◌, ◌++◌, Option, Some, None, zero, suc, map, length, take, drop, get_or, slice_get, slice_set, refl, ap, sym, ◌∙◌, arith, sub-one, append_assoc}
use Rattle.std.specs.Option.{option_and_then, option_map}
use Rattle.std.proofs.lemmas.List.{take_all}
use Rattle.std.proofs.lemmas.Option.{slice_get_read}
use Rattle.trs_defs.specs.Tree.{Tree, Trees, app, trees, items}
use Rattle.trs_defs.specs.Position.{subterm_at, with_argument, replaced_at}
use Rattle.trs_defs.proofs.Positions.{put_there}
use Rattle.trs_core.specs.declared.terms.Term.{Term}
use Rattle.trs_core.specs.View.{tree, forest}
use Rattle.trs_core.proofs.Lookups.{items_forest, slice_get_map}
use Rattle.crit_pairs.specs.Around.{IsSameAround}

pub same_at_root : (p : List ℕ) (t u : Tree) → length p < 1 → IsSameAround p t u
same_at_root [] t u none by = refl
same_at_root (n ∷ p) t u none by = absurd (omega (arith, none))

-- what is put at the position of one of them
pub put_around : (p : List ℕ) (t u by new : Tree) (b : Bool) → subterm_at p t ≢ None → IsSameAround p t u → replaced_at p u by ≡ cond b (Some new) None → replaced_at p t by ≡ Some new
put_around p t u by new b there same put = put_there p t by new b there (sym (same by) ∙ put)

-- the list with another item at a place, and what it is with a third one there
item_there : (ts : List Term) (i : ℕ) (u : Term) (rest : List Term) → i ≤ length ts → slice_get (map tree (take i ts ++ u ∷ rest)) i ≡ Some (tree u)
item_there ts zero u rest h = refl
item_there [] (suc i) u rest h = absurd (omega (arith, h))
item_there (t ∷ ts) (suc i) u rest h = item_there ts i u rest (omega (arith, h))

set_twice : (ts : List Term) (i : ℕ) (u : Term) (a : Tree) → i < length ts → slice_set (map tree (take i ts ++ u ∷ drop (suc i) ts)) i a ≡ slice_set (map tree ts) i a
set_twice [] i u a h = absurd (omega (arith, h))
set_twice (t ∷ ts) zero u a h = refl
set_twice (t ∷ ts) (suc i) u a h = ap (λ us. tree t ∷ us) (set_twice ts i u a (omega (arith, h)))

same_map : (f g : Tree → Tree) → ((a : Tree) → f a ≡ g a) → (o : Option Tree) → option_map f o ≡ option_map g o
same_map f g same None = refl
same_map f g same (Some a) = ap (λ z. Some z) (same a)

-- the arguments are the same but for one, and that one is the same but at the rest of the position
pub same_inside : (xs : List ℕ) (f : ℕ) (ts new : List Term) (args : Trees) (k : ℕ) (item u : Term) → 0 < length xs → forest ts ≡ args → k ≡ get_or xs 0 0
    → (k ≡ 0 → ⊥) → k ≤ length ts → item ≡ get_or ts (k - 1) item → new ≡ take (k - 1) ts ++ u ∷ drop k ts
    → IsSameAround (take (length xs - 1) (drop 1 xs)) (tree item) (tree u) → IsSameAround xs (app f args) (app f (forest new))
same_inside [] f ts new args k item u n is at positive h read made rest = absurd (omega (arith, n))
same_inside (zero ∷ xs) f ts new args k item u n is at positive h read made rest = absurd (positive at)
same_inside (suc i ∷ xs) f ts new args k item u n is at positive h read made rest = λ by.
    let j : suc i - 1 ≡ i = sub-one (suc i) in
    let within : i < length ts = omega (arith, at, h) in
    let made_here : new ≡ take i ts ++ u ∷ drop (suc i) ts = rw (at, j) at made in
    let read_here : item ≡ get_or ts i item = rw (at, j) at read in
    let there : slice_get ts i ≡ Some item = slice_get_read ts (length ts) i item refl within read_here in
    let whole : take (suc (length xs) - 1) xs ≡ xs = take_all (suc (length xs) - 1) xs (omega arith) in
    let below : replaced_at xs (tree u) by ≡ replaced_at xs (tree item) by = (rw whole at rest) by in
    let old_items : items args ≡ map tree ts = ap items (sym is) ∙ items_forest ts in
    let new_items : items (forest new) ≡ map tree (take i ts ++ u ∷ drop (suc i) ts) = items_forest new ∙ ap (map tree) made_here in
    let old_item : slice_get (items args) i ≡ Some (tree item) = ap (λ us. slice_get us i) old_items ∙ (slice_get_map ts i ∙ ap (option_map tree) there) in
    let new_item : slice_get (items (forest new)) i ≡ Some (tree u) = ap (λ us. slice_get us i) new_items ∙ item_there ts i u (drop (suc i) ts) (omega (arith, within)) in
    let same_set : (a : Tree) → with_argument (app f (forest new)) (suc i) a ≡ with_argument (app f args) (suc i) a =
    (λ a. ap (λ us. app f (trees us)) (ap (λ us. slice_set us i a) new_items ∙ (set_twice ts i u a within ∙ sym (ap (λ us. slice_set us i a) old_items)))) in
    ap (option_and_then (λ a. option_map (with_argument (app f (forest new)) (suc i)) (replaced_at xs a by))) new_item
    ∙ (ap (option_map (with_argument (app f (forest new)) (suc i))) below
    ∙ (same_map (with_argument (app f (forest new)) (suc i)) (with_argument (app f args) (suc i)) same_set (replaced_at xs (tree item) by)
    ∙ sym (ap (option_and_then (λ a. option_map (with_argument (app f args) (suc i)) (replaced_at xs a by))) old_item)))

-- a list that grows by parts
pub grown_list : (start first second third : List Term) (xs ys : List Term) (u : Term) → start ≡ [] → first ≡ start ++ xs → second ≡ first ++ u ∷ [] → third ≡ second ++ ys
    → third ≡ xs ++ u ∷ ys
grown_list start first second third xs ys u none a b c =
    let begun : first ≡ xs = rw none at a in
    c ∙ (ap (λ us. us ++ ys) (b ∙ ap (λ us. us ++ u ∷ []) begun) ∙ append_assoc xs (u ∷ []) ys)
