-- A `BTreeMap` of terms read as a finite map of trees, and arguments by their places.
use Rattle.std.proofs.Common.{◌≡◌, ℕ, ◌-◌, ◌<◌, map, arith, slice_set, Bool, true, false, cond, List, [], ◌∷◌, Option, Some, None, refl, ap, sym, ◌∙◌, zero, suc, length, sub-one, slice_get}
use Rattle.std.specs.Borrow.{Bor}
use Rattle.std.specs.Option.{option_copied, option_map}
use Rattle.std.specs.Slice.{IsItemAt}
use Rattle.std.proofs.lemmas.Option.{slice_get_read, slice_get_past}
use Rattle.std.specs.Ordering.{nat_cmp, is_eq, eq_by_cmp}
use Rattle.std.specs.Cmp.{nat_cmp_total, eq_by_cmp_equiv}
use Rattle.std.specs.Map.{lookup}
use Rattle.std.specs.BTreeMap.{is_at}
use Rattle.std.specs.FinMap.{from_entries, insert, find, get, get-insert, get-from_entries, same_map, nat_cmp-IsAntisymmetric}
use Rattle.trs_defs.specs.Tree.{Tree, Trees, app, items, items_trees}
use Rattle.trs_defs.specs.Substitution.{apply, apply_all}
use Rattle.trs_defs.specs.Position.{argument_at, with_argument}
use Rattle.trs_core.specs.declared.terms.Term.{Term}
use Rattle.trs_core.specs.View.{tree, forest, entry_trees}

option_map_cond : (b : Bool) (t : Term) (o : Option Term) → option_map tree (cond b (Some t) o) ≡ cond b (Some (tree t)) (option_map tree o)
option_map_cond true t o = refl
option_map_cond false t o = refl

lookup_find : (k : ℕ) (es : List (ℕ × Term)) → option_map tree (lookup (is_at (nat_cmp k)) es) ≡ find nat_cmp k (entry_trees es)
lookup_find k [] = refl
lookup_find k (e ∷ es) = option_map_cond (is_eq (nat_cmp k e.0)) e.1 (lookup (is_at (nat_cmp k)) es) ∙ ap (cond (is_eq (nat_cmp k e.0)) (Some (tree e.1))) (lookup_find k es)

pub get_lookup : (k : ℕ) (es : List (ℕ × Term)) → get (from_entries {R = nat_cmp} (entry_trees es)) k ≡ option_map tree (lookup (is_at (nat_cmp k)) es)
get_lookup k es = get-from_entries nat_cmp_total (entry_trees es) k ∙ sym (lookup_find k es)

pub from_entries_updated : (es ns : List (ℕ × Term)) (k : ℕ) (t : Term)
    → ((q : ℕ) → lookup (is_at (nat_cmp q)) ns ≡ cond (is_at (nat_cmp k) q) (Some t) (lookup (is_at (nat_cmp q)) es))
    → from_entries {R = nat_cmp} (entry_trees ns) ≡ insert (from_entries (entry_trees es)) k (tree t)
from_entries_updated es ns k t h = same_map nat_cmp_total nat_cmp-IsAntisymmetric _ _ (λ q.
    get_lookup q ns ∙ ap (option_map tree) (h q) ∙ option_map_cond (is_at (nat_cmp k) q) t (lookup (is_at (nat_cmp q)) es)
    ∙ ap (λ b. cond b (Some (tree t)) (option_map tree (lookup (is_at (nat_cmp q)) es))) ((eq_by_cmp_equiv nat_cmp_total).symm k q)
    ∙ ap (cond (eq_by_cmp nat_cmp q k) (Some (tree t))) (sym (get_lookup q es)) ∙ sym (get-insert nat_cmp_total (from_entries (entry_trees es)) k (tree t) q))

pub items_forest : (ts : List Term) → items (forest ts) ≡ map tree ts
items_forest ts = items_trees (map tree ts)

pub slice_get_map : (ts : List Term) (i : ℕ) → slice_get (map tree ts) i ≡ option_map tree (slice_get ts i)
slice_get_map [] i = refl
slice_get_map (t ∷ ts) zero = refl
slice_get_map (t ∷ ts) (suc i) = slice_get_map ts i

pub slice_set_map : (ts : List Term) (i : ℕ) (u : Term) → slice_set (map tree ts) i (tree u) ≡ map tree (slice_set ts i u)
slice_set_map [] i u = refl
slice_set_map (t ∷ ts) zero u = refl
slice_set_map (t ∷ ts) (suc i) u = ap (λ us. tree t ∷ us) (slice_set_map ts i u)

pub argument_at_past : (f : ℕ) (ts : List Term) (args : Trees) (place : ℕ) → forest ts ≡ args → (place ≡ 0 → ⊥) → argument_at (app f args) place ≡ option_map tree (slice_get ts (place - 1))
argument_at_past f ts args zero is h = absurd (h refl)
argument_at_past f ts args (suc i) is h = rw (← is, sub-one) (ap (λ us. slice_get us i) (items_forest ts) ∙ slice_get_map ts i)

pub copied_item : (xs : List Term) (i : ℕ) (r : Option (Bor Term)) → IsItemAt xs i r → option_copied r ≡ slice_get xs i
copied_item xs i None h = sym (slice_get_past xs i h.3)
copied_item xs i (Some x) h = sym (slice_get_read xs (length xs) i x.now refl h.3.0 h.1)

pub apply_all_forest : (s : ℕ → Tree) (us ts : List Term) → map tree us ≡ map (λ t. apply s (tree t)) ts → forest us ≡ apply_all s (forest ts)
apply_all_forest s [] [] e = refl
apply_all_forest s [] (t ∷ ts) e = absurd cc
apply_all_forest s (u ∷ us) [] e = absurd cc
apply_all_forest s (u ∷ us) (t ∷ ts) e = let rest : forest us ≡ apply_all s (forest ts) = apply_all_forest s us ts cc in let first : tree u ≡ apply s (tree t) = cc in cc

pub with_argument_forest : (f : ℕ) (ts : List Term) (args : Trees) (place : ℕ) (u : Term) → forest ts ≡ args → 0 < place → with_argument (app f args) place (tree u) ≡ app f (forest (slice_set ts (place - 1) u))
with_argument_forest f ts args zero u is h = absurd (omega arith)
with_argument_forest f ts args (suc i) u is h =
    rw (← is, sub-one, items_forest ts, slice_set_map ts i u) refl
