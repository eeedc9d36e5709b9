-- What decides a comparison.
use Rattle.std.proofs.Common.{◌≡◌, ℕ, ◌+◌, List, [], ◌∷◌, length, ◌<◌, ◌∙◌, refl, sym, arith, drop, get_or, nat_cmp, add-one, drop-cons, Bool, IsTrue, ◌↔◌}
use Rattle.std.specs.Prelude.{◌==◌}
use Rattle.std.specs.declared.cmp.Ordering.{Ordering}
use Rattle.std.specs.declared.cmp.Ordering.TheVariants.{Less, Equal, Greater}
use Rattle.std.specs.Ordering.{ordering_then, ordering_index}
use Rattle.std.specs.FinMap.{nat_cmp-IsAntisymmetric}
use Rattle.trs_defs.specs.Tree.{Tree, app, count}
use Rattle.trs_defs.specs.Order.{tree_cmp, trees_cmp}
use Rattle.trs_defs.proofs.OrderLaws.{tree_cmp_equal, tree_cmp_same, then_assoc, both_equal}
use Rattle.trs_core.specs.declared.terms.Term.{Term}
use Rattle.trs_core.specs.View.{tree, forest}

pub count_forest : (ts : List Term) → count (forest ts) ≡ length ts
count_forest [] = refl
count_forest (t ∷ ts) = omega (arith, count_forest ts)

pub app_cmp : (f g : ℕ) (ts us : List Term) → tree_cmp (app f (forest ts)) (app g (forest us)) ≡ ordering_then (ordering_then (nat_cmp f g) (nat_cmp (length ts) (length us))) (trees_cmp (forest ts) (forest us))
app_cmp f g ts us = rw (count_forest ts, count_forest us) (sym (then_assoc (nat_cmp f g) (nat_cmp (length ts) (length us)) (trees_cmp (forest ts) (forest us))))

pub same_heads : (f g n m : ℕ) → ordering_then (nat_cmp f g) (nat_cmp n m) ≡ Equal → n ≡ m
same_heads f g n m e = nat_cmp-IsAntisymmetric n m (both_equal (nat_cmp f g) (nat_cmp n m) e).1

-- the order of the rest of two lists, from the next two items
pub trees_cmp_drop : (ts us : List Term) (i : ℕ) (d e : Term) → i < length ts → i < length us
    → trees_cmp (forest (drop i ts)) (forest (drop i us)) ≡ ordering_then (tree_cmp (tree (get_or ts i d)) (tree (get_or us i e))) (trees_cmp (forest (drop (i + 1) ts)) (forest (drop (i + 1) us)))
trees_cmp_drop ts us i d e h k = rw (add-one, drop-cons ts i d, drop-cons us i e) refl

-- Two applications, and what the comparison of their heads gave.
pub record AreApplications (s o : Tree) (ts us : List Term) (r : Ordering) : Type 0 where
  pub same_order : tree_cmp s o ≡ ordering_then r (trees_cmp (forest ts) (forest us))
  pub same_length : r ≡ Equal → length ts ≡ length us

pub applications : (s o : Tree) (f g n m : ℕ) (ts us : List Term) (a b r : Ordering)
    → s ≡ app f (forest ts) → o ≡ app g (forest us) → n ≡ length ts → m ≡ length us
    → a ≡ nat_cmp f g → b ≡ nat_cmp n m → r ≡ ordering_then a b → AreApplications s o ts us r
applications s o f g n m ts us a b r is_s is_o is_n is_m is_a is_b is_r = record {
  same_order = rw (is_s, is_o, is_r, is_a, is_b, is_n, is_m) (app_cmp f g ts us);
  same_length = λ e. let h : ordering_then (nat_cmp f g) (nat_cmp n m) ≡ Equal = rw (← is_a, ← is_b, ← is_r) e in sym is_n ∙ (same_heads f g n m h ∙ is_m);
}

-- One more pair of arguments, and what its comparison gave.
pub next_pair : (ts us : List Term) (i : ℕ) (t u : Term) (r whole : Ordering)
    → length ts ≡ length us → i < length ts → t ≡ get_or ts i t → u ≡ get_or us i u → r ≡ tree_cmp (tree t) (tree u)
    → trees_cmp (forest (drop i ts)) (forest (drop i us)) ≡ whole
    → whole ≡ ordering_then r (trees_cmp (forest (drop (i + 1) ts)) (forest (drop (i + 1) us)))
next_pair ts us i t u r whole l h is_t is_u is_r rest =
    rw (← rest, is_r, is_t, is_u) (trees_cmp_drop ts us i t u h (omega arith))

pub then_first_equal : (r o whole : Ordering) → whole ≡ ordering_then r o → r ≡ Equal → o ≡ whole
then_first_equal r o whole e is = rw (e, is) refl

-- a comparison that is tested for `Equal`
is_equal : (r : Ordering) (b : Bool) → b ≡ (ordering_index r == 1) → IsTrue b ↔ (r ≡ Equal)
is_equal Less b e = (λ h. absurd cc, λ h. absurd cc)
is_equal Equal b e = (λ h. refl, λ h. e)
is_equal Greater b e = (λ h. absurd cc, λ h. absurd cc)

pub same_terms : (t u : Term) (r : Ordering) (b : Bool) → r ≡ tree_cmp (tree t) (tree u) → b ≡ (ordering_index r == 1) → IsTrue b ↔ (tree t ≡ tree u)
same_terms t u r b is_r is_b =
    let k = is_equal r b is_b in
    (λ h. tree_cmp_equal (tree t) (tree u) (sym is_r ∙ k.0 h), λ h. k.1 (is_r ∙ tree_cmp_same (tree t) (tree u) h))
