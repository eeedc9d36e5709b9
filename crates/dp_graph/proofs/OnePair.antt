-- The component of a problem that has one pair.
use Rattle.std.specs.Prelude.{◌≡◌, ℕ, List, [], ◌∷◌, ◌++◌, length, get_or, Result, Ok, Err, IfOk, Vec, refl}
use Rattle.std.specs.declared.alloc.Global.{Global}
use Rattle.std.proofs.Common.{inl, inr, sym, ap, subst, arith}
use Rattle.trs_defs.specs.Member.{In, in_first}
use Rattle.trs_defs.proofs.Members.{in_or, no_in}
use Rattle.trs_defs.specs.Run.{Run, Stay}
use Rattle.trs_defs.specs.System.{RewriteRule}
use Rattle.pair_theory.specs.DependencyPair.{DependencyPair}
use Rattle.rewrite_core.specs.Check.{never}
use Rattle.dp_graph.specs.declared.items.GraphItem.{GraphItem}
use Rattle.dp_graph.specs.GroupOrSingle.{GroupOrSingle, group, single, members_of, items_of}
use Rattle.dp_graph.specs.GraphConditions.{HasEdge, are_members}
use Rattle.dp_graph.specs.Components.{IsEdgeWithin, IsComponent, no_items, next, AreComponents, IsOfOnePair}
use Rattle.dp_graph.proofs.ComponentLaws.{Ascends, no_numbers, number, increasing_of, ascending_new}
use Rattle.dp_graph.proofs.ListPlaces.{in_single}

-- a list of one number
pub list_of_one : (numbers : List ℕ) (d : ℕ) → length numbers ≡ 1 → numbers ≡ get_or numbers 0 d ∷ []
list_of_one [] d long = absurd (omega (arith, long))
list_of_one (n ∷ []) d long = refl
list_of_one (n ∷ k ∷ ns) d long = absurd (omega (arith, long))

module _ (rules : List RewriteRule) (all : List DependencyPair) (n : ℕ) where
  one_ascends : Ascends (n ∷ [])
  one_ascends = number (λ m i. absurd (no_in i)) no_numbers

  -- an item that has the pair, and is its component
  the_item : (item : GroupOrSingle) → members_of item ≡ n ∷ [] → IsComponent rules all (n ∷ []) item → AreComponents rules all (n ∷ []) (item ∷ [])
  the_item item is component = record {
    named = subst (λ ms. are_members (n ∷ []) (ms ++ []) (Ok tt)) (sym is) (ascending_new (n ∷ []) [] (n ∷ []) one_ascends (λ m i. (i, λ j. no_in j)));
    whole = never (λ m h. h.1 (subst (λ ms. In m (ms ++ [])) (sym is) h.0));
    components = λ other i. elim (in_or i) [ inl e ↦ subst (IsComponent rules all (n ∷ [])) (sym e) component | inr none ↦ absurd (no_in none) ];
    in_order = next (λ m k i j edge. subst (λ ms. In m (ms ++ []) → In m ms) (sym is) (λ h. h) i) (λ other i ready. absurd (no_in i)) no_items;
  }

  pub one_component : (item : GroupOrSingle) → IsOfOnePair rules all n item → AreComponents rules all (n ∷ []) (item ∷ [])
  one_component (group members) (is, edge) = the_item (group members) is (subst (λ ms. IsComponent rules all (n ∷ []) (group ms)) (sym is) component)
    where
      runs : (R : ℕ → ℕ → Type 0) (k : ℕ) → In k (n ∷ []) → Run R n k × Run R k n
      runs R k i = let e : k ≡ n = in_single i in (subst (λ z. Run R n z) (sym e) Stay, subst (λ z. Run R z n) (sym e) Stay)

      component : IsComponent rules all (n ∷ []) (group (n ∷ []))
      component = (increasing_of (n ∷ []) one_ascends, (n, (n, (in_first, in_first, edge), Stay), λ k. (λ i. (i, runs (IsEdgeWithin rules all (n ∷ [])) k i), λ h. h.0)))
  one_component (single member) (is, none) =
      the_item (single member) (ap (λ z. z ∷ []) is) (subst (λ z. IsComponent rules all (n ∷ []) (single z)) (sym is) (λ (k, (i, j, edge), run). none (subst (HasEdge rules all n) (in_single j) edge)))

module _ (rules : List RewriteRule) (all : List DependencyPair) where
  pub of_problem : {E : Type 0} (numbers : List ℕ) (m : ℕ) → numbers ≡ m ∷ [] → (result : Result (Vec GraphItem Global) E) → IfOk result (λ items. AreComponents rules all (m ∷ []) (items_of items.items))
      → IfOk result (λ items. AreComponents rules all numbers (items_of items.items))
  of_problem numbers m is (Ok items) are = subst (λ z. AreComponents rules all z (items_of items.items)) (sym is) are
  of_problem numbers m is (Err e) are = are
