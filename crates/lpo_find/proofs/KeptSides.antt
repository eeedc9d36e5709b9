-- What is kept of the sides of rules stays true.
use Rattle.std.specs.Prelude.{◌≡◌, ◌<◌, ℕ, ◌+◌, ◌*◌, ◌++◌, ◌∷◌, List, [], length, map, get_or, slice_get, Option, Some, None, unwrap_or}
use Rattle.std.proofs.Common.{refl, sym, ap, subst, arith, inl, inr, ◌∙◌}
use Rattle.std.proofs.lemmas.List.Elements.{All-append, All-replicate}
use Rattle.std.proofs.lemmas.Option.{slice_get_within, get_or_from_slice_get, same_Some}
use Rattle.trs_defs.specs.System.{RewriteRule}
use Rattle.order_theory.specs.ArgumentFilter.{ArgumentFilter, Keep}
use Rattle.path_lpo.specs.pair_order.Entries.{place_among}
use Rattle.path_lpo.specs.Table.{filter_in}
use Rattle.path_lpo.specs.declared.pair.SharedPair.{SharedPair}
use Rattle.assign_search.proofs.Refuting.{lt_suc}
use Rattle.order_search.specs.OrderSpace.{arity_with_mark}
use Rattle.order_search.specs.Distinct.{AreDistinct}
use Rattle.order_search.proofs.PlacedEntries.{stands_at}
use Rattle.lpo_find.specs.Filters.{filters_of}
use Rattle.lpo_find.specs.LpoDepends.{same_filtered}
use Rattle.lpo_find.specs.LpoRow.{entries_of}
use Rattle.lpo_find.specs.KeptSides.{AreSides, AreSidesOf, IsTrueOf, AreAlwaysTrue, IsKnown}
use Rattle.lpo_find.specs.declared.kept.Sides.{Sides}
use Rattle.lpo_find.proofs.Assigning.{no_filter, filter_there}

module _ (symbols values others : List ℕ) (distinct : AreDistinct symbols)
    (agree : (i : ℕ) → i < length symbols → get_or values (2 * i) 0 ≡ get_or others (2 * i) 0) where
  -- the values say the same filters
  same_filter : (arities : List ℕ) (f : ℕ) → filter_in (entries_of arities symbols values) f ≡ filter_in (entries_of arities symbols others) f
  same_filter arities f = go (place_among symbols f) refl
    where
      go : (o : Option ℕ) → place_among symbols f ≡ o → filter_in (entries_of arities symbols values) f ≡ filter_in (entries_of arities symbols others) f
      go None e = sym (no_filter arities symbols values f e) ∙ no_filter arities symbols others f e
      go (Some i) e =
          let lists = map (λ (g : ℕ). filters_of (arity_with_mark arities g)) symbols in
          sym (filter_there arities symbols values f distinct i e lists refl)
          ∙ (ap (λ (v : ℕ). unwrap_or (slice_get (unwrap_or (slice_get lists i) []) v) (Keep [])) (agree i (stands_at symbols f i e).within)
          ∙ filter_there arities symbols others f distinct i e lists refl)

  sides_stay : (arities : List ℕ) (r : RewriteRule) (shared : SharedPair)
      → AreSides (filter_in (entries_of arities symbols values)) r shared → AreSides (filter_in (entries_of arities symbols others)) r shared
  sides_stay arities r shared are =
      let by = filter_in (entries_of arities symbols values) in
      let also = filter_in (entries_of arities symbols others) in
      record {
        left_is = are.left_is ∙ same_filtered by also r.left (λ f _. same_filter arities f);
        right_is = are.right_is ∙ same_filtered by also r.right (λ f _. same_filter arities f);
        parted = are.parted;
      }

  -- what is kept for the filters that the values say
  pub found_sides : (kept : List (Option Sides)) (i number : ℕ) (k : Sides) → slice_get kept i ≡ Some (Some k) → k.number ≡ number → k.values.items ≡ values
      → IsKnown kept symbols number others k.shared
  found_sides kept i number k there same_number same_values arities falling true r at =
      let here : IsTrueOf arities symbols falling (Some k) =
      subst (IsTrueOf arities symbols falling) (get_or_from_slice_get kept i (Some k) (Some k) there) (true i (Some k) (slice_get_within kept i (Some k) there)) in
      let first : AreSidesOf arities symbols falling number k.values.items k.shared =
      subst (λ (n : ℕ). AreSidesOf arities symbols falling n k.values.items k.shared) same_number here in
      let second : AreSidesOf arities symbols falling number values k.shared =
      subst (λ (vs : List ℕ). AreSidesOf arities symbols falling number vs k.shared) same_values first in
      sides_stay arities r k.shared (second r at)

-- a place more, at which nothing is kept
pub nothing_more : (kept : List (Option Sides)) → AreAlwaysTrue kept → AreAlwaysTrue (kept ++ None ∷ [])
nothing_more kept true arities symbols falling =
    All-append (IsTrueOf arities symbols falling) kept (None ∷ []) (true arities symbols falling) (All-replicate (IsTrueOf arities symbols falling) 1 None tt)

-- what is so of the numbers before one and of that one
pub next_too : (P : ℕ → Type 0) (k : ℕ) → ((i : ℕ) → i < k → P i) → P k → (i : ℕ) → i < k + 1 → P i
next_too P k before here i below = elim (lt_suc i k (omega (arith, below))) [ inl same ↦ subst P (sym same) here | inr earlier ↦ before i earlier ]

-- the rule of a number is one
pub of_the_rule : (falling : List RewriteRule) (number : ℕ) (filter : ℕ → ArgumentFilter) (r : RewriteRule) (shared : SharedPair) → slice_get falling number ≡ Some r
    → AreSides filter r shared → (q : RewriteRule) → slice_get falling number ≡ Some q → AreSides filter q shared
of_the_rule falling number filter r shared there are q at = subst (λ (x : RewriteRule). AreSides filter x shared) (same_Some r q (sym there ∙ at)) are
