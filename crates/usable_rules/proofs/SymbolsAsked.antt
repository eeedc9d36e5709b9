-- The least symbol without an entry, of the sides of pairs.
use Rattle.std.proofs.Common.{◌≡◌, ◌+◌, ◌++◌, ◌∷◌, ℕ, Bool, List, drop, Option, Some, slice_get, ap, sym, ◌∙◌}
use Rattle.pair_theory.specs.DependencyPair.{DependencyPair}
use Rattle.dp_core.specs.Symbols.{symbols_of_all, symbols_below_roots}
use Rattle.dp_core.specs.LeastLacking.{least_lacking}
use Rattle.dp_core.proofs.LeastLacking.{least_lacking_both}
use Rattle.trs_defs.proofs.ListItems.{next_item}

module _ (has : ℕ → Bool) where
  -- the one symbols, and then the other ones
  pub both_asked : (xs ys : List ℕ) (least first whole : Option ℕ) → first ≡ least_lacking has least xs → whole ≡ least_lacking has first ys
      → whole ≡ least_lacking has least (xs ++ ys)
  both_asked xs ys least first whole e d = d ∙ (ap (λ o. least_lacking has o ys) e ∙ sym (least_lacking_both has xs ys least))

  -- one pair more of those that are left
  pub sides_asked : (taken : List DependencyPair) (i : ℕ) (p : DependencyPair) (least next whole : Option ℕ) → slice_get taken i ≡ Some p
      → next ≡ least_lacking has least (symbols_of_all p.from.args ++ symbols_of_all p.to.args)
      → least_lacking has least (symbols_below_roots (drop i taken)) ≡ whole → least_lacking has next (symbols_below_roots (drop (i + 1) taken)) ≡ whole
  sides_asked taken i p least next whole there e h =
      let opened : drop i taken ≡ p ∷ drop (i + 1) taken = next_item taken i p there in
      let rest = symbols_below_roots (drop (i + 1) taken) in
      ap (λ o. least_lacking has o rest) e
      ∙ (sym (least_lacking_both has (symbols_of_all p.from.args ++ symbols_of_all p.to.args) rest least)
      ∙ (ap (λ ps. least_lacking has least (symbols_below_roots ps)) (sym opened) ∙ h))
