-- Which symbols are to be above which, as they are listed.
use Rattle.std.specs.Prelude.{◌≡◌, ◌<◌, ◌≤◌, ℕ, ◌+◌, ◌==◌, if◌then◌else◌, List, [], ◌∷◌, ◌++◌, length, drop, get_or}
use Rattle.std.proofs.Common.{sym, ap, ◌∙◌, append_assoc}
use Rattle.std.proofs.lemmas.List.{append-nil, drop_all}
use Rattle.order_search.proofs.dp_core.Collecting.{next_read}
use Rattle.order_search.specs.OrderSpace.{OrderConstraint, above}
use Rattle.kbo_find.specs.KboSpace.{above_each, above_all, tops_of, kbo_tops}

-- a list that grows by one part is the whole after the last one
one_part_more : (whole made part rest new : List OrderConstraint) → whole ≡ made ++ (part ++ rest) → new ≡ made ++ part → whole ≡ new ++ rest
one_part_more whole made part rest new before grown =
    before ∙ (sym (append_assoc made part rest) ∙ ap (λ (l : List OrderConstraint). l ++ rest) (sym grown))

module _ (symbols : List ℕ) (unary : ℕ) where
  -- those of one symbol with the symbols from number i on are left
  abbrev pub AreOfOne : List OrderConstraint → ℕ → List OrderConstraint → Type 0
  AreOfOne old i made = old ++ above_each unary symbols ≡ made ++ above_each unary (drop i symbols)

  pub one_other_more : (old : List OrderConstraint) (i g : ℕ) (made new : List OrderConstraint) → i < length symbols → g ≡ get_or symbols i 0
      → new ≡ made ++ (if g == unary then [] else above unary g ∷ []) → AreOfOne old i made → AreOfOne old (i + 1) new
  one_other_more old i g made new below is grown before =
      one_part_more (old ++ above_each unary symbols) made (if g == unary then [] else above unary g ∷ []) (above_each unary (drop (i + 1) symbols)) new
      (before ∙ ap (λ (l : List ℕ). made ++ above_each unary l) (next_read symbols i g 0 below is)) grown

  pub all_others : (old : List OrderConstraint) (i : ℕ) (made : List OrderConstraint) → length symbols ≤ i → AreOfOne old i made
      → made ≡ old ++ above_each unary symbols
  all_others old i made past before =
      sym (before ∙ (ap (λ (l : List ℕ). made ++ above_each unary l) (drop_all i symbols past) ∙ append-nil made))

module _ (arity : ℕ → ℕ) (symbols : List ℕ) where
  -- those of the symbols from number i on are left
  abbrev pub AreOfAll : ℕ → List OrderConstraint → Type 0
  AreOfAll i made = kbo_tops arity symbols ≡ made ++ tops_of arity symbols (drop i symbols)

  pub one_unary_more : (i g : ℕ) (made new : List OrderConstraint) → i < length symbols → g ≡ get_or symbols i 0
      → new ≡ made ++ above_all arity symbols g → AreOfAll i made → AreOfAll (i + 1) new
  one_unary_more i g made new below is grown before =
      one_part_more (kbo_tops arity symbols) made (above_all arity symbols g) (tops_of arity symbols (drop (i + 1) symbols)) new
      (before ∙ ap (λ (l : List ℕ). made ++ tops_of arity symbols l) (next_read symbols i g 0 below is)) grown

  pub all_unary : (i : ℕ) (made : List OrderConstraint) → length symbols ≤ i → AreOfAll i made → made ≡ kbo_tops arity symbols
  all_unary i made past before =
      sym (before ∙ (ap (λ (l : List ℕ). made ++ tops_of arity symbols l) (drop_all i symbols past) ∙ append-nil made))
