-- The value of a symbol's part, by the place of the symbol.
use Rattle.std.specs.Prelude.{◌≡◌, ◌<◌, ℕ, ◌+◌, ◌*◌, Bool, true, false, ◌==◌, if◌then◌else◌, List, [], ◌∷◌, get_or, Option, Some, None, option_map}
use Rattle.std.proofs.Common.{suc, refl, sym, ap, arith, ◌∙◌}
use Rattle.kbo_order.specs.pair_order.Entries.{place_among}
use Rattle.order_search.specs.Slots.{table_of}
use Rattle.order_search.specs.OrderSpace.{slots_of}
use Rattle.order_search.proofs.SlotLayout.{start_of, value_at, value_from}

one_later : (b : Bool) (o p : Option ℕ) → o ≡ option_map (λ i. 2 * i) p
    → (if b then Some 0 else option_map (λ n. 2 + n) o) ≡ option_map (λ i. 2 * i) (if b then Some 0 else option_map suc p)
one_later true o p e = let at : 0 ≡ 2 * 0 = omega arith in ap (λ (n : ℕ). Some n) at
one_later false o None e = ap (option_map (λ n. 2 + n)) e
one_later false o (Some i) e = let at : 2 + 2 * i ≡ 2 * suc i = omega arith in ap (option_map (λ n. 2 + n)) e ∙ ap (λ (n : ℕ). Some n) at

-- with two parts for each symbol
starts : (symbols : List ℕ) (f : ℕ) → start_of (λ _. 2) symbols f ≡ option_map (λ i. 2 * i) (place_among symbols f)
starts [] f = refl
starts (g ∷ gs) f = one_later (g == f) (start_of (λ _. 2) gs f) (place_among gs f) (starts gs f)

module _ (symbols values : List ℕ) (f part : ℕ) (small : part < 2) where
  by_place : (o : Option ℕ) → place_among symbols f ≡ o → table_of (slots_of (λ _. 2) symbols) values f part ≡ value_at values 0 part (option_map (λ i. 2 * i) o)
  by_place o e =
      value_from (λ _. 2) values symbols 0 f part small
      ∙ ap (value_at values 0 part) (starts symbols f ∙ ap (option_map (λ i. 2 * i)) e)

  pub value_there : (i : ℕ) → place_among symbols f ≡ Some i → get_or values (2 * i + part) 0 ≡ table_of (slots_of (λ _. 2) symbols) values f part
  value_there i e = let at : 2 * i + part ≡ 0 + (2 * i + part) = omega arith in ap (λ (k : ℕ). get_or values k 0) at ∙ sym (by_place (Some i) e)

  pub value_missing : place_among symbols f ≡ None → 0 ≡ table_of (slots_of (λ _. 2) symbols) values f part
  value_missing e = sym (by_place None e)
