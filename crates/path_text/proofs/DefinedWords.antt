-- Words that are defined, beside their paths.
use Rattle.std.proofs.Common.{◌≡◌, ℕ, suc, ◌<◌, ◌||◌, Bool, true, false, cond, List, [], ◌∷◌, ◌++◌, length, get_or, Option, Some, None, option_map, is_some, Ok, Err, refl, ap, sym, ◌∙◌, arith}
use Rattle.std.proofs.lemmas.List.{get_or_read}
use Rattle.std.specs.List.{zip}
use Rattle.std.specs.Str.{bytes_eq}
use Rattle.trs_defs.specs.Path.{PlacedRule}
use Rattle.names_text.specs.Names.{number_among}
use Rattle.text_reading.specs.Reading.{Read, chosen}
use Rattle.path_text.specs.Defining.{is_defined}

abbrev Steps : Type 0
Steps = List PlacedRule

-- what is found at a number
abbrev found : List Steps → ℕ → Option ℕ → Read Steps
found ps at None = Err at
found ps at (Some i) = Ok (get_or ps i [])

found_behind : (b : Bool) (p : Steps) (ps : List Steps) (at : ℕ) (r : Read Steps) (o : Option ℕ) → r ≡ found ps at o
    → cond b (Ok p) r ≡ found (p ∷ ps) at (cond b (Some 0) (option_map suc o))
found_behind true p ps at r o e = refl
found_behind false p ps at r None e = e
found_behind false p ps at r (Some i) e = e

pub chosen_at : (ws : List (List ℕ)) (ps : List Steps) (at : ℕ) (w : List ℕ) → length ws ≡ length ps → chosen (zip ws ps) at w ≡ found ps at (number_among ws w)
chosen_at [] ps at w l = refl
chosen_at (v ∷ ws) [] at w l = absurd (omega arith)
chosen_at (v ∷ ws) (p ∷ ps) at w l = found_behind (bytes_eq w v) p ps at (chosen (zip ws ps) at w) (number_among ws w) (chosen_at ws ps at w (omega arith))

missing_behind : (b c : Bool) (o : Option ℕ) → (c ≡ false → o ≡ None) → b || c ≡ false → cond b (Some 0) (option_map suc o) ≡ None
missing_behind true c o more e = absurd cc
missing_behind false c o more e = ap (option_map suc) (more e)

pub not_among : (ws : List (List ℕ)) (ps : List Steps) (w : List ℕ) → length ws ≡ length ps → is_defined (zip ws ps) w ≡ false → number_among ws w ≡ None
not_among [] ps w l e = refl
not_among (v ∷ ws) [] w l e = absurd (omega arith)
not_among (v ∷ ws) (p ∷ ps) w l e = missing_behind (bytes_eq w v) (is_defined (zip ws ps) w) (number_among ws w) (not_among ws ps w (omega arith)) e

pub one_more_word : (ws : List (List ℕ)) (ps : List Steps) (w : List ℕ) (p : Steps) → length ws ≡ length ps → zip (ws ++ w ∷ []) (ps ++ p ∷ []) ≡ zip ws ps ++ (w, p) ∷ []
one_more_word [] [] w p l = refl
one_more_word [] (q ∷ ps) w p l = absurd (omega arith)
one_more_word (v ∷ ws) [] w p l = absurd (omega arith)
one_more_word (v ∷ ws) (q ∷ ps) w p l = ap (λ (ds : List (List ℕ × Steps)). (v, q) ∷ ds) (one_more_word ws ps w p (omega arith))

some_behind : (b c : Bool) (o : Option ℕ) → c ≡ is_some o → b || c ≡ is_some (cond b (Some 0) (option_map suc o))
some_behind true c o e = refl
some_behind false c None e = e
some_behind false c (Some i) e = e

is_among : (ws : List (List ℕ)) (ps : List Steps) (w : List ℕ) → length ws ≡ length ps → is_defined (zip ws ps) w ≡ is_some (number_among ws w)
is_among [] ps w l = refl
is_among (v ∷ ws) [] w l = absurd (omega (arith, l))
is_among (v ∷ ws) (p ∷ ps) w l = some_behind (bytes_eq w v) (is_defined (zip ws ps) w) (number_among ws w) (is_among ws ps w (omega (arith, l)))

-- ---- as the code sees them

module _ (ws : List (List ℕ)) (ps : List Steps) (ds : List (List ℕ × Steps)) where
  pub chosen_none : (at : ℕ) (w : List ℕ) → zip ws ps ≡ ds → length ws ≡ length ps → number_among ws w ≡ None → chosen ds at w ≡ Err at
  chosen_none at w is l e = ap (λ (d : List (List ℕ × Steps)). chosen d at w) (sym is) ∙ chosen_at ws ps at w l ∙ ap (found ps at) e

  pub chosen_some : (at : ℕ) (w : List ℕ) → zip ws ps ≡ ds → length ws ≡ length ps → (i : ℕ) (p : Steps) → number_among ws w ≡ Some i → i < length ws → p ≡ get_or ps i p → chosen ds at w ≡ Ok p
  chosen_some at w is l i p e lt q =
      ap (λ (d : List (List ℕ × Steps)). chosen d at w) (sym is) ∙ chosen_at ws ps at w l ∙ ap (found ps at) e
      ∙ ap Ok (sym (get_or_read ps i p (omega (arith, lt, l)) q []))

  pub not_among_view : (w : List ℕ) → zip ws ps ≡ ds → length ws ≡ length ps → is_defined ds w ≡ false → number_among ws w ≡ None
  not_among_view w is l e = not_among ws ps w l (ap (λ (d : List (List ℕ × Steps)). is_defined d w) is ∙ e)

  pub one_more_view : (vs : List (List ℕ)) (qs : List Steps) (w : List ℕ) (p : Steps) → zip ws ps ≡ ds → length ws ≡ length ps → vs ≡ ws ++ w ∷ [] → qs ≡ ps ++ p ∷ []
      → zip vs qs ≡ ds ++ (w, p) ∷ []
  one_more_view vs qs w p is l e f = rw (e, f) (one_more_word ws ps w p l) ∙ ap (λ (d : List (List ℕ × Steps)). d ++ (w, p) ∷ []) is

  pub defined_is : (w : List ℕ) → zip ws ps ≡ ds → length ws ≡ length ps → is_defined ds w ≡ is_some (number_among ws w)
  defined_is w is l = ap (λ (d : List (List ℕ × Steps)). is_defined d w) (sym is) ∙ is_among ws ps w l
