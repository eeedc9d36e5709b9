-- Paths in a table, none of them twice.
use Rattle.std.proofs.Common.{◌≡◌, ℕ, zero, suc, ◌+◌, nat_le, false, List, [], ◌∷◌, ◌++◌, map, take, slice_get, Option, Some, None, is_some, sym, ap, ap₂, subst, ◌∙◌, arith}
use native.Mathlib.Decide.{dec_lt}
use Rattle.std.specs.List.{AllByRecursion}
use Rattle.std.proofs.lemmas.Bool.{le-leb, lt-leb}
use Rattle.std.proofs.lemmas.List.{map-append}
use Rattle.text_reading.proofs.Tables.{all_append}
use Rattle.trs_defs.specs.Path.{PlacedRule}
use Rattle.path_text.specs.Sharing.{path_weight, paths_weight}
use Rattle.path_text.specs.Parts.{room_left}
use Rattle.path_text.specs.PathNames.{path_number}
use Rattle.path_text.specs.PathTexts.{path_text, HasTexts}
use Rattle.path_text.specs.Ranges.{IsPlacedInRange}
use Rattle.path_text.proofs.Weighing.{enough, too_heavy, room_enough, room_lacks, room_then, room_none}

abbrev Steps : Type 0
Steps = List PlacedRule

-- an element of a longer list stands in the shorter one, or is the last
last_or_before : (P : List Steps → Steps → Type 0) (ps : List Steps) (q : Steps) → ((k : ℕ) (p : Steps) → slice_get ps k ≡ Some p → P (take k ps) p) → P ps q
    → (k : ℕ) (p : Steps) → slice_get (ps ++ q ∷ []) k ≡ Some p → P (take k (ps ++ q ∷ [])) p
last_or_before P [] q each last zero p e = let same : q ≡ p = cc in (let T : Steps → Type 0 = P [] in subst T same last)
last_or_before P [] q each last (suc k) p e = absurd cc
last_or_before P (r ∷ ps) q each last zero p e = each zero p e
last_or_before P (r ∷ ps) q each last (suc k) p e =
    last_or_before (λ front s. P (r ∷ front) s) ps q (λ j s found. each (suc j) s found) last k p e

pub alone_more : (ps : List Steps) (q : Steps) → ((k : ℕ) (p : Steps) → slice_get ps k ≡ Some p → path_number (take k ps) p ≡ None) → path_number ps q ≡ None
    → (k : ℕ) (p : Steps) → slice_get (ps ++ q ∷ []) k ≡ Some p → path_number (take k (ps ++ q ∷ [])) p ≡ None
alone_more ps q each last = last_or_before (λ front p. path_number front p ≡ None) ps q each last

-- one more path, with its text
pub texts_more : (texts : List (List ℕ)) (ps : List Steps) (q : Steps) (text : List ℕ) (ts : List (List ℕ)) (qs : List Steps) → HasTexts texts ps → text ≡ path_text q → AllByRecursion IsPlacedInRange q
    → path_number ps q ≡ None → ts ≡ texts ++ text ∷ [] → qs ≡ ps ++ q ∷ [] → HasTexts ts qs
texts_more texts ps q text ts qs h is range new e f =
    let T : List Steps → Type 0 = HasTexts ts in
    subst T (sym f)
    (record {
      same = e ∙ ap₂ (λ (us : List (List ℕ)) (u : List ℕ). us ++ u ∷ []) h.same is ∙ sym (map-append path_text ps (q ∷ []));
      range = all_append (AllByRecursion IsPlacedInRange) ps (q ∷ []) h.range (range, tt);
      alone = alone_more ps q h.alone new;
    })

-- paths behind pointers
pub pointed_more : {X : Type 0} (f : X → Steps) (xs ys : List X) (x : X) → ys ≡ xs ++ x ∷ [] → map f ys ≡ map f xs ++ f x ∷ []
pointed_more f xs ys x e = ap (map f) e ∙ map-append f xs (x ∷ [])

-- ---- weights

pub path_weighed : (front rest : List Steps) (p : Steps) (room r : ℕ) (total : Option ℕ) → front ≡ p ∷ rest → room_left room (paths_weight front) ≡ total → room_left room (path_weight p) ≡ Some r
    → room_left r (paths_weight rest) ≡ total
path_weighed front rest p room r total split before e =
    room_then room (path_weight p) (paths_weight rest) r e ∙ ap (λ (l : List Steps). room_left room (paths_weight l)) (sym split) ∙ before

pub path_heavy : (front rest : List Steps) (p : Steps) (room : ℕ) (total : Option ℕ) → front ≡ p ∷ rest → room_left room (paths_weight front) ≡ total → room_left room (path_weight p) ≡ None
    → None ≡ total
path_heavy front rest p room total split before e =
    sym (room_none room (path_weight p) (paths_weight rest) e) ∙ ap (λ (l : List Steps). room_left room (paths_weight l)) (sym split) ∙ before

-- two weights, one after the other
pub both_fit : (room a b r : ℕ) (o : Option ℕ) → room_left room a ≡ Some r → o ≡ room_left r b → is_some o ≡ nat_le (b + a) room
both_fit room a b r o e f =
    let (le, is) = room_enough room a r e in
    elim (dec_lt r b) [
      | yes lt ↦ ap is_some (f ∙ too_heavy r b lt) ∙ sym (lt-leb (b + a) room (omega (arith, lt, is)))
      | no n ↦ ap is_some (f ∙ enough r b (omega (arith, n))) ∙ sym (le-leb (b + a) room (omega (arith, n, is)))
    ]

pub first_heavy : (room a b : ℕ) → room_left room a ≡ None → false ≡ nat_le (b + a) room
first_heavy room a b e = let lt = room_lacks room a e in sym (lt-leb (b + a) room (omega (arith, lt)))
