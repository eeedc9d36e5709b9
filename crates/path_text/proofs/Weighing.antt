-- What is left of a weight, part by part; and the longest places.
use Rattle.std.proofs.Common.{◌≡◌, ℕ, ◌+◌, ◌-◌, ◌*◌, ◌^◌, ◌<◌, ◌≤◌, nat_lt, ◌==◌, min, max, zero, suc, false, List, [], ◌∷◌, ◌++◌, length, get_or, drop, map, Option, Some, None, refl, ap, ap₂, subst, sym, ◌∙◌, drop-cons, add-one, arith}
use native.Mathlib.Decide.{dec_lt}
use Rattle.std.specs.Option.{SomeIff}
use Rattle.std.proofs.lemmas.Bool.{le-leb, lt-leb, lt-ltb, le-ltb}
use Rattle.trs_defs.specs.Path.{PlacedRule}
use Rattle.rewrite_core.specs.ShiftedPath.{shifted_path}
use Rattle.path_text.specs.Sharing.{path_weight, longest_place}
use Rattle.path_text.specs.Paths.{is_too_deep, all_steps}
use Rattle.path_text.specs.declared.parts.PathPart.{PathPart}
use Rattle.path_text.specs.Parts.{steps_of_part, room_left}
use Rattle.path_text.specs.Measures.{AreMeasures}

pub weight_joined : (p q : List PlacedRule) → path_weight (p ++ q) ≡ path_weight p + path_weight q
weight_joined [] q = omega arith
weight_joined (s ∷ p) q = let e = weight_joined p q in omega (arith, e)

pub enough : (room w : ℕ) → w ≤ room → room_left room w ≡ Some (room - w)
enough room w le = rw (le-leb w room le) refl

pub too_heavy : (room w : ℕ) → room < w → room_left room w ≡ None
too_heavy room w lt = rw (lt-leb w room lt) refl

some_same : (x y : ℕ) → Some x ≡ Some y → x ≡ y
some_same x y e = cc

pub room_enough : (room w r : ℕ) → room_left room w ≡ Some r → (w ≤ room) × (r + w ≡ room)
room_enough room w r e = elim (dec_lt room w) [
  | yes lt ↦ let none = too_heavy room w lt in absurd cc
  | no n ↦
      let le : w ≤ room = omega (arith, n) in
      let same : r ≡ room - w = some_same r (room - w) (sym e ∙ enough room w le) in
      (le, omega (arith, same, le))
]

pub room_lacks : (room w : ℕ) → room_left room w ≡ None → room < w
room_lacks room w e = elim (dec_lt room w) [
  | yes lt ↦ lt
  | no n ↦ let some = enough room w (omega (arith, n)) in absurd cc
]

-- one weight, and then another
pub room_then : (room a b r : ℕ) → room_left room a ≡ Some r → room_left r b ≡ room_left room (a + b)
room_then room a b r e =
    let (le, is) = room_enough room a r e in
    elim (dec_lt r b) [
      | yes lt ↦ too_heavy r b lt ∙ sym (too_heavy room (a + b) (omega (arith, lt, is)))
      | no n ↦
          enough r b (omega (arith, n)) ∙ ap Some (omega (arith, n, is)) ∙ sym (enough room (a + b) (omega (arith, n, is)))
    ]

pub room_none : (room a b : ℕ) → room_left room a ≡ None → room_left room (a + b) ≡ None
room_none room a b e = let lt = room_lacks room a e in too_heavy room (a + b) (omega (arith, lt))

-- ---- in a loop

pub next_of : {X : Type 0} (xs : List X) (x : X) (i : ℕ) → i < length xs → x ≡ get_or xs i x → drop i xs ≡ x ∷ drop (i + 1) xs
next_of {X} xs x i lt is = drop-cons xs i x lt ∙ ap₂ (λ (y : X) ys. y ∷ ys) (sym is) (ap (λ n. drop n xs) (sym (add-one i)))

length_joined : (p q : List ℕ) → length (p ++ q) ≡ length p + length q
length_joined [] q = omega arith
length_joined (n ∷ p) q = let e = length_joined p q in omega (arith, e)

module _ (steps : List PlacedRule) (s : PlacedRule) (room i : ℕ) (total : Option ℕ) (lt : i < length steps) (is : s ≡ get_or steps i s)
    (before : room_left room (path_weight (drop i steps)) ≡ total) where
  whole : room_left room ((1 + length s.place) + path_weight (drop (i + 1) steps)) ≡ total
  whole = sym (ap (λ (l : List PlacedRule). room_left room (path_weight l)) (next_of steps s i lt is)) ∙ before

  pub step_weighed : (r : ℕ) → room_left room (1 + length s.place) ≡ Some r → room_left r (path_weight (drop (i + 1) steps)) ≡ total
  step_weighed r e = room_then room (1 + length s.place) (path_weight (drop (i + 1) steps)) r e ∙ whole

  pub step_heavy : room_left room (1 + length s.place) ≡ None → None ≡ total
  step_heavy e = sym (room_none room (1 + length s.place) (path_weight (drop (i + 1) steps)) e) ∙ whole

abbrev steps_in : List PathPart → List PlacedRule
steps_in parts = all_steps (map steps_of_part parts)

module _ (parts : List PathPart) (part : PathPart) (room i : ℕ) (total : Option ℕ) (lt : i < length parts) (is : part ≡ get_or parts i part)
    (before : room_left room (path_weight (all_steps (map steps_of_part (drop i parts)))) ≡ total) where
  both : room_left room (path_weight (steps_of_part part) + path_weight (steps_in (drop (i + 1) parts))) ≡ total
  both =
      sym (ap (λ (l : List PathPart). room_left room (path_weight (steps_in l))) (next_of parts part i lt is)
      ∙ ap (room_left room) (weight_joined (steps_of_part part) (steps_in (drop (i + 1) parts)))) ∙ before

  pub part_weighed : (r : ℕ) → room_left room (path_weight (steps_of_part part)) ≡ Some r → room_left r (path_weight (all_steps (map steps_of_part (drop (i + 1) parts)))) ≡ total
  part_weighed r e = room_then room (path_weight (steps_of_part part)) (path_weight (steps_in (drop (i + 1) parts))) r e ∙ both

  pub part_heavy : room_left room (path_weight (steps_of_part part)) ≡ None → None ≡ total
  part_heavy e = sym (room_none room (path_weight (steps_of_part part)) (path_weight (steps_in (drop (i + 1) parts))) e) ∙ both

-- ---- the longest places

longest_shifted : (by : List ℕ) (s : PlacedRule) (steps : List PlacedRule)
    → longest_place (shifted_path by (s ∷ steps)) ≡ length by + longest_place (s ∷ steps)
longest_shifted by s [] = let e = length_joined by s.place in omega (arith, e)
longest_shifted by s (t ∷ steps) = let e = length_joined by s.place in let more = longest_shifted by t steps in omega (arith, e, more)

pub deep : (by : List ℕ) (steps : List PlacedRule) (l : ℕ) → l ≡ longest_place steps → 0 < length by → 0 < length steps
    → is_too_deep by steps ≡ nat_lt 1024 (length by + l)
deep [] steps l e lt1 lt2 = absurd (omega (arith, lt1))
deep (n ∷ by) [] l e lt1 lt2 = absurd (omega (arith, lt2))
deep (n ∷ by) (s ∷ steps) l e lt1 lt2 = ap (nat_lt 1024) (longest_shifted (n ∷ by) s steps ∙ ap (λ m. length (n ∷ by) + m) (sym e))

pub not_deep_here : (by : List ℕ) (steps : List PlacedRule) → length by ≡ 0 → is_too_deep by steps ≡ false
not_deep_here [] steps e = refl
not_deep_here (n ∷ by) steps e = absurd (omega (arith, e))

pub not_deep_empty : (by : List ℕ) (steps : List PlacedRule) → length steps ≡ 0 → is_too_deep by steps ≡ false
not_deep_empty [] steps e = refl
not_deep_empty (n ∷ by) [] e = refl
not_deep_empty (n ∷ by) (s ∷ steps) e = absurd (omega (arith, e))

-- the path at a position weighs the position's numbers more for each step
pub weight_at : (by : List ℕ) (steps : List PlacedRule) → path_weight (shifted_path by steps) ≡ path_weight steps + length by * length steps
weight_at by [] = omega arith
weight_at by (s ∷ steps) = let e = length_joined by s.place in let more = weight_at by steps in omega (arith, e, more)

-- each step weighs at least 1
count_weighs : (steps : List PlacedRule) → length steps ≤ path_weight steps
count_weighs [] = omega arith
count_weighs (s ∷ steps) = let e = count_weighs steps in omega (arith, e)

pub measured : (steps path : List PlacedRule) (count longest weight : ℕ) → path ≡ steps → weight < 2 ^ 64 → weight ≡ path_weight steps
    → count ≡ min (length steps) 18446744073709551615 → longest ≡ min (longest_place steps) 18446744073709551615 → AreMeasures path count longest weight
measured steps path count longest weight same fits weighs counted longest_is =
    let most = count_weighs steps in
    subst (λ (p : List PlacedRule). AreMeasures p count longest weight) (sym same)
    record { count_is = omega (arith, fits, weighs, counted, most); longest_is = longest_is; weight_is = weighs }

-- what is left behind a path at a position, by its weight and its number of steps
module _ (by : List ℕ) (steps : List PlacedRule) (room weight more : ℕ) (weight_is : weight ≡ path_weight steps)
    (more_is : more ≡ length by * length steps) where
  use_weighs : path_weight (shifted_path by steps) ≡ weight + more
  use_weighs = let e = weight_at by steps in omega (arith, e, weight_is, more_is)

  pub use_heavy : room < weight + more → None ≡ room_left room (path_weight (shifted_path by steps))
  use_heavy lt = sym (ap (room_left room) use_weighs ∙ too_heavy room (weight + more) lt)

  pub use_weighed : (whole : ℕ) (left : Option ℕ) → whole ≡ weight + more → SomeIff left (whole ≤ room) (room - whole)
      → left ≡ room_left room (path_weight (shifted_path by steps))
  use_weighed whole None is not = sym (ap (room_left room) use_weighs ∙ too_heavy room (weight + more) (omega (arith, is, not)))
  use_weighed whole (Some r) is (le, r_is) =
      sym (ap (room_left room) use_weighs ∙ enough room (weight + more) (omega (arith, is, le)) ∙ ap Some (omega (arith, is, r_is)))

-- ---- sums that stand still at the last number

pub saturated : (r l by place : ℕ) → l ≡ min place 18446744073709551615 → r ≡ min (by + l) 18446744073709551615 → nat_lt 1024 r ≡ nat_lt 1024 (by + place)
saturated r l by place k e = elim (dec_lt 1024 (by + place)) [
  | yes lt ↦ lt-ltb 1024 r (omega (arith, lt, k, e)) ∙ sym (lt-ltb 1024 (by + place) lt)
  | no more ↦ le-ltb 1024 r (omega (arith, more, k, e)) ∙ sym (le-ltb 1024 (by + place) (omega (arith, more)))
]

-- the longest place of a path at a position
pub longest_at : (by : List ℕ) (steps : List PlacedRule) (l r : ℕ) → l ≡ min (longest_place steps) 18446744073709551615 → 0 < length steps
    → r ≡ min (length by + l) 18446744073709551615 → r ≡ min (longest_place (shifted_path by steps)) 18446744073709551615
longest_at by [] l r k some e = absurd (omega (arith, some))
longest_at by (s ∷ steps) l r k some e = let whole = longest_shifted by s steps in omega (arith, whole, k, e)

pub longest_of_none : (by : List ℕ) (steps : List PlacedRule) → length steps ≡ 0 → 0 ≡ min (longest_place (shifted_path by steps)) 18446744073709551615
longest_of_none by [] e = omega arith
longest_of_none by (s ∷ steps) e = absurd (omega (arith, e))

-- the longest place of paths one behind the other
pub longest_joined : (p q : List PlacedRule) → longest_place (p ++ q) ≡ max (longest_place p) (longest_place q)
longest_joined [] q = omega arith
longest_joined (s ∷ p) q = let e = longest_joined p q in omega (arith, e)

pub not_zero : (n : ℕ) → n == 0 ≡ false → 0 < n
not_zero zero e = absurd cc
not_zero (suc n) e = omega arith

-- ---- the longest place of parts, in a loop

pub longest_next : (parts : List PathPart) (part : PathPart) (longest more most i total : ℕ) → i < length parts → part ≡ get_or parts i part
    → max longest (min (longest_place (all_steps (map steps_of_part (drop i parts)))) 18446744073709551615) ≡ total
    → more ≡ min (longest_place (steps_of_part part)) 18446744073709551615 → most ≡ max longest more
    → max most (min (longest_place (all_steps (map steps_of_part (drop (i + 1) parts)))) 18446744073709551615) ≡ total
longest_next parts part longest more most i total lt is before more_is most_is =
    let behind = longest_place (steps_in (drop (i + 1) parts)) in
    let whole : longest_place (steps_in (drop i parts)) ≡ max (longest_place (steps_of_part part)) behind =
    ap (λ (l : List PathPart). longest_place (steps_in l)) (next_of parts part i lt is) ∙ longest_joined (steps_of_part part) (steps_in (drop (i + 1) parts)) in
    omega (arith, whole, before, more_is, most_is)
