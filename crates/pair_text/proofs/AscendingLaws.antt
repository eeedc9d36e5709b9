-- Numbers that ascend: what is read, and what is read again.
use Rattle.std.proofs.Common.{◌≡◌, ℕ, suc, ◌<◌, ◌≤◌, ◌^◌, nat_le, Bool, true, false, cond, List, [], ◌∷◌, map, Ok, Err, refl, sym, ap, subst, ◌∙◌, arith}
use Rattle.std.specs.List.{AllByRecursion}
use Rattle.std.proofs.lemmas.Bool.{leb-true, le-leb}
use Rattle.sexp_core.specs.Items.{Item, Items, items_of}
use Rattle.sexp_core.specs.Printed.{bare}
use Rattle.text_reading.specs.Reading.{Read, place_of}
use Rattle.text_reading.specs.Numbers.{number}
use Rattle.text_reading.specs.Printed.{number_item}
use Rattle.text_reading.proofs.Made.{Makes, ok_same, made_number}
use Rattle.text_reading.proofs.Again.{Spells, SpellsAll, spells_number}
use Rattle.pair_text.specs.InTurn.{AllInTurn, number_that, number_from, above, ascending}
use Rattle.pair_text.proofs.InTurnLaws.{made_in_turn, spells_in_turn}

-- a number from low up to the limit
abbrev pub IsFrom : ℕ → ℕ → ℕ → Type 0
IsFrom limit low n = (low ≤ n) × (n ≤ limit)

made_by_test : (b : Bool) (low limit n at v : ℕ) → nat_le low n ≡ b → n ≤ limit → (let r : Read ℕ = cond b (Ok n) (Err at) in r ≡ Ok v) → IsFrom limit low v
made_by_test true low limit n at v test within e =
    let same : n ≡ v = ok_same n v e in
    let low_is : low ≤ n = leb-true low n test in
    (omega arith, omega arith)
made_by_test false low limit n at v test within e = absurd cc

made_that : (limit low at : ℕ) (r : Read ℕ) (v : ℕ) → ((n : ℕ) → r ≡ Ok n → n ≤ limit) → number_that low at r ≡ Ok v → IsFrom limit low v
made_that limit low at (Err p) v within e = absurd cc
made_that limit low at (Ok n) v within e = made_by_test (nat_le low n) low limit n at v refl (within n refl) e

pub from_made : (limit low : ℕ) → Makes (number_from limit low) (IsFrom limit low)
from_made limit low x v e = made_that limit low (place_of x) (number limit x) v (λ n is. made_number limit x n is) e

pub ascending_made : (limit : ℕ) (xs : Items) (low : ℕ) (ns : List ℕ) → ascending limit xs low ≡ Ok ns → AllInTurn above (IsFrom limit) ns low
ascending_made limit xs low ns e = made_in_turn above (number_from limit) (IsFrom limit) (from_made limit) xs low ns e

from_again : (limit low n : ℕ) → limit < 2 ^ 64 → IsFrom limit low n → Spells (number_from limit low) 0 (number_item n) n
from_again limit low n small h =
    let s = spells_number limit n (omega (arith, h.1)) h.1 in
    record { again = go s; words = s.words; deep = s.deep }
  where
    go : Spells (number limit) 0 (number_item n) n → (y : Item) → bare y ≡ bare (number_item n) → number_from limit low y ≡ Ok n
    go s y e =
        let test : nat_le low n ≡ true = le-leb low n h.0 in
        ap (number_that low (place_of y)) (s.again y e) ∙ ap (λ (b : Bool). cond b (let r : Read ℕ = Ok n in r) (Err (place_of y))) test

pub ascending_again : (limit : ℕ) → limit < 2 ^ 64 → (ns : List ℕ) (low : ℕ) → AllInTurn above (IsFrom limit) ns low
    → SpellsAll (λ ys. ascending limit ys low) 0 (items_of (map number_item ns)) ns
ascending_again limit small ns low h =
    spells_in_turn above (number_from limit) number_item 0 (IsFrom limit) (λ low n is. from_again limit low n small is) ns low h

-- ---- lists that ascend have no number twice, and keep their bounds

pub all_from : (limit low : ℕ) (ns : List ℕ) → AllInTurn above (IsFrom limit) ns low → AllByRecursion (IsFrom limit low) ns
all_from limit low [] h = tt
all_from limit low (n ∷ ns) h = (h.0, wider (suc n) ns (omega (arith, h.0.0)) (all_from limit (suc n) ns h.1))
  where
    wider : (from : ℕ) (ms : List ℕ) → low ≤ from → AllByRecursion (IsFrom limit from) ms → AllByRecursion (IsFrom limit low) ms
    wider from [] le k = tt
    wider from (m ∷ ms) le k = ((omega (arith, k.0.0), k.0.1), wider from ms le k.1)
