-- Where the last of some symbols stands among others.
use Rattle.std.specs.Prelude.{◌≡◌, ◌<◌, ◌≤◌, ℕ, ◌+◌, ◌*◌, ◌/◌, ◌^◌, max, Bool, true, false, cond, ◌||◌, ◌==◌, if◌then◌else◌, List, [], ◌∷◌, length, get_or, Option, Some, None, option_map}
use Rattle.std.proofs.Common.{zero, suc, refl, sym, ap, ap₂, arith, ◌∙◌}
use Rattle.std.proofs.lemmas.Bool.Decides.{nat_tests}
use native.Mathlib.Decide.{dec_lt}
use Rattle.trs_defs.specs.Tree.{Tree, Trees, app, nil, cons}
use Rattle.assign_search.specs.Puzzle.{Puzzle}
use Rattle.assign_search.specs.Rest.{reach, reach_below}
use Rattle.assign_search.proofs.Reaching.{reach_le, reach_in}
use Rattle.dp_core.specs.pair_order.Entries.{place_among}
use Rattle.order_search.specs.Distinct.{AreDistinct}
use Rattle.order_search.specs.Ends.{end_among}
use Rattle.order_search.specs.OrderSpace.{occurs_in, occurs_in_some}
use Rattle.order_search.proofs.Tests.{same_number}
use Rattle.order_search.proofs.PlacedEntries.{stands_at}

-- ---- ends of numbers

-- the number that is above all that pass, and at most one above such a number
reach_is : (u : ℕ → Bool) (n k : ℕ) → k < n → ((s : ℕ) → s < n → u s ≡ true → s < k + 1) → u k ≡ true → reach_below u n ≡ k + 1
reach_is u n k below before last = omega (arith, reach_le u n (k + 1) before, reach_in u n k below last)

none_passes : (u : ℕ → Bool) (n : ℕ) → ((s : ℕ) → s < n → u s ≡ true → ⊥) → reach_below u n ≡ 0
none_passes u n none = omega (arith, reach_le u n 0 (λ s l t. absurd (none s l t)))

within_both : (a b : Bool) (n x y r : ℕ) → r ≡ max x y → x ≤ n → y ≤ n → cond (a || b) (suc n) r ≡ max (cond a (suc n) x) (cond b (suc n) y)
within_both true true n x y r e l m = omega arith
within_both true false n x y r e l m = omega (arith, m)
within_both false true n x y r e l m = omega (arith, l)
within_both false false n x y r e l m = e

either_passes : (u v : ℕ → Bool) (n : ℕ) → reach_below (λ i. u i || v i) n ≡ max (reach_below u n) (reach_below v n)
either_passes u v zero = omega arith
either_passes u v (suc n) =
    within_both (u n) (v n) n (reach_below u n) (reach_below v n) (reach_below (λ i. u i || v i) n) (either_passes u v n)
    (reach_le u n n (λ s l t. l)) (reach_le v n n (λ s l t. l))

all_pass : (n : ℕ) → reach_below (λ i. true) n ≡ n
all_pass zero = refl
all_pass (suc n) = refl

-- each number twice
passes_twice : (b c d : Bool) (m n x y : ℕ) → c ≡ b → d ≡ b → m ≡ 2 * n → x ≡ 2 * y → cond c (suc (suc m)) (cond d (suc m) x) ≡ 2 * cond b (suc n) y
passes_twice true true d m n x y ec ed em e = omega (arith, em)
passes_twice true false d m n x y ec ed em e = absurd cc
passes_twice false true d m n x y ec ed em e = absurd cc
passes_twice false false true m n x y ec ed em e = absurd cc
passes_twice false false false m n x y ec ed em e = e

twice_below : (u v : ℕ → Bool) (n m : ℕ) → m ≡ 2 * n → ((s : ℕ) → s < m → v s ≡ u (s / 2)) → reach_below v m ≡ 2 * reach_below u n
twice_below u v zero zero e h = omega arith
twice_below u v zero (suc m) e h = absurd (omega (arith, e))
twice_below u v (suc n) zero e h = absurd (omega (arith, e))
twice_below u v (suc n) (suc zero) e h = absurd (omega (arith, e))
twice_below u v (suc n) (suc (suc m)) e h =
    let last : suc m / 2 ≡ n = omega (arith, e) in
    let first : m / 2 ≡ n = omega (arith, e) in
    let many : m ≡ 2 * n = omega (arith, e) in
    passes_twice (u n) (v (suc m)) (v m) m n (reach_below v m) (reach_below u n)
    (h (suc m) (omega arith) ∙ ap u last) (h m (omega arith) ∙ ap u first) many
    (twice_below u v n m many (λ s l. h s (omega (arith, l))))

-- ---- ends of symbols

test_self : (f g : ℕ) → g ≡ f → (f == g) ≡ true
test_self f g e = grind (arith, nat_tests)

not_there : (f : ℕ) (symbols : List ℕ) (s : ℕ) → place_among symbols f ≡ None → s < length symbols → get_or symbols s 0 ≡ f → ⊥
not_there f [] s none below e = absurd (omega (arith, below))
not_there f (g ∷ gs) s none below e = by_test (λ t rest l at. not_there f gs t rest l at) (g == f) refl (place_among gs f) refl none s below e
  where
    by_test : ((t : ℕ) → place_among gs f ≡ None → t < length gs → get_or gs t 0 ≡ f → ⊥) → (b : Bool) → (g == f) ≡ b → (o : Option ℕ) → place_among gs f ≡ o
        → (if b then Some 0 else option_map suc o) ≡ None → (t : ℕ) → t < suc (length gs) → get_or (g ∷ gs) t 0 ≡ f → ⊥
    by_test later true is o rest k t l at = absurd cc
    by_test later false is (Some j) rest k t l at = absurd cc
    by_test later false is None rest k zero l at = (let same : (g == f) ≡ true = test_self g f (sym at) in absurd cc)
    by_test later false is None rest k (suc t) l at = later t rest (omega (arith, l)) at

pub end_of_place : (symbols : List ℕ) (f k : ℕ) → AreDistinct symbols → place_among symbols f ≡ Some k → end_among (λ g. f == g) symbols ≡ k + 1
end_of_place symbols f k are e =
    let at = stands_at symbols f k e in
    reach_is (λ i. f == get_or symbols i 0) (length symbols) k at.within
    (λ s l t. elim (dec_lt k s) [
      | yes after ↦ absurd (are k s after l (at.there ∙ same_number f (get_or symbols s 0) t))
      | no before ↦ omega (arith, before)
    ])
    (test_self f (get_or symbols k 0) at.there)

pub no_end : (symbols : List ℕ) (f : ℕ) → place_among symbols f ≡ None → end_among (λ g. f == g) symbols ≡ 0
no_end symbols f e = none_passes (λ i. f == get_or symbols i 0) (length symbols) (λ s l t. not_there f symbols s e l (sym (same_number f (get_or symbols s 0) t)))

end_of_both : (t u : ℕ → Bool) (symbols : List ℕ) → end_among (λ f. t f || u f) symbols ≡ max (end_among t symbols) (end_among u symbols)
end_of_both t u symbols = either_passes (λ i. t (get_or symbols i 0)) (λ i. u (get_or symbols i 0)) (length symbols)

pub either_end : (t u : ℕ → Bool) (symbols : List ℕ) (a b e : ℕ) → a ≡ end_among t symbols → b ≡ end_among u symbols → e ≡ max a b → e ≡ end_among (λ f. t f || u f) symbols
either_end t u symbols a b e first second is =
    let both : end_among (λ f. t f || u f) symbols ≡ max (end_among t symbols) (end_among u symbols) = end_of_both t u symbols in
    omega (arith, first, second, is, both)

pub end_of_none : (symbols : List ℕ) → end_among (λ f. false) symbols ≡ 0
end_of_none symbols = none_passes (λ i. false) (length symbols) (λ s l t. absurd cc)

pub end_of_all : (symbols : List ℕ) → end_among (λ f. true) symbols ≡ length symbols
end_of_all symbols = all_pass (length symbols)

pub end_within : (test : ℕ → Bool) (symbols : List ℕ) → end_among test symbols ≤ length symbols
end_within test symbols = reach_le (λ i. test (get_or symbols i 0)) (length symbols) (length symbols) (λ s l t. l)

-- ---- ends of terms

pub root_end : (f : ℕ) (ts : Trees) (symbols : List ℕ) (e : ℕ) → e ≡ end_among (λ g. f == g) symbols
    → max e (end_among (λ g. occurs_in_some g ts) symbols) ≡ end_among (λ g. occurs_in g (app f ts)) symbols
root_end f ts symbols e is = ap (λ (n : ℕ). max n (end_among (λ g. occurs_in_some g ts) symbols)) is ∙ sym (end_of_both (λ g. f == g) (λ g. occurs_in_some g ts) symbols)

pub next_end : (t : Tree) (ts : Trees) (symbols : List ℕ) (e n new whole : ℕ) → max e (end_among (λ g. occurs_in_some g (cons t ts)) symbols) ≡ whole
    → n ≡ end_among (λ g. occurs_in g t) symbols → new ≡ max e n → max new (end_among (λ g. occurs_in_some g ts) symbols) ≡ whole
next_end t ts symbols e n new whole before is grown =
    let both : end_among (λ g. occurs_in_some g (cons t ts)) symbols ≡ max (end_among (λ g. occurs_in g t) symbols) (end_among (λ g. occurs_in_some g ts) symbols)
    = end_of_both (λ g. occurs_in g t) (λ g. occurs_in_some g ts) symbols in
    omega (arith, before, is, grown, both)

pub last_end : (symbols : List ℕ) (e whole : ℕ) → max e (end_among (λ g. occurs_in_some g nil) symbols) ≡ whole → e ≡ whole
last_end symbols e whole before =
    let none : end_among (λ g. occurs_in_some g nil) symbols ≡ 0 = end_of_none symbols in
    omega (arith, before, none)

-- ---- reaches

pub twice_fits : (test : ℕ → Bool) (places symbols : List ℕ) (e : ℕ) → places ≡ symbols → e ≡ end_among test places → 2 * length symbols < 2 ^ 32 → 2 * e < 2 ^ 32
twice_fits test places symbols e same is few =
    let within = end_within test places in
    let long : length places ≡ length symbols = ap length same in
    omega (arith, is, within, long, few)

-- where each symbol has two slots
pub reach_of_symbols : (z : Puzzle) (c : ℕ) (test : ℕ → Bool) (symbols : List ℕ) → z.slots ≡ 2 * length symbols
    → ((s : ℕ) → s < 2 * length symbols → z.uses c s ≡ test (get_or symbols (s / 2) 0)) → reach z c ≡ 2 * end_among test symbols
unfolding reach
reach_of_symbols z c test symbols many h =
    ap (reach_below (z.uses c)) many ∙ twice_below (λ i. test (get_or symbols i 0)) (z.uses c) (length symbols) (2 * length symbols) refl h

same_below : (u v : ℕ → Bool) (n : ℕ) → ((s : ℕ) → s < n → u s ≡ v s) → reach_below u n ≡ reach_below v n
same_below u v zero h = refl
same_below u v (suc n) h =
    ap₂ (λ (b : Bool) (e : ℕ). cond b (suc n) e) (h n (omega arith)) (same_below u v n (λ s l. h s (omega (arith, l))))

-- where each slot is of a symbol
pub reach_of_owners : (z : Puzzle) (c : ℕ) (test : ℕ → Bool) (owners : List ℕ) → z.slots ≡ length owners
    → ((s : ℕ) → s < length owners → z.uses c s ≡ test (get_or owners s 0)) → reach z c ≡ end_among test owners
unfolding reach
reach_of_owners z c test owners many h =
    ap (reach_below (z.uses c)) many ∙ same_below (z.uses c) (λ s. test (get_or owners s 0)) (length owners) h
