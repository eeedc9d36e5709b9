-- How the occurrences of variables differ, argument by argument.
use Rattle.std.proofs.Common.{◌≡◌, ℕ, ℤ, pos, ◌+◌, ◌+ℤ◌, ◌≤ℤ◌, ◌≤◌, ◌<◌, ap, arith, Ok, Bool, true, false, cond, ◌==◌, List}
use Rattle.std.proofs.lemmas.Int.{ints}
use Rattle.trs_defs.specs.Tree.{Tree, Trees, var, app, nil, cons}
use Rattle.trs_defs.specs.Variable.{occurrences, occurrences_in_all}
use Rattle.order_theory.specs.KnuthBendix.{weigh, weigh_all}
use Rattle.kbo_order.specs.declared.balances.Side.{Side}
use Rattle.kbo_order.specs.declared.balances.Side.TheVariants.{Left, Right}
use Rattle.kbo_order.specs.Balances.{difference_at, IsCounted, AreBothCounted, IsDifference, TermIsCounted, TermsAreCounted, AreDifferences, AreEven}
use Rattle.kbo_order.specs.Seen.{IsWeight, IsSum}

one_or_none : (b : Bool) → cond b 1 0 ≤ 1
one_or_none true = omega arith
one_or_none false = omega arith

module _ (w : ℕ → ℕ) (x : ℕ) where
  mutual
    pub count_le : (t : Tree) → occurrences x t ≤ weigh w t
    count_le (var y) = one_or_none (y == x)
    count_le (app f ts) = omega (arith, counts_le ts)

    counts_le : (ts : Trees) → occurrences_in_all x ts ≤ weigh_all w ts
    counts_le nil = omega arith
    counts_le (cons t ts) = omega (arith, count_le t, counts_le ts)

-- occurrences in one term
pub counted_twice : (side : Side) (m n : ℕ) (a b c : ℤ) → IsCounted side m a b → IsCounted side n b c → IsCounted side (m + n) a c
counted_twice Left m n a b c h k = λ small.
    let first : b ≡ a +ℤ pos m = h (omega (arith, ints)) in
    let second : c ≡ b +ℤ pos n = k (omega (arith, ints)) in
    omega (arith, ints)
counted_twice Right m n a b c h k = λ small.
    let first : b +ℤ pos m ≡ a = h (omega (arith, ints)) in
    let second : c +ℤ pos n ≡ b = k (omega (arith, ints)) in
    omega (arith, ints)

counted_nothing : (side : Side) (a : ℤ) → IsCounted side 0 a a
counted_nothing Left a = λ small. omega (arith, ints)
counted_nothing Right a = λ small. omega (arith, ints)

pub both_counted : (m n : ℕ) (a b c : ℤ) → IsCounted Left m a b → IsCounted Right n b c → AreBothCounted m n a c
both_counted m n a b c h k = λ small large.
    let first : b ≡ a +ℤ pos m = h small in
    let second : c +ℤ pos n ≡ b = k (omega (arith, ints)) in
    omega (arith, ints)

module _ (size from : ℕ) (side : Side) where
  -- what a walk over the arguments has still to add
  abbrev pub Remains : Trees → Trees → List ℤ → List ℤ → Type 0
  Remains ts rest before now = (i : ℕ) → i < size → (after : ℤ) → IsCounted side (occurrences_in_all (from + i) rest) (difference_at now i) after
      → IsCounted side (occurrences_in_all (from + i) ts) (difference_at before i) after

  pub all_remain : (ts : Trees) (before : List ℤ) → Remains ts ts before before
  all_remain ts before i small after h = h

  pub more_counted : (ts : Trees) (t : Tree) (rest : Trees) (before now new : List ℤ) → Remains ts (cons t rest) before now → TermIsCounted size from side t now new
      → Remains ts rest before new
  more_counted ts t rest before now new h counted i small after k =
      h i small after (counted_twice side (occurrences (from + i) t) (occurrences_in_all (from + i) rest) (difference_at now i) (difference_at new i) after (counted i small) k)

  pub none_remain : (f : ℕ) (ts : Trees) (before now : List ℤ) → Remains ts nil before now → TermIsCounted size from side (app f ts) before now
  none_remain f ts before now h i small = h i small (difference_at now i) (counted_nothing side (difference_at now i))

-- occurrences in two terms
pub terms_counted : (size from : ℕ) (s t : Tree) (before now after : List ℤ) → TermIsCounted size from Left s before now → TermIsCounted size from Right t now after
    → TermsAreCounted size from s t before after
terms_counted size from s t before now after h k i small =
    both_counted (occurrences (from + i) s) (occurrences (from + i) t) (difference_at before i) (difference_at now i) (difference_at after i) (h i small) (k i small)

pub record DifferSoFar (x : ℕ) (ss ts us vs : Trees) (left_weight right_weight : ℕ) (difference : ℤ) : Type 0 where
  pub as_occurrences : difference +ℤ pos (occurrences_in_all x ts + occurrences_in_all x us) ≡ pos (occurrences_in_all x ss + occurrences_in_all x vs)
  pub left_light : difference ≤ℤ pos left_weight
  pub right_light : pos 0 ≤ℤ (difference +ℤ pos right_weight)

module _ (size from : ℕ) where
  -- what a walk over two argument lists has counted
  abbrev pub Counted : Trees → Trees → Trees → Trees → ℕ → ℕ → List ℤ → Type 0
  Counted ss ts us vs left_weight right_weight differences =
      (i : ℕ) → i < size → DifferSoFar (from + i) ss ts us vs left_weight right_weight (difference_at differences i)

  pub counted_none : (ss ts : Trees) (differences : List ℤ) → AreEven size differences → Counted ss ts ss ts 0 0 differences
  counted_none ss ts differences even i small =
      let d : difference_at differences i ≡ pos 0 = even i small in
      record { as_occurrences = omega (arith, ints); left_light = omega (arith, ints); right_light = omega (arith, ints) }

  -- the differences of one term twice
  pub even_differences : (s t : Tree) (differences : List ℤ) → s ≡ t → AreDifferences size from s t differences → AreEven size differences
  even_differences s t differences e h i small =
      let same : occurrences (from + i) s ≡ occurrences (from + i) t = ap (occurrences (from + i)) e in
      let d : IsDifference (from + i) s t (difference_at differences i) = h i small in
      omega (arith, ints)

  pub differences_even : (s t : Tree) (differences : List ℤ) → s ≡ t → AreEven size differences → AreDifferences size from s t differences
  differences_even s t differences e even i small =
      let same : occurrences (from + i) s ≡ occurrences (from + i) t = ap (occurrences (from + i)) e in
      let d : difference_at differences i ≡ pos 0 = even i small in
      omega (arith, ints)

  module _ (w : ℕ → ℕ) where
    -- one variable, of two arguments
    module _ (x : ℕ) (ss ts : Trees) (a b : Tree) (us vs : Trees) (lw rw : ℕ) (d : ℤ) (h : DifferSoFar x ss ts (cons a us) (cons b vs) lw rw d) (m n lw' rw' : ℕ)
        (is_m : IsWeight w a (Ok m)) (is_n : IsWeight w b (Ok n)) (l_sum : IsSum lw m (Ok lw')) (r_sum : IsSum rw n (Ok rw')) (new : ℤ) where
      one_seen : d ≡ pos 0 → IsDifference x a b new → DifferSoFar x ss ts us vs lw' rw' new
      one_seen even seen =
          let more : occurrences x a ≤ weigh w a = count_le w x a in
          let other : occurrences x b ≤ weigh w b = count_le w x b in
          let before = h.as_occurrences in
          record {
            as_occurrences = omega (arith, ints);
            left_light = omega (arith, ints, is_m.0, l_sum.0);
            right_light = omega (arith, ints, is_n.0, r_sum.0);
          }

      one_measured : AreBothCounted (occurrences x a) (occurrences x b) d new → DifferSoFar x ss ts us vs lw' rw' new
      one_measured counted =
          let more : occurrences x a ≤ weigh w a = count_le w x a in
          let other : occurrences x b ≤ weigh w b = count_le w x b in
          let l = h.left_light in
          let r = h.right_light in
          let is : new +ℤ pos (occurrences x b) ≡ d +ℤ pos (occurrences x a) =
          counted (omega (arith, ints, is_m.0, l_sum.1)) (omega (arith, ints, is_n.0, r_sum.1)) in
          let before = h.as_occurrences in
          record {
            as_occurrences = omega (arith, ints);
            left_light = omega (arith, ints, is_m.0, l_sum.0);
            right_light = omega (arith, ints, is_n.0, r_sum.0);
          }

    module _ (ss ts : Trees) (a b : Tree) (us vs : Trees) (lw rw : ℕ) (differences : List ℤ) (h : Counted ss ts (cons a us) (cons b vs) lw rw differences) (m n lw' rw' : ℕ)
        (is_m : IsWeight w a (Ok m)) (is_n : IsWeight w b (Ok n)) (l_sum : IsSum lw m (Ok lw')) (r_sum : IsSum rw n (Ok rw')) (new : List ℤ) where
      pub counted_seen : AreEven size differences → AreDifferences size from a b new → Counted ss ts us vs lw' rw' new
      counted_seen even seen i small =
          one_seen (from + i) ss ts a b us vs lw rw (difference_at differences i) (h i small) m n lw' rw' is_m is_n l_sum r_sum (difference_at new i) (even i small) (seen i small)

      pub counted_measured : TermsAreCounted size from a b differences new → Counted ss ts us vs lw' rw' new
      counted_measured counted i small =
          one_measured (from + i) ss ts a b us vs lw rw (difference_at differences i) (h i small) m n lw' rw' is_m is_n l_sum r_sum (difference_at new i) (counted i small)

    -- differences of two terms that were even before
    pub both_measured : (s t : Tree) (m n : ℕ) (differences new : List ℤ) → AreEven size differences → IsWeight w s (Ok m) → IsWeight w t (Ok n)
        → TermsAreCounted size from s t differences new → AreDifferences size from s t new
    both_measured s t m n differences new even is_m is_n counted i small =
        let d : difference_at differences i ≡ pos 0 = even i small in
        let more : occurrences (from + i) s ≤ weigh w s = count_le w (from + i) s in
        let other : occurrences (from + i) t ≤ weigh w t = count_le w (from + i) t in
        let is : difference_at new i +ℤ pos (occurrences (from + i) t) ≡ difference_at differences i +ℤ pos (occurrences (from + i) s) =
        counted i small (omega (arith, ints, is_m.1)) (omega (arith, ints, is_n.1)) in
        omega (arith, ints)

  pub counted_all : (f g : ℕ) (ss ts : Trees) (lw rw : ℕ) (differences : List ℤ) → Counted ss ts nil nil lw rw differences → AreDifferences size from (app f ss) (app g ts) differences
  counted_all f g ss ts lw rw differences h i small = let k = (h i small).as_occurrences in omega (arith, ints)
