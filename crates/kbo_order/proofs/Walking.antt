-- A walk over the arguments of two terms.
use Rattle.std.proofs.Common.{◌≡◌, ℕ, ◌≤◌, ◌^◌, ◌⊎◌, ◌↔◌, inl, inr, ap, ◌∙◌, Ok, Err, true, false, Bool, IsTrue, List, ℤ, ◌<◌}
use Rattle.trs_defs.specs.Tree.{Tree, Trees, app, nil, cons, count}
use Rattle.pair_order.specs.declared.pairs.TooBig.{TooBig}
use Rattle.order_theory.specs.KnuthBendix.{weigh}
use Rattle.kbo_order.specs.declared.measure.Weights.{Weights}
use Rattle.kbo_order.specs.declared.measure.Seen.{Seen}
use Rattle.kbo_order.specs.Balances.{AreEven, TermsAreCounted}
use Rattle.kbo_order.specs.Seen.{IsWeight, AreWeights, AreSums, IsAbove, SeesTerms}
use Rattle.kbo_order.proofs.Sums.{Left, start, next, big_next, big_sum, total}
use Rattle.kbo_order.proofs.Differences.{Counted, counted_none, counted_seen, counted_measured, counted_all, even_differences}
use Rattle.kbo_order.proofs.Sight.{Walked, walked_none, walked_seen, walked_measured, seen_terms}

module _ (w rank : ℕ → ℕ) (size from : ℕ) where
  pub record Walk (ss ts us vs : Trees) (seen : Seen) (differences : List ℤ) : Type 0 where
    pub left_weight : Left w ss us seen.weights.left
    pub right_weight : Left w ts vs seen.weights.right
    pub walked : Walked w rank size from ss ts us vs seen.same seen.greater
    pub counted : Counted size from ss ts us vs seen.weights.left seen.weights.right differences
    pub even : IsTrue seen.same → AreEven size differences

  pub begun : (ss ts : Trees) (differences : List ℤ) → count ss ≡ count ts → AreEven size differences
      → Walk ss ts ss ts (record { weights = record { left = 0; right = 0 }; same = true; greater = false }) differences
  begun ss ts differences e even = record {
    left_weight = start w ss;
    right_weight = start w ts;
    walked = walked_none w rank size from ss ts e;
    counted = counted_none size from ss ts differences even;
    even = λ _. even;
  }

module _ (w rank : ℕ → ℕ) (size from : ℕ) (some : 0 < size) where
  module _ (ss ts : Trees) (a b : Tree) (us vs : Trees) (seen : Seen) (differences : List ℤ) (h : Walk w rank size from ss ts (cons a us) (cons b vs) seen differences) where
    -- all before were the same
    pub seen_next : (new : List ℤ) (next_seen : Seen) (sums : Weights) → seen.same ≡ true → SeesTerms w rank size from a b new next_seen
        → AreSums seen.weights next_seen.weights (Ok sums) → Walk w rank size from ss ts us vs (record { weights = sums; same = next_seen.same; greater = next_seen.greater }) new
    seen_next new next_seen sums same is s = record {
      left_weight = next w ss a us seen.weights.left h.left_weight next_seen.weights.left sums.left is.weights.0 s.0;
      right_weight = next w ts b vs seen.weights.right h.right_weight next_seen.weights.right sums.right is.weights.1 s.1;
      walked = walked_seen w rank size from some ss ts a b us vs seen.same seen.greater h.walked same next_seen.same next_seen.greater is.same is.greater;
      counted = counted_seen size from w ss ts a b us vs seen.weights.left seen.weights.right differences h.counted next_seen.weights.left next_seen.weights.right sums.left sums.right
          is.weights.0 is.weights.1 s.0 s.1 new (h.even same) is.differ;
      even = λ yes. even_differences size from a b new (is.same.0 yes) is.differ;
    }

    -- some before differ
    pub measured_next : (new : List ℤ) (more sums : Weights) → seen.same ≡ false → AreWeights w a b (Ok more) → TermsAreCounted size from a b differences new
        → AreSums seen.weights more (Ok sums) → Walk w rank size from ss ts us vs (record { weights = sums; same = false; greater = seen.greater }) new
    measured_next new more sums unlike is k s = record {
      left_weight = next w ss a us seen.weights.left h.left_weight more.left sums.left is.0 s.0;
      right_weight = next w ts b vs seen.weights.right h.right_weight more.right sums.right is.1 s.1;
      walked = walked_measured w rank size from some ss ts a b us vs seen.same seen.greater h.walked unlike;
      counted = counted_measured size from w ss ts a b us vs seen.weights.left seen.weights.right differences h.counted more.left more.right sums.left sums.right
          is.0 is.1 s.0 s.1 new k;
      even = λ yes. absurd cc;
    }

    module _ (f g : ℕ) (s t : Tree) (is_s : s ≡ app f ss) (is_t : t ≡ app g ts) where
      pub big_argument : (2 ^ 63 ≤ weigh w a) ⊎ (2 ^ 63 ≤ weigh w b) → (2 ^ 63 ≤ weigh w s) ⊎ (2 ^ 63 ≤ weigh w t)
      big_argument (inl big) = inl (rw is_s (big_next w ss a us seen.weights.left h.left_weight f big))
      big_argument (inr big) = inr (rw is_t (big_next w ts b vs seen.weights.right h.right_weight g big))

      pub big_sums : (more : Weights) (e : TooBig) → AreWeights w a b (Ok more) → AreSums seen.weights more (Err e) → (2 ^ 63 ≤ weigh w s) ⊎ (2 ^ 63 ≤ weigh w t)
      big_sums more e is (inl big) = inl (rw is_s (big_sum w ss a us seen.weights.left h.left_weight f more.left is.0 big))
      big_sums more e is (inr big) = inr (rw is_t (big_sum w ts b vs seen.weights.right h.right_weight g more.right is.1 big))

  -- what is seen of two applications, after their arguments
  module _ (f g : ℕ) (ss ts : Trees) (s t : Tree) (seen : Seen) (differences : List ℤ) (is_s : s ≡ app f ss) (is_t : t ≡ app g ts) (roots : f ≡ g)
      (h : Walk w rank size from ss ts nil nil seen differences) (root : ℕ) (is_root : root ≡ w f) where
    pub ended : (sums : Weights) (b : Bool) → AreSums seen.weights (record { left = root; right = root }) (Ok sums)
        → IsTrue b ↔ IsAbove sums.left sums.right (IsTrue seen.greater) size differences
        → SeesTerms w rank size from s t differences (record { weights = sums; same = seen.same; greater = b })
    ended sums b k test = rw (is_s, is_t) (
        let is_m : IsWeight w (app f ss) (Ok sums.left) = total w f ss seen.weights.left root (Ok sums.left) h.left_weight is_root k.0 in
        let is_n : IsWeight w (app g ts) (Ok sums.right) = total w g ts seen.weights.right root (Ok sums.right) h.right_weight (is_root ∙ ap w roots) k.1 in
        seen_terms w rank size from some f g ss ts seen.same seen.greater roots h.walked sums.left sums.right b differences is_m is_n
        (counted_all size from f g ss ts seen.weights.left seen.weights.right differences h.counted) test
        )

    pub big_end : (e : TooBig) → AreSums seen.weights (record { left = root; right = root }) (Err e) → (2 ^ 63 ≤ weigh w s) ⊎ (2 ^ 63 ≤ weigh w t)
    big_end e (inl big) = inl (rw is_s (total w f ss seen.weights.left root (Err e) h.left_weight is_root big))
    big_end e (inr big) = inr (rw is_t (total w g ts seen.weights.right root (Err e) h.right_weight (is_root ∙ ap w roots) big))
