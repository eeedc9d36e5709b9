-- Weights, argument by argument.
use Rattle.std.proofs.Common.{◌≡◌, ℕ, ◌+◌, ◌<◌, ◌≤◌, ◌^◌, arith, Result, Ok, Err}
use Rattle.trs_defs.specs.Tree.{Tree, Trees, app, nil, cons}
use Rattle.order_theory.specs.KnuthBendix.{weigh, weigh_all}
use Rattle.pair_order.specs.declared.pairs.TooBig.{TooBig}
use Rattle.kbo_order.specs.Seen.{IsWeight, IsSum}

module _ (w : ℕ → ℕ) where
  -- the weight of the arguments before those that are left
  pub record Left (ts rest : Trees) (sum : ℕ) : Type 0 where
    pub weight : sum + weigh_all w rest ≡ weigh_all w ts

  pub start : (ts : Trees) → Left ts ts 0
  start ts = record { weight = omega arith }

  module _ (ts : Trees) (t : Tree) (rest : Trees) (sum : ℕ) (h : Left ts (cons t rest) sum) where
    pub next : (m n : ℕ) → IsWeight w t (Ok m) → IsSum sum m (Ok n) → Left ts rest n
    next m n is s = record { weight = omega (arith, h.weight, is.0, s.0) }

    pub big_next : (f : ℕ) → 2 ^ 63 ≤ weigh w t → 2 ^ 63 ≤ weigh w (app f ts)
    big_next f b = omega (arith, h.weight, b)

    pub big_sum : (f m : ℕ) → IsWeight w t (Ok m) → 2 ^ 63 ≤ sum + m → 2 ^ 63 ≤ weigh w (app f ts)
    big_sum f m is b = omega (arith, h.weight, is.0, b)

  pub total : (f : ℕ) (ts : Trees) (sum root : ℕ) (r : Result ℕ TooBig) → Left ts nil sum → root ≡ w f → IsSum sum root r → IsWeight w (app f ts) r
  total f ts sum root (Ok m) h e s = (omega (arith, h.weight, e, s.0), omega (arith, h.weight, e, s.1))
  total f ts sum root (Err k) h e s = omega (arith, h.weight, e, s)

  pub if_err : (f : ℕ) (ts : Trees) (t : Tree) (r : Result ℕ TooBig) (e : TooBig) → t ≡ app f ts → r ≡ Err e → 2 ^ 63 ≤ weigh w (app f ts) → IsWeight w t r
  if_err f ts t r e is err b = rw (err, is) b

  -- a weight and that of the term, but of its arguments only those before the ones that are left
  pub record Added (weight : ℕ) (t : Tree) (rest : Trees) (sum : ℕ) : Type 0 where
    pub whole : sum + weigh_all w rest ≡ weight + weigh w t
    pub small : sum < 2 ^ 63

  module _ (weight : ℕ) (t : Tree) where
    pub root_added : (f : ℕ) (ts : Trees) (root sum : ℕ) → t ≡ app f ts → root ≡ w f → IsSum weight root (Ok sum) → Added weight t ts sum
    root_added f ts root sum is e s = rw is (record { whole = omega (arith, e, s.0); small = omega (arith, s.0, s.1) })

    pub big_root : (f : ℕ) (ts : Trees) (root : ℕ) → t ≡ app f ts → root ≡ w f → 2 ^ 63 ≤ weight + root → 2 ^ 63 ≤ weight + weigh w t
    big_root f ts root is e big = rw is (omega (arith, e, big))

    module _ (u : Tree) (rest : Trees) (sum : ℕ) (h : Added weight t (cons u rest) sum) where
      pub argument_added : (n : ℕ) → IsSum sum (weigh w u) (Ok n) → Added weight t rest n
      argument_added n s = record { whole = omega (arith, h.whole, s.0); small = omega (arith, s.0, s.1) }

      pub big_argument : 2 ^ 63 ≤ sum + weigh w u → 2 ^ 63 ≤ weight + weigh w t
      big_argument big = omega (arith, h.whole, big)

    pub all_added : (sum : ℕ) → Added weight t nil sum → IsSum weight (weigh w t) (Ok sum)
    all_added sum h = (omega (arith, h.whole), omega (arith, h.whole, h.small))

  pub weight_of_sum : (t : Tree) (r : Result ℕ TooBig) → IsSum 0 (weigh w t) r → IsWeight w t r
  weight_of_sum t (Ok m) s = (omega (arith, s.0), omega (arith, s.1))
  weight_of_sum t (Err e) s = omega (arith, s)
