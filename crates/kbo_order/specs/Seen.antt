-- The Knuth-Bendix order as one variable sees it: only this variable's occurrences are compared. A walk takes some variables, from a
-- number on.
use Rattle.std.specs.Prelude.{◌≡◌, ◌≤◌, ◌<◌, ◌+◌, ◌^◌, ℕ, ℤ, ◌⊎◌, ◌↔◌, IsTrue, Bool, List, Result, Ok, Err}
use Rattle.trs_defs.specs.Tree.{Tree, Trees, var, app, nil, cons, count}
use Rattle.trs_defs.specs.Variable.{occurrences}
use Rattle.order_theory.specs.KnuthBendix.{weigh, Tower}
use Rattle.pair_order.specs.declared.pairs.TooBig.{TooBig}
use Rattle.kbo_order.specs.Balances.{AreDifferences, HaveNoDeficit}
use Rattle.kbo_order.specs.declared.measure.Weights.{Weights}
use Rattle.kbo_order.specs.declared.measure.Seen.{Seen}

-- m is heavier than n, or as heavy and the rest decides; and the variable occurs in it as often
abbrev pub Above : ℕ → ℕ → ℕ → ℕ → Type 0 → Type 0
Above weight count other_weight other_count rest =
    (other_count ≤ count) × ((other_weight < weight) ⊎ ((weight ≡ other_weight) × rest))

module _ (weight rank : ℕ → ℕ) (x : ℕ) where
  abbrev pub AboveTerm : Tree → Tree → Type 0 → Type 0
  AboveTerm s t rest = Above (weigh weight s) (occurrences x s) (weigh weight t) (occurrences x t) rest

  -- what decides between terms of one weight
  abbrev mutual
    pub Decides : Tree → Tree → Type 0
    Decides (var y) t = ⊥
    Decides (app f ss) (var y) = Tower f y (app f ss)
    Decides (app f ss) (app g ts) = (rank g < rank f) ⊎ ((f ≡ g) × DecideLater ss ts)

    pub DecideLater : Trees → Trees → Type 0
    DecideLater nil ts = ⊥
    DecideLater (cons s ss) nil = ⊥
    DecideLater (cons s ss) (cons t ts) = ((s ≡ t) × DecideLater ss ts) ⊎ (AboveTerm s t (Decides s t) × (count ss ≡ count ts))

  abbrev pub SeenGreater : Tree → Tree → Type 0
  SeenGreater s t = AboveTerm s t (Decides s t)

-- each of some variables sees that s is greater
abbrev pub AllSeeGreater : (ℕ → ℕ) → (ℕ → ℕ) → ℕ → ℕ → Tree → Tree → Type 0
AllSeeGreater weight rank size from s t = (i : ℕ) → i < size → SeenGreater weight rank (from + i) s t

-- m is heavier than n, or as heavy and the rest decides
abbrev pub Outweighs : ℕ → ℕ → Type 0 → Type 0
Outweighs m n rest = (n < m) ⊎ ((m ≡ n) × rest)

-- the same, and each variable occurs at least as often on the left
abbrev pub IsAbove : ℕ → ℕ → Type 0 → ℕ → List ℤ → Type 0
IsAbove m n rest size differences = Outweighs m n rest × HaveNoDeficit size differences

-- a term's weight, unless it weighs too much
abbrev pub IsWeight : (ℕ → ℕ) → Tree → Result ℕ TooBig → Type 0
IsWeight weight t (Ok m) = (m ≡ weigh weight t) × (weigh weight t < 2 ^ 63)
IsWeight weight t (Err e) = 2 ^ 63 ≤ weigh weight t

abbrev pub IsSum : ℕ → ℕ → Result ℕ TooBig → Type 0
IsSum m n (Ok sum) = (sum ≡ m + n) × (m + n < 2 ^ 63)
IsSum m n (Err e) = 2 ^ 63 ≤ m + n

-- the weights of two terms, unless one weighs too much
abbrev pub AreWeights : (ℕ → ℕ) → Tree → Tree → Result Weights TooBig → Type 0
AreWeights weight s t (Ok m) = IsWeight weight s (Ok m.left) × IsWeight weight t (Ok m.right)
AreWeights weight s t (Err e) = (2 ^ 63 ≤ weigh weight s) ⊎ (2 ^ 63 ≤ weigh weight t)

abbrev pub AreSums : Weights → Weights → Result Weights TooBig → Type 0
AreSums m n (Ok sums) = IsSum m.left n.left (Ok sums.left) × IsSum m.right n.right (Ok sums.right)
AreSums m n (Err e) = (2 ^ 63 ≤ m.left + n.left) ⊎ (2 ^ 63 ≤ m.right + n.right)

pub record SeesTerms (weight rank : ℕ → ℕ) (size from : ℕ) (s t : Tree) (differences : List ℤ) (seen : Seen) : Type 0 where
  pub weights : AreWeights weight s t (Ok seen.weights)
  pub same : IsTrue seen.same ↔ (s ≡ t)
  pub greater : IsTrue seen.greater ↔ AllSeeGreater weight rank size from s t
  pub differ : AreDifferences size from s t differences

-- what some variables see, where they were even before
abbrev pub Sees : (ℕ → ℕ) → (ℕ → ℕ) → ℕ → ℕ → Tree → Tree → List ℤ → Result Seen TooBig → Type 0
Sees weight rank size from s t differences (Ok seen) = SeesTerms weight rank size from s t differences seen
Sees weight rank size from s t differences (Err e) = (2 ^ 63 ≤ weigh weight s) ⊎ (2 ^ 63 ≤ weigh weight t)

pub record View (weight rank : ℕ → ℕ) (size from : ℕ) (s t : Tree) (answer : Bool) : Type 0 where
  pub left_small : weigh weight s < 2 ^ 63
  pub right_small : weigh weight t < 2 ^ 63
  pub greater : IsTrue answer ↔ AllSeeGreater weight rank size from s t

-- whether each of some variables sees that s is greater
abbrev pub IsView : (ℕ → ℕ) → (ℕ → ℕ) → ℕ → ℕ → Tree → Tree → Result Bool TooBig → Type 0
IsView weight rank size from s t (Ok answer) = View weight rank size from s t answer
IsView weight rank size from s t (Err e) = (2 ^ 63 ≤ weigh weight s) ⊎ (2 ^ 63 ≤ weigh weight t)

-- no two applications of one symbol to as many arguments
abbrev pub AreApart : Tree → Tree → Type 0
AreApart (var y) t = Unit {0}
AreApart (app f ss) (var y) = Unit {0}
AreApart (app f ss) (app g ts) = f ≡ g → count ss ≡ count ts → ⊥
