-- The Knuth-Bendix order as a test.
use Rattle.std.specs.Prelude.{ℕ, ◌^◌, Bool, false, ◌||◌, ◌&&◌, ◌==◌, if◌then◌else◌, nat_lt, nat_le, true, List, [], ◌∷◌}
use Rattle.trs_defs.specs.Tree.{Tree, Trees, var, app, nil, cons, count}
use Rattle.trs_defs.specs.Variable.{occurrences}
use Rattle.order_theory.specs.KnuthBendix.{weigh}
use Rattle.order_theory.specs.PathTest.{same_tree}

-- each variable of a part occurs in s at least as often as in t
abbrev mutual
  pub keeps_each : Tree → Tree → Tree → Bool
  keeps_each s t (var x) = nat_le (occurrences x t) (occurrences x s)
  keeps_each s t (app f ts) = keeps_all s t ts

  pub keeps_all : Tree → Tree → Trees → Bool
  keeps_all s t nil = true
  keeps_all s t (cons u us) = keeps_each s t u && keeps_all s t us

-- f applied one or more times to the variable
abbrev mutual
  pub is_tower : ℕ → ℕ → Tree → Bool
  is_tower f x (var y) = false
  is_tower f x (app g ts) = g == f && is_tower_below f x ts

  pub is_tower_below : ℕ → ℕ → Trees → Bool
  is_tower_below f x nil = false
  is_tower_below f x (cons t ts) = (is_variable x t || is_tower f x t) && is_none ts

  pub is_variable : ℕ → Tree → Bool
  is_variable x (var y) = y == x
  is_variable x (app g ts) = false

  pub is_none : Trees → Bool
  is_none nil = true
  is_none (cons t ts) = false

-- at the first place where the lists differ the test passes, with as many terms after it
abbrev pub knuth_lex : Trees → List (Tree → Bool) → Trees → Bool
knuth_lex nil tests ts = false
knuth_lex (cons s ss) [] ts = false
knuth_lex (cons s ss) (test ∷ tests) nil = false
knuth_lex (cons s ss) (test ∷ tests) (cons t ts) = if same_tree s t then knuth_lex ss tests ts else (test t && count ss == count ts)

-- of terms of one weight: a tower over the variable; a greater rank, or the same root and greater arguments, where the
-- tests say what each of ss is greater than
abbrev pub head_greater : (ℕ → ℕ) → ℕ → Trees → List (Tree → Bool) → Tree → Bool
head_greater rank f ss tests (var x) = is_tower f x (app f ss)
head_greater rank f ss tests (app g ts) = nat_lt (rank g) (rank f) || (f == g && knuth_lex ss tests ts)

-- heavier, or as heavy where the rest decides
abbrev pub weight_greater : (ℕ → ℕ) → Tree → (Tree → Bool) → Tree → Bool
weight_greater weight s rest t =
    keeps_each s t t && (nat_lt (weigh weight t) (weigh weight s) || (weigh weight s == weigh weight t && rest t))

abbrev mutual
  pub knuth_greater : (ℕ → ℕ) → (ℕ → ℕ) → Tree → Tree → Bool
  knuth_greater weight rank (var x) t = weight_greater weight (var x) (λ _. false) t
  knuth_greater weight rank (app f ss) t = weight_greater weight (app f ss) (head_greater rank f ss (knuth_greater_each weight rank ss)) t

  pub knuth_greater_each : (ℕ → ℕ) → (ℕ → ℕ) → Trees → List (Tree → Bool)
  knuth_greater_each weight rank nil = []
  knuth_greater_each weight rank (cons s ss) = knuth_greater weight rank s ∷ knuth_greater_each weight rank ss

-- neither term weighs more than 2^63 - 1
abbrev pub both_fit : (ℕ → ℕ) → Tree → Tree → Bool
both_fit weight s t = nat_lt (weigh weight s) (2 ^ 63) && nat_lt (weigh weight t) (2 ^ 63)

-- the two comparisons, false where a term is too big
abbrev pub knuth_strict : (ℕ → ℕ) → (ℕ → ℕ) → Tree → Tree → Bool
knuth_strict weight rank s t = both_fit weight s t && knuth_greater weight rank s t

abbrev pub knuth_weak : (ℕ → ℕ) → (ℕ → ℕ) → Tree → Tree → Bool
knuth_weak weight rank s t = both_fit weight s t && (same_tree s t || knuth_greater weight rank s t)
