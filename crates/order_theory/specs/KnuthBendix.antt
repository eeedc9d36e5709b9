-- The Knuth-Bendix order, by weights and ranks of symbols; a variable weighs 1. (Knuth and Bendix, 1970; Baader and
-- Nipkow, section 5.4.)
use Rattle.std.specs.Prelude.{◌≡◌, ◌≢◌, ℕ, ◌+◌, ◌-◌, ◌≤◌, ◌<◌, ◌⊎◌, List, Option, Some, if◌then◌else◌, nat_lt, slice_get}
use Rattle.trs_defs.specs.Tree.{Tree, Trees, var, app, nil, cons, count}
use Rattle.trs_defs.specs.Variable.{occurrences}

abbrev mutual
  pub weigh : (ℕ → ℕ) → Tree → ℕ
  weigh weight (var x) = 1
  weigh weight (app f ts) = weight f + weigh_all weight ts

  pub weigh_all : (ℕ → ℕ) → Trees → ℕ
  weigh_all weight nil = 0
  weigh_all weight (cons t ts) = weigh weight t + weigh_all weight ts

-- each variable occurs in s at least as often as in t
abbrev pub KeepsOccurrences : Tree → Tree → Type 0
KeepsOccurrences s t = (v : ℕ) → occurrences v t ≤ occurrences v s

-- f applied one or more times to the variable
pub data Tower (f x : ℕ) : Tree → Type 0 where
  one_high : Tower f x (app f (cons (var x) nil))
  higher : {t : Tree} → Tower f x t → Tower f x (app f (cons t nil))

mutual
  pub data KnuthGreater (weight rank : ℕ → ℕ) : Tree → Tree → Type 0 where
    by_weight : {s t : Tree} → KeepsOccurrences s t → weigh weight t < weigh weight s → KnuthGreater weight rank s t
    by_tower : {f x : ℕ} {s : Tree} → Tower f x s → weigh weight s ≡ 1 → KnuthGreater weight rank s (var x)
    by_head : {f g : ℕ} {ss ts : Trees} → KeepsOccurrences (app f ss) (app g ts)
        → weigh weight (app f ss) ≡ weigh weight (app g ts) → rank g < rank f → KnuthGreater weight rank (app f ss) (app g ts)
    by_args : {f : ℕ} {ss ts : Trees} → KeepsOccurrences (app f ss) (app f ts)
        → weigh weight (app f ss) ≡ weigh weight (app f ts) → KnuthLexGreater weight rank ss ts
        → KnuthGreater weight rank (app f ss) (app f ts)

  -- greater at the first place where they differ, with as many terms after it
  pub data KnuthLexGreater (weight rank : ℕ → ℕ) : Trees → Trees → Type 0 where
    heavier_here : {s t : Tree} {ss ts : Trees} → KnuthGreater weight rank s t → count ss ≡ count ts
        → KnuthLexGreater weight rank (cons s ss) (cons t ts)
    heavier_later : {s : Tree} {ss ts : Trees} → KnuthLexGreater weight rank ss ts → KnuthLexGreater weight rank (cons s ss) (cons s ts)

abbrev pub KnuthWeak : (ℕ → ℕ) → (ℕ → ℕ) → Tree → Tree → Type 0
KnuthWeak weight rank s t = (s ≡ t) ⊎ KnuthGreater weight rank s t

-- the arities of symbols below 4096, and of the marked ones above
abbrev pub arity_with_marks : List ℕ → ℕ → Option ℕ
arity_with_marks arities f = if nat_lt f 4096 then slice_get arities f else slice_get arities (f - 4096)

-- admissible: constants weigh 1 or more, and a symbol of weight 0 with one argument is above all others
pub record IsAdmissible (arity : ℕ → Option ℕ) (weight rank : ℕ → ℕ) : Type 0 where
  pub constants_weigh : (f : ℕ) → arity f ≡ Some 0 → 1 ≤ weight f
  pub on_top : (f g n : ℕ) → arity f ≡ Some 1 → weight f ≡ 0 → arity g ≡ Some n → f ≢ g → rank g < rank f
