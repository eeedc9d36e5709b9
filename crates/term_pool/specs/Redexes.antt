-- The redexes of a term, by their places and rule numbers, in order. (Baader and Nipkow, definition 4.2.2.)
use Rattle.std.specs.Prelude.{◌≡◌, ◌≤◌, ◌<◌, ℕ, ◌+◌, List, [], ◌∷◌, ◌++◌, map, Some, slice_get, ◌⊎◌, ◌↔◌}
use Rattle.trs_defs.specs.Member.{In}
use Rattle.trs_defs.specs.Tree.{Tree, Trees, var, app, nil, cons, count}
use Rattle.trs_defs.specs.Substitution.{IsInstance}
use Rattle.trs_defs.specs.Position.{subterm_at}
use Rattle.trs_defs.specs.System.{RewriteRule}
use Rattle.trs_defs.specs.Path.{PlacedRule}

-- no symbol has more than 255 arguments
abbrev mutual
  pub IsNarrow : Tree → Type 0
  IsNarrow (var n) = Unit {0}
  IsNarrow (app f ts) = (count ts ≤ 255) × AreNarrow ts

  pub AreNarrow : Trees → Type 0
  AreNarrow nil = Unit {0}
  AreNarrow (cons t ts) = IsNarrow t × AreNarrow ts

-- the place is one of the term, and what stands there is an instance of the left side of the rule of this number
pub record IsRedexAt (rules : List RewriteRule) (t : Tree) (s : PlacedRule) : Type 0 where
  pub rule : RewriteRule
  pub numbered : slice_get rules s.rule ≡ Some rule
  pub part : Tree
  pub there : subterm_at s.place t ≡ Some part
  pub instance : IsInstance rule.left part

-- in preorder: a position comes before those below it, and otherwise the first place where two differ decides
abbrev pub IsEarlier : List ℕ → List ℕ → Type 0
IsEarlier [] [] = ⊥
IsEarlier [] (n ∷ q) = Unit {0}
IsEarlier (m ∷ p) [] = ⊥
IsEarlier (m ∷ p) (n ∷ q) = (m < n) ⊎ ((m ≡ n) × IsEarlier p q)

-- by positions, and at one position by the numbers of the rules
abbrev pub ComesBefore : PlacedRule → PlacedRule → Type 0
ComesBefore s u = IsEarlier s.place u.place ⊎ ((s.place ≡ u.place) × (s.rule < u.rule))

-- each comes before all that follow it
abbrev pub Ascend : List PlacedRule → Type 0
Ascend [] = Unit {0}
Ascend (s ∷ ss) = ((u : PlacedRule) → In u ss → ComesBefore s u) × Ascend ss

-- the place below another
abbrev pub below : List ℕ → PlacedRule → PlacedRule
below p s = record { place = p ++ s.place; rule = s.rule }

-- the list has the rules, numbered from k on, of whose left sides t is an instance, at the root
abbrev pub AreRootRedexes : List RewriteRule → ℕ → Tree → List PlacedRule → Type 0
AreRootRedexes [] k t ss = ss ≡ []
AreRootRedexes (rule ∷ rules) k t ss =
    (rest : List PlacedRule) × AreRootRedexes rules (k + 1) t rest
    × ((IsInstance rule.left t × (ss ≡ record { place = []; rule = k } ∷ rest)) ⊎ ((IsInstance rule.left t → ⊥) × (ss ≡ rest)))

-- the list has the redexes of the term: those at the root, and then those of the arguments, from the left
abbrev mutual
  pub AreRedexes : List RewriteRule → Tree → List PlacedRule → Type 0
  AreRedexes rules (var n) ss = AreRootRedexes rules 0 (var n) ss
  AreRedexes rules (app f ts) ss =
      (root : List PlacedRule) × (rest : List PlacedRule) × AreRootRedexes rules 0 (app f ts) root × AreRedexesOfAll rules 1 ts rest × (ss ≡ root ++ rest)

  -- of arguments that are counted from this place on
  pub AreRedexesOfAll : List RewriteRule → ℕ → Trees → List PlacedRule → Type 0
  AreRedexesOfAll rules place nil ss = ss ≡ []
  AreRedexesOfAll rules place (cons t ts) ss =
      (first : List PlacedRule) × (rest : List PlacedRule) × AreRedexes rules t first × AreRedexesOfAll rules (place + 1) ts rest
      × (ss ≡ map (below (place ∷ [])) first ++ rest)

-- the list has grown by these items, each put below the position
abbrev pub Grows : List ℕ → (List PlacedRule → Type 0) → List PlacedRule → List PlacedRule → Type 0
Grows p items old new = (ss : List PlacedRule) × items ss × (new ≡ old ++ map (below p) ss)

-- the list has the redexes of the term, in preorder, and at one place by the numbers of the rules
pub record HasRedexes (rules : List RewriteRule) (t : Tree) (ss : List PlacedRule) : Type 0 where
  pub each : (s : PlacedRule) → In s ss ↔ IsRedexAt rules t s
  pub ascend : Ascend ss
