-- The dependency pairs of rules, by the numbers of the rules and the places of subterms of their right sides.
-- (Arts and Giesl, Termination of term rewriting using dependency pairs, 2000.)
use Rattle.std.specs.Prelude.{◌≡◌, ℕ, ◌+◌, List, [], ◌∷◌, ◌++◌, map, Some, IsTrue, slice_get}
use Rattle.trs_defs.specs.Tree.{Tree, Trees, var, app, nil, cons}
use Rattle.trs_defs.specs.Position.{subterm_at}
use Rattle.trs_defs.specs.System.{RewriteRule, is_defined}
use Rattle.trs_defs.specs.Path.{PlacedRule}
use Rattle.pair_theory.specs.Marked.{plain}
use Rattle.pair_theory.specs.DependencyPair.{DependencyPair, keep_if}

-- the positions of the term at which a defined symbol stands, in preorder
abbrev mutual
  pub defined_places : List RewriteRule → Tree → List (List ℕ)
  defined_places rules (var v) = []
  defined_places rules (app f ts) = keep_if (is_defined rules f) [] (defined_places_of_all rules 1 ts)

  -- of arguments that are counted from this place on
  pub defined_places_of_all : List RewriteRule → ℕ → Trees → List (List ℕ)
  defined_places_of_all rules place nil = []
  defined_places_of_all rules place (cons t ts) = map (λ p. place ∷ p) (defined_places rules t) ++ defined_places_of_all rules (place + 1) ts

-- these places, below a position of the right side of rule number k
abbrev pub placed_below : ℕ → List ℕ → List (List ℕ) → List PlacedRule
placed_below k p places = map (λ q. record { place = p ++ q; rule = k }) places

-- the pairs of rules that are numbered from k on
abbrev pub placed_pairs_from : List RewriteRule → ℕ → List RewriteRule → List PlacedRule
placed_pairs_from rules k [] = []
placed_pairs_from rules k (rule ∷ rest) = placed_below k [] (defined_places rules rule.right) ++ placed_pairs_from rules (k + 1) rest

-- rules in order, and within a rule the places of its right side at which a defined symbol stands, in preorder
abbrev pub placed_pairs : List RewriteRule → List PlacedRule
placed_pairs rules = placed_pairs_from rules 0 rules

-- the left side is that of the rule, and the right side stands at the place of the rule's right side
pub record IsPairAt (rules : List RewriteRule) (s : PlacedRule) (pair : DependencyPair) : Type 0 where
  pub rule : RewriteRule
  pub numbered : slice_get rules s.rule ≡ Some rule
  pub left : rule.left ≡ plain pair.from
  pub right : subterm_at s.place rule.right ≡ Some (plain pair.to)

-- the rule is there, and a defined symbol stands at the place of its right side
pub record IsPlacedPair (rules : List RewriteRule) (s : PlacedRule) : Type 0 where
  pub rule : RewriteRule
  pub numbered : slice_get rules s.rule ≡ Some rule
  pub symbol : ℕ
  pub args : Trees
  pub there : subterm_at s.place rule.right ≡ Some (app symbol args)
  pub defined : IsTrue (is_defined rules symbol)

-- the left side of the pair is that of rule number r
abbrev pub IsOfRule : List RewriteRule → ℕ → DependencyPair → Type 0
IsOfRule rules r p = (rule : RewriteRule) × (slice_get rules r ≡ Some rule) × (rule.left ≡ plain p.from)
