-- Forward closures. (Lankford and Musser, A finite termination criterion, 1978; Dershowitz, Termination of rewriting, 1987.)
use Rattle.std.specs.Prelude.{◌≡◌, ◌<◌, ◌≤◌, ℕ, ◌+◌, ◌||◌, List, [], ◌∷◌, ◌++◌, length, Some, IsTrue, slice_get}
use Rattle.trs_defs.specs.Tree.{Tree, var}
use Rattle.trs_defs.specs.Variable.{has_var}
use Rattle.trs_defs.specs.Size.{size_of, depth_of}
use Rattle.trs_defs.specs.Substitution.{apply}
use Rattle.trs_defs.specs.Position.{subterm_at, replaced_at}
use Rattle.trs_defs.specs.System.{RewriteRule}
use Rattle.trs_defs.specs.Path.{PlacedRule}
use Rattle.trs_defs.specs.Unifier.{IsMostGeneralUnifier}
use Rattle.trs_defs.specs.Renaming.{shifted}
use Rattle.crit_pairs.specs.PeakList.{symbol_places}

-- the path leads from the left side to the right side
pub record Closure : Type 0 where
  pub left : Tree
  pub right : Tree
  pub path : List PlacedRule

-- rule number k as a closure
abbrev pub rule_closure : ℕ → RewriteRule → Closure
rule_closure k r = record { left = r.left; right = r.right; path = record { place = []; rule = k } ∷ [] }

-- the rules as closures, numbered from k on
abbrev pub rule_closures : ℕ → List RewriteRule → List Closure
rule_closures k [] = []
rule_closures k (r ∷ rules) = rule_closure k r ∷ rule_closures (k + 1) rules

-- a step of the right side that is tried
pub record Attempt : Type 0 where
  pub closure : Closure
  pub at : PlacedRule

-- the rules at one place, numbered from k on
abbrev pub attempts_at : Closure → List ℕ → ℕ → List RewriteRule → List Attempt
attempts_at c p k [] = []
attempts_at c p k (r ∷ rules) = record { closure = c; at = record { place = p; rule = k } } ∷ attempts_at c p (k + 1) rules

abbrev pub attempts_of : List RewriteRule → Closure → List (List ℕ) → List Attempt
attempts_of rules c [] = []
attempts_of rules c (p ∷ places) = attempts_at c p 0 rules ++ attempts_of rules c places

-- the attempts at the closures in order: each place of the right side at which a symbol stands, in preorder, with each rule in
-- order
abbrev pub attempts_in : List RewriteRule → List Closure → List Attempt
attempts_in rules [] = []
attempts_in rules (c ∷ cs) = attempts_of rules c (symbol_places c.right) ++ attempts_in rules cs

-- What stands at the place of the right side has a most general unifier with the rule's left side renamed apart; under it the
-- rule is applied there. The variables of the new sides may be renumbered: `names` gives back the numbers that they had, and
-- no two that were different have one number.
pub record IsNarrowing (rule : RewriteRule) (place : List ℕ) (left right new_left new_right : Tree) : Type 0 where
  pub part : Tree
  pub there : subterm_at place right ≡ Some part
  pub offset : ℕ
  pub left_apart : (v : ℕ) → IsTrue (has_var v left) → v < offset
  pub right_apart : (v : ℕ) → IsTrue (has_var v right) → v < offset
  pub unifier : ℕ → Tree
  pub most_general : IsMostGeneralUnifier part (shifted offset rule.left) unifier
  pub result : Tree
  pub replaced : replaced_at place right (shifted offset rule.right) ≡ Some result
  pub names : ℕ → ℕ
  pub left_is : apply unifier left ≡ apply (λ v. var (names v)) new_left
  pub right_is : apply unifier result ≡ apply (λ v. var (names v)) new_right
  pub different : (v w : ℕ) → IsTrue (has_var v new_left || has_var v new_right) → IsTrue (has_var w new_left || has_var w new_right) → names v ≡ names w → v ≡ w

-- the rule of the step narrows the closure to the new one, whose path is one step longer
pub record IsNarrowed (rules : List RewriteRule) (c : Closure) (at : PlacedRule) (new : Closure) : Type 0 where
  pub rule : RewriteRule
  pub numbered : slice_get rules at.rule ≡ Some rule
  pub narrowing : IsNarrowing rule at.place c.left c.right new.left new.right
  pub path : new.path ≡ c.path ++ at ∷ []

-- at most 256 nodes, and a depth of at most 1,024
pub record IsSmallSide (t : Tree) : Type 0 where
  pub nodes : size_of t ≤ 256
  pub depth : depth_of t ≤ 1024

-- both sides are small
abbrev pub IsSmall : Closure → Type 0
IsSmall c = IsSmallSide c.left × IsSmallSide c.right

-- what these attempts give, in order: a new closure, or none where it would not be small or there is none
pub data Give (rules : List RewriteRule) : List Attempt → List Closure → Type 0 where
  no_attempt : Give rules [] []
  gives : {a : Attempt} {more : List Attempt} {new : Closure} {cs : List Closure} → IsNarrowed rules a.closure a.at new → IsSmall new
      → Give rules more cs → Give rules (a ∷ more) (new ∷ cs)
  left_out : {a : Attempt} {more : List Attempt} {cs : List Closure} → ((new : Closure) → IsNarrowed rules a.closure a.at new → IsSmall new → ⊥)
      → Give rules more cs → Give rules (a ∷ more) cs

-- The list of closures after so many attempts: the rules, and after them what the first attempts at the list's own closures
-- give.
pub record IsClosureList (rules : List RewriteRule) (attempts : ℕ) (cs : List Closure) : Type 0 where
  pub tried : List Attempt
  pub later : List Attempt
  pub split : attempts_in rules cs ≡ tried ++ later
  pub counted : attempts ≡ length tried
  pub made : List Closure
  pub give : Give rules tried made
  pub listed : cs ≡ rule_closures 0 rules ++ made
