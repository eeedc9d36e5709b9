-- The strategy loop: the first forward closure that loops.
use Rattle.std.specs.Prelude.{◌≡◌, ◌<◌, ◌≤◌, ℕ, List, ◌∷◌, ◌++◌, length, Some}
use Rattle.trs_defs.specs.Member.{In}
use Rattle.trs_defs.specs.Tree.{Tree}
use Rattle.trs_defs.specs.Substitution.{IsInstance}
use Rattle.trs_defs.specs.Position.{subterm_at}
use Rattle.trs_defs.specs.System.{RewriteRule}
use Rattle.trs_defs.specs.Path.{PlacedRule, Follows}
use Rattle.term_pool.specs.Redexes.{IsEarlier}
use Rattle.assign_search.specs.declared.search.Search.{Search}
use Rattle.assign_search.specs.declared.search.Search.TheVariants.{Found, NotThere, Spent, Stopped}
use Rattle.loop_find.specs.Closures.{Closure, attempts_in, IsClosureList}

-- an instance of the pattern stands at this place of the term
abbrev pub Recurs : Tree → Tree → List ℕ → Type 0
Recurs pattern t p = (part : Tree) × (subterm_at p t ≡ Some part) × IsInstance pattern part

-- this is the first such place in preorder
pub record RecursFirst (pattern t : Tree) (p : List ℕ) : Type 0 where
  pub recurs : Recurs pattern t p
  pub first : (q : List ℕ) → IsEarlier q p → Recurs pattern t q → ⊥

-- the path runs within the limits, and this is the first place of the right side at which the left side recurs
pub record LoopsAt (rules : List RewriteRule) (c : Closure) (p : List ℕ) : Type 0 where
  pub runs : Follows rules c.path c.left c.right
  pub returns : RecursFirst c.left c.right p

abbrev pub LoopsNot : List RewriteRule → Closure → Type 0
LoopsNot rules c = (p : List ℕ) → LoopsAt rules c p → ⊥

-- none of the closures loops
abbrev pub LoopNone : List RewriteRule → List Closure → Type 0
LoopNone rules cs = (c : Closure) → In c cs → LoopsNot rules c

-- the closure loops at the place, and this is its left side with its path
pub record IsLoopOf (rules : List RewriteRule) (c : Closure) (start : Tree) (path : List PlacedRule) (place : List ℕ) : Type 0 where
  pub loops : LoopsAt rules c place
  pub start_is : start ≡ c.left
  pub path_is : path ≡ c.path

-- The first closure that loops. It is listed after at most `budget` attempts, so that fewer were made before the one that gave
-- it, unless it is a rule.
pub record FindsLoop (rules : List RewriteRule) (budget : ℕ) (start : Tree) (path : List PlacedRule) (place : List ℕ) : Type 0 where
  pub attempts : ℕ
  pub in_budget : attempts ≤ budget
  pub before : List Closure
  pub closure : Closure
  pub after : List Closure
  pub listed : IsClosureList rules attempts (before ++ closure ∷ after)
  pub none_before : LoopNone rules before
  pub loop : IsLoopOf rules closure start path place

-- after fewer than `budget` attempts no further one is there, and no closure loops
pub record LoopNotThere (rules : List RewriteRule) (budget : ℕ) : Type 0 where
  pub attempts : ℕ
  pub few : attempts < budget
  pub closures : List Closure
  pub listed : IsClosureList rules attempts closures
  pub ends : attempts ≡ length (attempts_in rules closures)
  pub none : LoopNone rules closures

-- `budget` attempts are there, and no closure that is listed after them loops
pub record LoopSpent (rules : List RewriteRule) (budget : ℕ) : Type 0 where
  pub closures : List Closure
  pub listed : IsClosureList rules budget closures
  pub none : LoopNone rules closures

-- what a search for a loop answers; `rose` says that the count of stops rose
abbrev pub IsLoopAnswer : {A : Type 0} → List RewriteRule → ℕ → (A → Tree) → (A → List PlacedRule) → (A → List ℕ) → Type 0 → Search A → Type 0
IsLoopAnswer rules budget start path place rose (Found a) = FindsLoop rules budget (start a) (path a) (place a)
IsLoopAnswer rules budget start path place rose NotThere = LoopNotThere rules budget
IsLoopAnswer rules budget start path place rose Spent = LoopSpent rules budget
IsLoopAnswer rules budget start path place rose Stopped = rose
