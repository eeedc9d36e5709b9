-- A closure that is extended, and what an attempt at it gives.
use Rattle.std.specs.Prelude.{◌≡◌, ◌<◌, ◌≤◌, ℕ, List, [], ◌∷◌, ◌++◌, Some, All, length, slice_get}
use Rattle.trs_defs.specs.Tree.{Tree}
use Rattle.trs_defs.specs.Position.{subterm_at}
use Rattle.trs_defs.specs.System.{RewriteRule, IsSystem}
use Rattle.trs_core.specs.SystemLimits.{AreBytes}
use Rattle.trs_core.specs.View.{tree}
use Rattle.trs_unify.specs.Bindings.{stopped_size}
use Rattle.term_pool.specs.Redexes.{IsNarrow}
use Rattle.loop_find.specs.ApartRules.{AreCopies}
use Rattle.loop_find.specs.Closures.{Closure, Attempt, IsNarrowed, IsSmall}
use Rattle.loop_find.specs.LoopRow.{LoopsNot}
use Rattle.loop_find.specs.Links.{closures_of, IsFit, IsSound}
use Rattle.loop_find.specs.Tries.{IsFoundOf}
use Rattle.loop_find.specs.declared.closures.Closures.{Closures}
use Rattle.loop_find.specs.declared.trying.Trial.{Trial}
use Rattle.loop_find.specs.declared.trying.Turn.{Turn}
use Rattle.loop_find.specs.declared.trying.Turn.TheVariants.{Next, Found, Spent, Stopped}

-- The closure of this number is there, with these sides, and the nodes of the right one are counted.
pub record IsTrial (t : Trial) (k : Closures) : Type 0 where
  pub system : IsSystem t.trs.now
  pub arities : AreBytes t.trs.now.arities
  pub few : length t.trs.now.rules ≤ 4095
  pub copies : AreCopies t.trs.now.rules k.copies.items
  pub sound : IsSound t.trs.now.arities k
  pub there : t.number < length k.links.items
  pub sides : (c : Closure) → slice_get (closures_of k) t.number ≡ Some c → (tree t.left.now ≡ c.left) × (tree t.right.now ≡ c.right)
  pub left_fit : IsFit t.trs.now.arities (tree t.left.now)
  pub right_fit : IsFit t.trs.now.arities (tree t.right.now)
  pub right_size : t.right_size ≡ stopped_size (tree t.right.now)
  pub within : k.attempts ≤ t.budget

-- the part stands at the place of the right side
pub record IsPart (t : Trial) (p : List ℕ) (part : Tree) : Type 0 where
  pub there : subterm_at p (tree t.right.now) ≡ Some part
  pub positive : All (λ n. 0 < n) p
  pub narrow : IsNarrow part

abbrev pub one_attempt : Closure → List ℕ → ℕ → List Attempt
one_attempt c p k = record { closure = c; at = record { place = p; rule = k } } ∷ []

-- whether the closure loops
abbrev pub ShowsLoop : List RewriteRule → Closure → Turn → Type 0
ShowsLoop rules c Next = LoopsNot rules c
ShowsLoop rules c (Found found) = IsFoundOf rules c found
ShowsLoop rules c Spent = ⊥
ShowsLoop rules c Stopped = ⊥

-- the attempt gave a closure, which was added
pub record Extended (rules : List RewriteRule) (a : Attempt) (old new : Closures) (turn : Turn) : Type 0 where
  pub closure : Closure
  pub narrowed : IsNarrowed rules a.closure a.at closure
  pub small : IsSmall closure
  pub longer : closures_of new ≡ closures_of old ++ closure ∷ []
  pub counted : new.attempts ≡ old.attempts
  pub shows : ShowsLoop rules closure turn
