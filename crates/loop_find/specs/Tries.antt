-- What a part of the attempts leaves.
use Rattle.std.specs.Prelude.{◌≡◌, ◌≤◌, ℕ, ◌+◌, List, [], ◌∷◌, ◌++◌, length}
use Rattle.trs_defs.specs.System.{RewriteRule}
use Rattle.trs_core.specs.View.{tree}
use Rattle.loop_find.specs.Closures.{Closure, Attempt, Give}
use Rattle.loop_find.specs.LoopRow.{LoopNone, IsLoopOf}
use Rattle.loop_find.specs.Links.{closures_of}
use Rattle.loop_find.specs.declared.closures.Closures.{Closures}
use Rattle.loop_find.specs.declared.found.LoopFound.{LoopFound}
use Rattle.loop_find.specs.declared.trying.Turn.{Turn}
use Rattle.loop_find.specs.declared.trying.Turn.TheVariants.{Next, Found, Spent, Stopped}

-- the loop of this closure
abbrev pub IsFoundOf : List RewriteRule → Closure → LoopFound → Type 0
IsFoundOf rules c found = IsLoopOf rules c (tree found.start) found.path.items found.place

-- these attempts were made, none of the closures that they gave loops, and the budget was not passed
pub record Tries (rules : List RewriteRule) (budget : ℕ) (tried : List Attempt) (old new : Closures) : Type 0 where
  pub made : List Closure
  pub give : Give rules tried made
  pub longer : closures_of new ≡ closures_of old ++ made
  pub counted : new.attempts ≡ old.attempts + length tried
  pub within : new.attempts ≤ budget
  pub none : LoopNone rules made

-- the first of these attempts were made, and the last closure that they gave is the first that loops
pub record TriesTo (rules : List RewriteRule) (budget : ℕ) (todo : List Attempt) (old new : Closures) (found : LoopFound) : Type 0 where
  pub tried : List Attempt
  pub rest : List Attempt
  pub split : todo ≡ tried ++ rest
  pub before : List Closure
  pub closure : Closure
  pub give : Give rules tried (before ++ closure ∷ [])
  pub longer : closures_of new ≡ closures_of old ++ (before ++ closure ∷ [])
  pub counted : new.attempts ≡ old.attempts + length tried
  pub within : new.attempts ≤ budget
  pub none_before : LoopNone rules before
  pub loop : IsFoundOf rules closure found

-- the first of these attempts were made, and with them the budget was spent
pub record TriesAll (rules : List RewriteRule) (budget : ℕ) (todo : List Attempt) (old new : Closures) : Type 0 where
  pub tried : List Attempt
  pub rest : List Attempt
  pub split : todo ≡ tried ++ rest
  pub tries : Tries rules budget tried old new
  pub spent : new.attempts ≡ budget

abbrev pub Ends : List RewriteRule → ℕ → List Attempt → Closures → Closures → Type 0 → Turn → Type 0
Ends rules budget todo old new rose Next = Tries rules budget todo old new
Ends rules budget todo old new rose (Found found) = TriesTo rules budget todo old new found
Ends rules budget todo old new rose Spent = TriesAll rules budget todo old new
Ends rules budget todo old new rose Stopped = rose
