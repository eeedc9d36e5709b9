-- The conditions of a step by the subterm criterion. (Hirokawa and Middeldorp, Tyrolean termination tool, 2007.)
use Rattle.std.specs.Prelude.{◌≡◌, ℕ, ◌==◌, Bool, true, false, if◌then◌else◌, List, [], ◌∷◌, zip, Option, Some, None}
use Rattle.std.specs.Option.{option_and_then}
use Rattle.trs_defs.specs.Member.{In}
use Rattle.trs_defs.specs.Tree.{Tree}
use Rattle.trs_defs.specs.Position.{argument_at}
use Rattle.pair_theory.specs.Subterm.{Sub, ProperSubterm}
use Rattle.pair_theory.specs.Marked.{Marked, plain}
use Rattle.pair_theory.specs.DependencyPair.{DependencyPair}
use Rattle.rewrite_core.specs.declared.checks.refusals.StepRefused.TheVariants.{NoEntry, PairNotWeak, NothingRemoved}
use Rattle.rewrite_core.specs.Check.{Check, Returns, Needs, ForbidsAny, Asks, collect, ◌>>=◌, ◌>>◌}
use Rattle.dp_core.specs.Numbered.{TakesPairs}

-- A projection is a list of symbols with places of arguments, counted from 1. This is the place for a symbol.
abbrev pub place_for : List (ℕ × ℕ) → ℕ → Option ℕ
place_for [] f = None
place_for (entry ∷ projection) f = if entry.0 == f then Some entry.1 else place_for projection f

-- the argument at the place for the marked symbol
abbrev pub projected : List (ℕ × ℕ) → Marked → Option Tree
projected projection m = option_and_then (argument_at (plain m)) (place_for projection m.symbol)

-- the arguments to which the sides are projected are related
pub record ProjectedAre (projection : List (ℕ × ℕ)) (related : Tree → Tree → Type 0) (p : DependencyPair) : Type 0 where
  pub left : Tree
  pub right : Tree
  pub left_there : projected projection p.from ≡ Some left
  pub right_there : projected projection p.to ≡ Some right
  pub relation : related left right

-- the root symbols of the sides, without their marks
abbrev pub roots_of : List DependencyPair → List ℕ
roots_of [] = []
roots_of (p ∷ pairs) = p.from.symbol ∷ p.to.symbol ∷ roots_of pairs

-- the right side must project to a subterm; whether it is a proper one is the value
abbrev pub projects_within : List (ℕ × ℕ) → ℕ → DependencyPair → Check Bool
projects_within projection n p = do
  Needs (ProjectedAre projection (λ s t. Sub t s) p) (PairNotWeak n)
  Asks (ProjectedAre projection ProperSubterm p)

-- the items at which the flag is false
abbrev pub unflagged : {A : Type 0} → List A → List Bool → List A
unflagged [] flags = []
unflagged (x ∷ xs) [] = []
unflagged (x ∷ xs) (true ∷ flags) = unflagged xs flags
unflagged (x ∷ xs) (false ∷ flags) = x ∷ unflagged xs flags

-- of the pairs of the numbers; the value is the numbers of the pairs that remain
abbrev pub subterm_conditions : List DependencyPair → List (ℕ × ℕ) → List ℕ → Check (List ℕ)
subterm_conditions all projection numbers = do
  pairs ← TakesPairs all numbers
  ForbidsAny (λ f. In f (roots_of pairs) × (place_for projection f ≡ None)) NoEntry
  removed ← collect (λ _ item. projects_within projection item.0 item.1) 0 (zip numbers pairs)
  Needs (In true removed) NothingRemoved
  Returns (unflagged numbers removed)
