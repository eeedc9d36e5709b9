-- What a search for the first redex finds.
use Rattle.std.specs.Prelude.{◌≡◌, ◌<◌, ◌≤◌, ℕ, List, [], ◌∷◌, ◌++◌, length, Option, Some, None, slice_get}
use Rattle.trs_defs.specs.Tree.{Tree}
use Rattle.trs_defs.specs.System.{RewriteRule}
use Rattle.trs_defs.specs.Path.{PlacedRule}
use Rattle.term_pool.specs.Pooled.{StandsFor, tree_at}
use Rattle.term_pool.specs.Redexes.{IsRedexAt}
use Rattle.term_pool.specs.LeftSides.{IsGround}
use Rattle.completion.specs.Normalizing.{IsFirstRedex}
use Rattle.completion.specs.PassedIds.{mark_of}

-- the term has no redex
abbrev pub HasNoPlace : List RewriteRule → Tree → Type 0
HasNoPlace rules t = (u : PlacedRule) → IsRedexAt rules t u → ⊥

-- the term has no redex of the first n rules
abbrev pub HasNoneOf : ℕ → List RewriteRule → Tree → Type 0
HasNoneOf n rules t = (u : PlacedRule) → u.rule < n → IsRedexAt rules t u → ⊥

-- an id with a mark is there, and its term has no redex of so many rules, the first ones
abbrev pub ArePassed : List RewriteRule → List Tree → List ℕ → Type 0
ArePassed rules pool marks =
    (id : ℕ) → 0 < mark_of marks id
    → (id < length pool) × (mark_of marks id ≤ length rules) × HasNoneOf (mark_of marks id) rules (tree_at pool id)

-- for each rule the id of its left side, or none: each left side with an id has no variable
pub record AreGroundSides (rules : List RewriteRule) (pool : List Tree) (ids : List (Option ℕ)) : Type 0 where
  pub count : length ids ≡ length rules
  pub each : (k id : ℕ) (r : RewriteRule) → slice_get ids k ≡ Some (Some id) → slice_get rules k ≡ Some r
      → StandsFor pool id r.left × IsGround r.left

-- the place has grown by that of the first redex, which is one of the rule of this number; or there is no redex, and it is the old one
abbrev pub IsFound : List RewriteRule → Tree → List ℕ → List ℕ → Option ℕ → Type 0
IsFound rules t old new None = HasNoPlace rules t × (new ≡ old)
IsFound rules t old new (Some k) = (p : List ℕ) × IsFirstRedex rules t (record { place = p; rule = k }) × (new ≡ old ++ p)

-- the first redex is at the root, and one of the rule of this number; or none is there
abbrev pub IsRootFound : List RewriteRule → Tree → Option ℕ → Type 0
IsRootFound rules t None = (u : PlacedRule) → IsRedexAt rules t u → u.place ≡ [] → ⊥
IsRootFound rules t (Some k) = IsFirstRedex rules t (record { place = []; rule = k })

-- the place begins with an argument behind so many others
abbrev pub BeginsBehind : ℕ → List ℕ → Type 0
BeginsBehind n [] = ⊥
BeginsBehind n (m ∷ p) = n < m

-- each redex is in an argument behind so many others
abbrev pub HasNoneUpTo : List RewriteRule → Tree → ℕ → Type 0
HasNoneUpTo rules t n = (u : PlacedRule) → IsRedexAt rules t u → BeginsBehind n u.place
