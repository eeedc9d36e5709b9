-- Closures as tokens: each has the places of its sides, the number of the closure that it extends, and its last step.
use Rattle.std.specs.Prelude.{◌≡◌, ◌<◌, ℕ, ◌+◌, List, [], ◌∷◌, ◌++◌, Option, Some, None, length, drop, slice_get}
use Rattle.trs_defs.specs.Tree.{Tree}
use Rattle.trs_defs.specs.WellFormed.{IsWellFormed}
use Rattle.trs_defs.specs.Path.{PlacedRule}
use Rattle.trs_core.specs.SystemLimits.{HasSmallVariables}
use Rattle.loop_find.specs.Flat.{tokens_of, term_of}
use Rattle.loop_find.specs.declared.tokens.Token.{Token}
use Rattle.loop_find.specs.Closures.{Closure}
use Rattle.loop_find.specs.declared.closures.Link.{Link}
use Rattle.loop_find.specs.declared.closures.Closures.{Closures}

abbrev pub path_of_found : Option Closure → List PlacedRule
path_of_found None = []
path_of_found (Some c) = c.path

-- the path of the closure of this number, or none
abbrev pub path_to : List Closure → Option ℕ → List PlacedRule
path_to cs None = []
path_to cs (Some b) = path_of_found (slice_get cs b)

-- the term whose tokens begin at a place
abbrev pub term_from : List Token → ℕ → Tree
term_from tokens i = term_of (drop i tokens)

-- the closure of a link behind these closures
abbrev pub link_closure : List Token → List Closure → Link → Closure
link_closure tokens cs l = record { left = term_from tokens l.left; right = term_from tokens l.right; path = path_to cs l.before ++ l.step ∷ [] }

-- these closures, and after them those of the links
abbrev pub closures_after : List Token → List Closure → List Link → List Closure
closures_after tokens cs [] = cs
closures_after tokens cs (l ∷ ls) = closures_after tokens (cs ++ link_closure tokens cs l ∷ []) ls

-- the closures of the links, by their numbers
abbrev pub closures_of : Closures → List Closure
closures_of k = closures_after k.tokens.items [] k.links.items

-- a well-formed term whose variables are below 65,536
pub record IsFit (arities : List ℕ) (t : Tree) : Type 0 where
  pub well_formed : IsWellFormed arities t
  pub variables : HasSmallVariables t

-- the tokens of the term stand from place i to place j
pub record StandsFrom (tokens : List Token) (i j : ℕ) (t : Tree) : Type 0 where
  pub rest : List Token
  pub here : drop i tokens ≡ tokens_of t ++ rest
  pub ends : j ≡ i + length (tokens_of t)

-- the sides stand where the link says, the closure that is extended comes before, and the sides are fit
pub record IsLink (arities : List ℕ) (tokens : List Token) (i : ℕ) (l : Link) : Type 0 where
  pub left_there : StandsFrom tokens l.left l.right (term_from tokens l.left)
  pub right_there : StandsFrom tokens l.right l.end (term_from tokens l.right)
  pub earlier : (b : ℕ) → l.before ≡ Some b → b < i
  pub left_fit : IsFit arities (term_from tokens l.left)
  pub right_fit : IsFit arities (term_from tokens l.right)

pub record IsSound (arities : List ℕ) (k : Closures) : Type 0 where
  pub each : (i : ℕ) (l : Link) → slice_get k.links.items i ≡ Some l → IsLink arities k.tokens.items i l
