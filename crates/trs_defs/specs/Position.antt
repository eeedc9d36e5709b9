-- Positions: lists of argument places, which are counted from 1. (Baader and Nipkow, definition 3.1.3.)
use Rattle.std.specs.Prelude.{ℕ, List, [], ◌∷◌, Option, Some, None, slice_get, slice_set}
use Rattle.std.specs.Option.{option_and_then, option_map}
use Rattle.std.proofs.Common.{zero, suc}
use Rattle.trs_defs.specs.Tree.{Tree, var, app, trees, items}

-- the argument at a place
abbrev pub argument_at : Tree → ℕ → Option Tree
argument_at (var n) place = None
argument_at (app f ts) zero = None
argument_at (app f ts) (suc i) = slice_get (items ts) i

-- the subterm at a position
abbrev pub subterm_at : List ℕ → Tree → Option Tree
subterm_at [] t = Some t
subterm_at (place ∷ p) t = option_and_then (subterm_at p) (argument_at t place)

-- the term with another argument at a place
abbrev pub with_argument : Tree → ℕ → Tree → Tree
with_argument (var n) place u = var n
with_argument (app f ts) zero u = app f ts
with_argument (app f ts) (suc i) u = app f (trees (slice_set (items ts) i u))

-- the term with another subterm at a position
abbrev pub replaced_at : List ℕ → Tree → Tree → Option Tree
replaced_at [] t u = Some u
replaced_at (place ∷ p) t u =
    option_and_then (λ a. option_map (with_argument t place) (replaced_at p a u)) (argument_at t place)
