-- Argument filters, and the path order on filtered terms. (Arts and Giesl, 2000; Kusakari, Nakamura and
-- Toyama, 1999.) Places are counted from 1, and
-- 0 is read as 1.
use Rattle.std.specs.Prelude.{◌≡◌, ℕ, ◌-◌, ◌⊎◌, List, [], ◌∷◌}
use Rattle.std.proofs.Common.{zero, suc}
use Rattle.trs_defs.specs.Tree.{Tree, Trees, var, app, nil, cons}
use Rattle.pair_theory.specs.ItemOr.{item_or}
use Rattle.order_theory.specs.PathOrder.{PathGreater}

-- a term of the symbol becomes its argument at a place, or keeps the arguments at some places, in the listed order
pub data ArgumentFilter : Type 0 where
  To : ℕ → ArgumentFilter
  Keep : List ℕ → ArgumentFilter

-- the item at an index, counted from 0, before the rest, or the rest alone past the last
abbrev pub keep_one : ℕ → Trees → Trees → Trees
keep_one i nil rest = rest
keep_one zero (cons t ts) rest = cons t rest
keep_one (suc i) (cons t ts) rest = keep_one i ts rest

-- the items at some places
abbrev pub select : List ℕ → Trees → Trees
select [] ts = nil
select (place ∷ places) ts = keep_one (place - 1) ts (select places ts)

-- what a term of f becomes; f alone stands for an argument that is missing
abbrev pub by_filter : ℕ → ArgumentFilter → Trees → Tree
by_filter f (To place) ts = item_or (place - 1) ts (app f nil)
by_filter f (Keep places) ts = app f (select places ts)

abbrev mutual
  pub filtered : (ℕ → ArgumentFilter) → Tree → Tree
  filtered filter (var x) = var x
  filtered filter (app f ts) = by_filter f (filter f) (filtered_all filter ts)

  pub filtered_all : (ℕ → ArgumentFilter) → Trees → Trees
  filtered_all filter nil = nil
  filtered_all filter (cons t ts) = cons (filtered filter t) (filtered_all filter ts)

abbrev pub PathStrict : (ℕ → ℕ) → (ℕ → ArgumentFilter) → Tree → Tree → Type 0
PathStrict rank filter s t = PathGreater rank (filtered filter s) (filtered filter t)

abbrev pub PathWeak : (ℕ → ℕ) → (ℕ → ArgumentFilter) → Tree → Tree → Type 0
PathWeak rank filter s t = (filtered filter s ≡ filtered filter t) ⊎ PathStrict rank filter s t
