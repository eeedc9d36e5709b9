-- Terms as an order sees them that has entries for some symbols only: a subterm whose root has no entry is read as one
-- variable.
use Rattle.std.specs.Prelude.{ℕ, Bool, true, false, IsTrue}
use Rattle.trs_defs.specs.Tree.{Tree, Trees, var, app, nil, cons}

-- each symbol of the term has an entry
abbrev mutual
  pub HasEntries : (ℕ → Bool) → Tree → Type 0
  HasEntries entry (var x) = Unit {0}
  HasEntries entry (app f ts) = IsTrue (entry f) × HaveEntries entry ts

  pub HaveEntries : (ℕ → Bool) → Trees → Type 0
  HaveEntries entry nil = Unit {0}
  HaveEntries entry (cons t ts) = HasEntries entry t × HaveEntries entry ts

abbrev pub by_root : Bool → Tree → Tree
by_root true t = t
by_root false t = var 0

abbrev mutual
  pub erased : (ℕ → Bool) → Tree → Tree
  erased entry (var x) = var x
  erased entry (app f ts) = by_root (entry f) (app f (erased_all entry ts))

  pub erased_all : (ℕ → Bool) → Trees → Trees
  erased_all entry nil = nil
  erased_all entry (cons t ts) = cons (erased entry t) (erased_all entry ts)
