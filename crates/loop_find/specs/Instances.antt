-- Instances of a pattern in the arguments of a term, from the left.
use Rattle.std.specs.Prelude.{◌≡◌, ℕ, Bool, true, false, List, ◌++◌}
use Rattle.trs_defs.specs.Tree.{Tree}
use Rattle.loop_find.specs.LoopRow.{Recurs, RecursFirst}

-- the place is longer by that of the first instance
pub record LeadsFirst (pattern t : Tree) (old new : List ℕ) : Type 0 where
  pub below : List ℕ
  pub longer : new ≡ old ++ below
  pub first : RecursFirst pattern t below

-- no instance stands in the term, and the place is as before
pub record LeadsNowhere (pattern t : Tree) (old new : List ℕ) : Type 0 where
  pub same : new ≡ old
  pub none : (q : List ℕ) → Recurs pattern t q → ⊥

abbrev pub Leads : Tree → Tree → List ℕ → List ℕ → Bool → Type 0
Leads pattern t old new true = LeadsFirst pattern t old new
Leads pattern t old new false = LeadsNowhere pattern t old new
