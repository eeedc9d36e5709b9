-- What a step of matching at an id keeps.
use Rattle.std.specs.Prelude.{◌≡◌, ℕ, Bool, true, false, List, Some}
use Rattle.trs_defs.specs.Tree.{Tree}
use Rattle.trs_defs.specs.Substitution.{apply}
use Rattle.term_pool.specs.declared.bindings.Bindings.{Bindings}
use Rattle.term_pool.specs.Bindings.{bound}
use Rattle.term_pool.specs.Pooled.{tree_at}

-- the substitution gives the variables the terms of their ids
abbrev pub Agrees : List Tree → Bindings → (ℕ → Tree) → Type 0
Agrees pool m s = (v id : ℕ) → bound m v ≡ Some id → s v ≡ tree_at pool id

-- Of the substitutions that have the old bindings, those that take the pattern to the term are those that have the new ones.
pub record Narrows (pool : List Tree) (pattern term : Tree) (old new : Bindings) : Type 0 where
  pub sound : (s : ℕ → Tree) → Agrees pool new s → Agrees pool old s × (apply s pattern ≡ term)
  pub complete : (s : ℕ → Tree) → Agrees pool old s → apply s pattern ≡ term → Agrees pool new s

-- No substitution that has the bindings takes the pattern to the term.
pub record Refutes (pool : List Tree) (pattern term : Tree) (old : Bindings) : Type 0 where
  pub none : (s : ℕ → Tree) → Agrees pool old s → apply s pattern ≡ term → ⊥

abbrev pub Matches : List Tree → Tree → Tree → Bindings → Bindings → Bool → Type 0
Matches pool pattern term old new true = Narrows pool pattern term old new
Matches pool pattern term old new false = Refutes pool pattern term old
