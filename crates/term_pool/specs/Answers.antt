-- What a call that gives an id answered.
use Rattle.std.specs.Prelude.{◌≡◌, ℕ, List, Result, Ok, Err}
use Rattle.trs_defs.specs.Tree.{Tree}
use Rattle.term_pool.specs.Pooled.{StandsFor}

-- the result is an id for this term, unless it is want of memory
abbrev pub GivesId : {E : Type 0} → E → List Tree → Result ℕ E → Tree → Type 0
GivesId memory pool (Ok id) t = StandsFor pool id t
GivesId memory pool (Err e) t = e ≡ memory
