use Rattle.std.specs.Prelude.{◌≡◌, ◌≤◌}
use Rattle.assign_search.specs.declared.stop.Stop.{Ghosts}

-- no stop is forgotten, and what no call changes is as before
pub record Continues {A : Type 0} (P : Ghosts A) (old new : A) : Type 0 where
  pub later : P.stops old ≤ P.stops new
  pub kept : P.kept new ≡ P.kept old
