-- Rows that lead back along others.
use Rattle.std.specs.Prelude.{◌≡◌, ◌<◌, ◌↔◌, ◌⊎◌, ℕ, List, length}
use Rattle.trs_defs.specs.Member.{In}
use Rattle.dp_graph.specs.Rows.{Follows}

-- the second rows lead back along the first ones
pub record AreReversed (rows back : List (List ℕ)) : Type 0 where
  pub count : length rows ≡ length back
  pub reversed : (i j : ℕ) → Follows rows i j ↔ Follows back j i
  pub within : (i j : ℕ) → Follows rows i j → j < length rows

-- the new rows lead to place i too, from each place of its row
pub record AddsBack (row : List ℕ) (i : ℕ) (old new : List (List ℕ)) : Type 0 where
  pub count : length new ≡ length old
  pub exact : (j k : ℕ) → Follows new j k ↔ (Follows old j k ⊎ (In j row × (k ≡ i)))
