-- What is known of the entries of tables that a text gives: their symbols are of the system, plain or marked, and no
-- symbol has two entries.
use Rattle.std.specs.Prelude.{◌≡◌, ◌≤◌, ℕ, false, List, [], ◌∷◌, map, length}
use Rattle.std.specs.List.{AllByRecursion}
use Rattle.trs_defs.specs.Variable.{is_listed}
use Rattle.dp_graph.specs.dp_core.Projection.{IsProjection}
use Rattle.poly_lin.specs.Table as poly
use Rattle.poly_lin.specs.WellMade.{IsLinearEntry}
use Rattle.path_lpo.specs.Table as path
use Rattle.path_lpo.specs.Table.{PathEntry}
use Rattle.path_lpo.specs.WellMade.{IsPathEntry}
use Rattle.kbo_order.specs.Table as knuth
use Rattle.kbo_order.specs.Faults.{IsFaultless}
use Rattle.kbo_order.specs.WellMade.{IsKboEntry}
use Rattle.kbo_order.specs.declared.entries.KboEntry.{KboEntry}

-- no number stands twice
abbrev pub AreDistinct : List ℕ → Type 0
AreDistinct [] = Unit {0}
AreDistinct (n ∷ ns) = (is_listed n ns ≡ false) × AreDistinct ns

-- ---- projections

pub record AreProjections (arities : List ℕ) (projection : List (ℕ × ℕ)) : Type 0 where
  pub each : AllByRecursion (IsProjection arities) projection
  pub distinct : AreDistinct (map (λ e. e.0) projection)

-- ---- linear interpretations

pub record AreLinearEntries (arities : List ℕ) (entries : List (ℕ × List ℕ)) : Type 0 where
  pub each : AllByRecursion (IsLinearEntry arities) entries
  pub distinct : AreDistinct (map poly.symbol_of entries)

-- ---- path orders

pub record ArePathEntries (arities : List ℕ) (entries : List PathEntry) : Type 0 where
  pub each : AllByRecursion (IsPathEntry arities) entries
  pub distinct : AreDistinct (map path.symbol_of entries)

-- ---- Knuth-Bendix orders

-- marks, from 4,096 on, pass all symbols
pub record AreKboEntries (arities : List ℕ) (entries : List KboEntry) : Type 0 where
  pub few : length arities ≤ 4095
  pub each : AllByRecursion (IsKboEntry arities) entries
  pub distinct : AreDistinct (map knuth.symbol_of entries)
  pub faultless : IsFaultless entries
