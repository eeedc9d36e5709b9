-- What steps of proofs look up in a system.
use Rattle.std.specs.Prelude.{◌≡◌, IfSome}
use Rattle.trs_defs.specs.System.{System}
use Rattle.pair_theory.specs.DependencyPair.{dependency_pairs}
use Rattle.cert_step.specs.Table.{contents}
use Rattle.cert_step.specs.declared.tables.Tables.{Tables}

-- what is there is of the system
pub record AreTablesOf (system : System) (tables : Tables) : Type 0 where
  pub pairs : IfSome tables.pairs (λ pairs. contents pairs ≡ dependency_pairs system.rules)
  pub graph : IfSome tables.graph (λ graph. contents graph ≡ system)
