-- Where caps are apart, terms are not joinable.
use Rattle.std.proofs.Common.{ℕ, List}
use Rattle.trs_defs.specs.Tree.{Tree}
use Rattle.trs_defs.specs.Substitution.{apply}
use Rattle.trs_defs.specs.WellFormed.{IsWellFormed}
use Rattle.trs_defs.specs.System.{RewriteRule, System, Among}
use Rattle.trs_defs.specs.Derivation.{Reaches}
use Rattle.trs_defs.specs.Joinable.{IsJoinable}
use Rattle.trs_defs.specs.Step.{Step}
use Rattle.trs_defs.specs.Cap.{Fits, Cap}
use Rattle.trs_defs.specs.Claims.{IsForked}
use Rattle.trs_defs.proofs.CapLaws.{fits_itself, run_fits}
use Rattle.trs_defs.proofs.Derivations.{run_of_reaches, reaches_carried}
use Rattle.trs_defs.proofs.Substitutions.{step_closed}

module _ (rules : List RewriteRule) where
  -- what a term reaches fits the cap that it has when its variables are read by a substitution: steps go on under it
  read_fits : (t c v : Tree) (read : ℕ → Tree) → Cap (Among rules) (apply read t) c → Reaches (Step rules) t v → Fits c (apply read v)
  read_fits t c v read k d =
      let go : Reaches (Step rules) (apply read t) (apply read v) =
      reaches_carried (Step rules) (Step rules) (apply read) (λ a b s. (step_closed (Among rules)).instance read a b s) t v d in
      run_fits (Among rules) k (fits_itself (Among rules) k) (run_of_reaches (Step rules) (apply read t) (apply read v) go)

  pub caps_apart_not_joinable : (t u c d : Tree) (read : ℕ → Tree) → Cap (Among rules) (apply read t) c → Cap (Among rules) (apply read u) d
      → ((v : Tree) → Fits c v → Fits d v → ⊥) → IsJoinable (Step rules) t u → ⊥
  caps_apart_not_joinable t u c d read k l apart (v, tv, uv) = apart (apply read v) (read_fits t c v read k tv) (read_fits u d v read l uv)

pub caps_apart_forked : (system : System) (s t u c d : Tree) (read : ℕ → Tree) → IsWellFormed system.arities s → Reaches (Step system.rules) s t
    → Reaches (Step system.rules) s u → Cap (Among system.rules) (apply read t) c → Cap (Among system.rules) (apply read u) d
    → ((v : Tree) → Fits c v → Fits d v → ⊥) → IsForked system
caps_apart_forked system s t u c d read well st su k l apart =
    (s, t, u, well, st, su, caps_apart_not_joinable system.rules t u c d read k l apart)
