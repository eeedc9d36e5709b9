-- Normal forms, in confluent systems and in forked ones.
use Rattle.trs_defs.specs.Claims.{IsConfluent, IsForked}
use Rattle.trs_defs.specs.System.{System}
use Rattle.trs_defs.specs.Step.{Step}
use Rattle.trs_defs.specs.UniqueNormalForms.{HasUniqueNormalForms, IsSplit}
use Rattle.trs_defs.proofs.NormalForms.{joinable_equal, forked_by_normal_forms}

pub split_forked : (system : System) → IsSplit system → IsForked system
split_forked system (s, t, u, well, (st, normal), (su, normal'), different) =
    forked_by_normal_forms system s t u well st su normal normal' different

pub confluent_unique : (system : System) → IsConfluent system → HasUniqueNormalForms system
confluent_unique system confluent s t u well (st, normal) (su, normal') =
    joinable_equal (Step system.rules) t u normal normal' (confluent s t u well st su)

pub split_not_unique : (system : System) → IsSplit system → HasUniqueNormalForms system → ⊥
split_not_unique system (s, t, u, well, st, su, different) unique = different (unique s t u well st su)

pub forked_not_confluent : (system : System) → IsForked system → IsConfluent system → ⊥
forked_not_confluent system (s, t, u, well, st, su, apart) confluent = apart (confluent s t u well st su)
