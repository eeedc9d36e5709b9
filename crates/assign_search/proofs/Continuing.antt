use Rattle.std.proofs.Common.{refl, ◌∙◌, arith}
use Rattle.assign_search.specs.declared.stop.Stop.{Ghosts}
use Rattle.assign_search.specs.Continues.{Continues}

pub continues_itself : {A : Type 0} (P : Ghosts A) (x : A) → Continues P x x
continues_itself P x = record { later = omega arith; kept = refl }

pub continues_on : {A : Type 0} {P : Ghosts A} {old now new : A} → Continues P old now → Continues P now new → Continues P old new
continues_on h k = record { later = omega (arith, h.later, k.later); kept = k.kept ∙ h.kept }
