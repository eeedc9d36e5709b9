use Rattle.std.proofs.Common.{[], refl}
use Rattle.cert_step.proofs.known.not_strict.Goals as goal

pub returns-in-Poly : goal.returns-in-Poly
returns-in-Poly c = λ taken are. rw c.in-Poly.is (c.removal_check.ensures.answers [] [] taken refl refl are)

pub returns-in-Lpo : goal.returns-in-Lpo
returns-in-Lpo c = λ taken are. rw c.in-Lpo.is (c.removal_check-in-Lpo.ensures.answers [] [] taken refl refl are)

pub returns-in-Kbo : goal.returns-in-Kbo
returns-in-Kbo c = λ taken are. rw c.in-Kbo.is (c.removal_check-in-Kbo.ensures.answers [] [] taken refl refl are)
