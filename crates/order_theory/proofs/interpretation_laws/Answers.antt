use Rattle.order_theory.proofs.Linear.{linear_pair}
use Rattle.order_theory.proofs.Coefficients.{weak_by_coefficients, strict_by_coefficients, coefficients_of_weak, coefficients_of_strict}
use Rattle.order_theory.proofs.interpretation_laws.Goals as goal

pub returns-clause-pair : goal.returns-clause-pair
returns-clause-pair c = linear_pair

pub returns-clause-weak : goal.returns-clause-weak
returns-clause-weak c = λ k s t. (weak_by_coefficients k s t, coefficients_of_weak k s t)

pub returns-clause-strict : goal.returns-clause-strict
returns-clause-strict c = λ k s t. (strict_by_coefficients k s t, coefficients_of_strict k s t)
