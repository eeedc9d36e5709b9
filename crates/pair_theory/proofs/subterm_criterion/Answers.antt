use Rattle.pair_theory.proofs.Projections.{criterion_theorem}
use Rattle.pair_theory.proofs.subterm_criterion.Goals as goal

pub returns : goal.returns
returns c = record { finite = λ system pairs stays place ok good class. criterion_theorem system ok pairs stays good place class }
