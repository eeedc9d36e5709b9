use Rattle.order_theory.proofs.PathPair.{path_pair}
use Rattle.order_theory.proofs.PathDecides.{path_decides}
use Rattle.order_theory.proofs.path_order_laws.Goals as goal

pub returns-clause-pair : goal.returns-clause-pair
returns-clause-pair c = path_pair

pub returns-clause-test : goal.returns-clause-test
returns-clause-test c = λ rank s t. path_decides rank s t
