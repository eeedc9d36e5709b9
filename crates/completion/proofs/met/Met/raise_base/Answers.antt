use Rattle.std.proofs.Common.{refl}
use Rattle.completion.proofs.MetLaws.{raised}
use Rattle.completion.proofs.met.Met.raise_base.Goals as goal

pub returns-clause-met : goal.returns-clause-met
returns-clause-met c = λ rules h. raised rules c.args.self.now _ h refl refl refl c.len-self.ensures.len
