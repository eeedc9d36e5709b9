use Rattle.std.proofs.Common.{refl}
use Rattle.completion.proofs.MetLaws.{forgotten}
use Rattle.completion.proofs.met.Met.forget_from.Goals as goal

pub returns-clause-met : goal.returns-clause-met
returns-clause-met c = λ rules h.
    forgotten rules c.args.self.now _ h c.args.mark c.release.ensures c.forget_from.ensures.below c.forget_from.ensures.above refl refl c.requires.marked c.requires.base
