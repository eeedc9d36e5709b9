use Rattle.std.proofs.Common.{refl}
use Rattle.completion.proofs.MetLaws.{more_met}
use Rattle.completion.proofs.met.Met.intern.Goals as goal

pub returns-in_err-id-clause-met : goal.returns-in_err-id-clause-met
returns-in_err-id-clause-met c = λ rules h. more_met rules c.args.self.now _ h c.in_err-id.ensures.kept refl refl refl

pub returns-clause-met : goal.returns-clause-met
returns-clause-met c = λ rules h. more_met rules c.args.self.now _ h c.in_ok-id.ensures.kept refl refl refl
