use Rattle.completion.proofs.SearchLaws.{when_ok}
use Rattle.completion.proofs.MetLaws.{cut_extends}
use Rattle.completion.proofs.met.Met.carry_over.Goals as goal

pub returns-then-len-self-clause-kept : goal.returns-then-len-self-clause-kept
returns-then-len-self-clause-kept c = cut_extends c.args.mark c.args.self.now.pool

pub returns-clause-met : goal.returns-clause-met
returns-clause-met c = when_ok c.intern.result _ (λ rules h. c.intern.ensures.met rules (c.forget_from.ensures.met rules h))
