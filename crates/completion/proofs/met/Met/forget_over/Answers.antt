use Rattle.std.proofs.Common.{refl}
use Rattle.term_pool.proofs.Extending.{extends_itself}
use Rattle.completion.proofs.MetLaws.{base_kept, cut_kept}
use Rattle.completion.proofs.met.Met.forget_over.Goals as goal

pub returns-then-len-most-clause-kept : goal.returns-then-len-most-clause-kept
returns-then-len-most-clause-kept c = cut_kept c.args.self.now c.forget_from.new.self c.forget_from.ensures.base c.forget_from.ensures.pool

pub returns-else-len-most-clause-kept : goal.returns-else-len-most-clause-kept
returns-else-len-most-clause-kept c = base_kept c.args.self.now c.args.self.now refl (extends_itself c.args.self.now.pool)
