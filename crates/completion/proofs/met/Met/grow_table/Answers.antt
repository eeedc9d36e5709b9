use Rattle.std.proofs.Common.{take, refl}
use Rattle.completion.proofs.MetLaws.{more_met, whole_of}
use Rattle.crit_pairs.proofs.SpotWalk.{narrow_sides}
use Rattle.completion.proofs.PairLaws.{first_still, has_if_some}
use Rattle.completion.proofs.met.Met.grow_table.Goals as goal

pub forget_over-requires : goal.forget_over-requires
forget_over-requires c = c.requires.met.within

pub grow-requires-clause-narrow : goal.grow-requires-clause-narrow
grow-requires-clause-narrow c = narrow_sides c.args.system.now c.rules.result.now c.rules.ensures.rules c.rules.ensures.valid c.rules.ensures.bytes

pub grow-requires-clause-first : goal.grow-requires-clause-first
grow-requires-clause-first c =
    rw c.rules.ensures.rules (first_still c.args.system.now.rules (take c.args.self.now.base c.args.self.now.pool) c.forget_over.new.self.pool c.args.table c.forget_over.ensures.kept.kept c.requires.table)

pub returns-clause-peaks : goal.returns-clause-peaks
returns-clause-peaks c =
    has_if_some c.in_ok-grown.grown c.args.system.now.rules c.rules.result.now _ _ c.rules.ensures.rules (whole_of c.raise_base.new.self _ c.raise_base.ensures.pool c.raise_base.ensures.base) c.in_ok-grown.ensures.peaks

pub returns-clause-met : goal.returns-clause-met
returns-clause-met c =
    c.raise_base.ensures.met c.args.system.now.rules
    (more_met c.args.system.now.rules c.forget_over.new.self _ (c.forget_over.ensures.met c.args.system.now.rules c.requires.met) c.grow.ensures.kept refl refl refl)
