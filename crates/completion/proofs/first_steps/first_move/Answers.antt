use Rattle.term_pool.specs.Pooled.{tree_at}
use Rattle.std.proofs.Common.{refl}
use Rattle.completion.proofs.SearchLaws.{found_none, when_ok}
use Rattle.completion.specs.MetTerms.{IsMet}
use Rattle.completion.proofs.MetLaws.{more_met, passed_more, sides_there}
use Rattle.completion.proofs.first_steps.first_move.Goals.{In_ok-first_redex}
use Rattle.completion.proofs.first_steps.first_move.Goals as goal

pub first_redex-requires-clause-sides : goal.first_redex-requires-clause-sides
first_redex-requires-clause-sides c = rw c.as_slice-sides.ensures.value (sides_there c.args.system.now.rules c.args.met.now c.requires.met)

pub returns-in-None-clause-moves : goal.returns-in-None-clause-moves
returns-in-None-clause-moves c =
    found_none c.args.system.now.rules c.args.system.now.rules (tree_at c.args.met.now.pool c.args.id) c.new-place.result.items c.first_redex.new.place.items c.in_ok-first_redex.field-0
    refl c.in-None.is c.in_ok-first_redex.ensures.found

-- what is noted after the search
searched : (c : In_ok-first_redex) → IsMet c.args.system.now.rules (record { pool = c.args.met.now.pool; passed = c.first_redex.new.passed; sides = c.args.met.now.sides; base = c.args.met.now.base; most = c.args.met.now.most })
searched c = passed_more c.args.system.now.rules c.args.met.now _ c.requires.met refl refl refl c.in_ok-first_redex.ensures.passed

pub returns-in-None-clause-met : goal.returns-in-None-clause-met
returns-in-None-clause-met c = searched (goal.at.returns-in-None-clause-met c).In_ok-first_redex

pub returns-then-units-eq0-clause-met : goal.returns-then-units-eq0-clause-met
returns-then-units-eq0-clause-met c = searched (goal.at.returns-then-units-eq0-clause-met c).In_ok-first_redex

pub returns-in-Ok-clause-met : goal.returns-in-Ok-clause-met
returns-in-Ok-clause-met c = more_met c.args.system.now.rules _ _ (searched (goal.at.returns-in-Ok-clause-met c).In_ok-first_redex) c.in-Ok.ensures.kept refl refl refl

pub returns-clause-met : goal.returns-clause-met
returns-clause-met c = when_ok c.stop_of.result _ (more_met c.args.system.now.rules _ _ (searched (goal.at.returns-clause-met c).In_ok-first_redex) c.in-Err.ensures.kept refl refl refl)
