use Rattle.std.proofs.Common.{◌<◌, ◌∙◌, arith, length, refl, subst}
use Rattle.term_pool.specs.Pooled.{Extends, tree_at}
use Rattle.term_pool.proofs.Extending.{extends_itself, extends_on, kept_cut}
use Rattle.term_pool.proofs.NarrowLaws.{narrow_of_well_formed}
use Rattle.term_pool.proofs.PoolTrees.{stands}
use Rattle.completion.specs.declared.first_steps.Move.{Move}
use Rattle.completion.specs.Moving.{IsMove}
use Rattle.completion.proofs.FirstSteps.{way_begins, way_goes_on, way_ends, way_stops}
use Rattle.completion.proofs.normalizing.normal_form.Goals.{In_ok-first_move}
use Rattle.completion.proofs.normalizing.normal_form.Goals as goal

pub loop-why-init : goal.loop-why-init
loop-why-init c = record {
  way = way_begins c.args.system.now c.args.units (tree_at c.args.met.now.pool c.args.id) c.args.met.now.pool c.args.id (stands c.args.met.now.pool c.args.id c.requires.over.0) c.requires.over.1;
  kept = extends_itself c.args.met.now.pool;
  base = refl;
  met = c.requires.met;
}

pub first_move-requires-clause-narrow : goal.first_move-requires-clause-narrow
first_move-requires-clause-narrow c =
    narrow_of_well_formed c.args.system.now.arities c.growing_systems_are_valid.ensures.bytes (tree_at c.loop-why.met.pool c.loop-why.current) c.loop-why.invariant.way.well_formed

-- the pool after the move has what it had at first
kept : (c : In_ok-first_move) → Extends c.args.met.now.pool c.first_move.new.met.pool
kept c = extends_on c.args.met.now.pool c.loop-why.met.pool c.first_move.new.met.pool c.loop-why.invariant.kept c.in_ok-first_move.ensures.kept

there : (c : In_ok-first_move) → c.loop-why.current < length c.first_move.new.met.pool
there c =
    let longer = c.in_ok-first_move.ensures.kept.longer in
    let before = c.loop-why.invariant.way.there in
    omega (arith, longer, before)

pub returns-in-Nowhere-clause-form : goal.returns-in-Nowhere-clause-form
returns-in-Nowhere-clause-form c =
    let M : Move → Type 0 = IsMove c.args.system.now.rules c.loop-why.left (tree_at c.loop-why.met.pool c.loop-why.current) c.first_move.new.met.pool in
    way_ends c.args.system.now c.args.units c.loop-why.left (tree_at c.args.met.now.pool c.args.id) (tree_at c.first_move.new.met.pool c.loop-why.current) c.loop-why.met.pool c.first_move.new.met.pool c.loop-why.current
    c.loop-why.invariant.way (subst M c.in-Nowhere.is c.in_ok-first_move.ensures.moves) c.in_ok-first_move.ensures.kept
    (stands c.first_move.new.met.pool c.loop-why.current (there (goal.at.returns-in-Nowhere-clause-form c).In_ok-first_move))

pub returns-in-Nowhere-clause-there : goal.returns-in-Nowhere-clause-there
returns-in-Nowhere-clause-there c = there (goal.at.returns-in-Nowhere-clause-there c).In_ok-first_move

pub returns-in-Nowhere-clause-base : goal.returns-in-Nowhere-clause-base
returns-in-Nowhere-clause-base c = c.in_ok-first_move.ensures.base ∙ c.loop-why.invariant.base

pub returns-in-Nowhere-clause-kept : goal.returns-in-Nowhere-clause-kept
returns-in-Nowhere-clause-kept c = kept (goal.at.returns-in-Nowhere-clause-kept c).In_ok-first_move

pub returns-in-Stopped-clause-form : goal.returns-in-Stopped-clause-form
returns-in-Stopped-clause-form c =
    let M : Move → Type 0 = IsMove c.args.system.now.rules c.loop-why.left (tree_at c.loop-why.met.pool c.loop-why.current) c.first_move.new.met.pool in
    way_stops c.args.system.now c.args.units c.loop-why.left (tree_at c.args.met.now.pool c.args.id) c.loop-why.met.pool c.loop-why.current c.in-Stopped.why c.loop-why.invariant.way
    (subst M c.in-Stopped.is c.in_ok-first_move.ensures.moves)

pub returns-in-Stopped-clause-base : goal.returns-in-Stopped-clause-base
returns-in-Stopped-clause-base c = c.in_ok-first_move.ensures.base ∙ c.loop-why.invariant.base

pub returns-in-Stopped-clause-kept : goal.returns-in-Stopped-clause-kept
returns-in-Stopped-clause-kept c = kept (goal.at.returns-in-Stopped-clause-kept c).In_ok-first_move

pub carry_over-requires-clause-marked : goal.carry_over-requires-clause-marked
carry_over-requires-clause-marked c =
    let longer = (kept (goal.at.carry_over-requires-clause-marked c).In_ok-first_move).longer in
    omega (arith, c.mark-mark.ensures, longer)

pub carry_over-requires-clause-base : goal.carry_over-requires-clause-base
carry_over-requires-clause-base c = omega (arith, c.in_ok-first_move.ensures.base, c.loop-why.invariant.base, c.requires.met.within, c.mark-mark.ensures)

pub loop-why-preserved : goal.loop-why-preserved
loop-why-preserved c =
    let M : Move → Type 0 = IsMove c.args.system.now.rules c.loop-why.left (tree_at c.loop-why.met.pool c.loop-why.current) c.first_move.new.met.pool in
    record {
      way = way_goes_on c.args.system.now c.growing_systems_are_valid.ensures.valid c.args.units c.loop-why.left (tree_at c.args.met.now.pool c.args.id) c.loop-why.met.pool c.first_move.new.met.pool c.carry_over.new.self.pool
          c.loop-why.current c.in-To.next c.in_ok-current-in-To.current c.loop-why.invariant.way (subst M c.in-To.is c.in_ok-first_move.ensures.moves).0
          c.in_ok-current-in-To.ensures.same c.in_ok-current-in-To.ensures.there;
      kept = kept_cut c.args.met.now.pool c.first_move.new.met.pool c.carry_over.new.self.pool c.mark-mark.result c.mark-mark.ensures (kept (goal.at.loop-why-preserved c).In_ok-first_move) c.in_ok-current-in-To.ensures.kept;
      base = c.in_ok-current-in-To.ensures.base ∙ (c.in_ok-first_move.ensures.base ∙ c.loop-why.invariant.base);
      met = c.in_ok-current-in-To.ensures.met c.args.system.now.rules c.in_ok-first_move.ensures.met;
    }
