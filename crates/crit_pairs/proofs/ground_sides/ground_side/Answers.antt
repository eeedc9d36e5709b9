use Rattle.std.proofs.Common.{◌∙◌, sym, arith, IsTrue}
use Rattle.trs_core.specs.View.{tree}
use Rattle.trs_defs.specs.Size.{within_limits}
use Rattle.trs_defs.proofs.Limits.{limits_size}
use Rattle.term_pool.proofs.Extending.{extends_itself}
use Rattle.crit_pairs.proofs.GroundRights.{no_variable}
use Rattle.crit_pairs.proofs.ground_sides.ground_side.Goals as goal

pub returns-in-Some-clause-kept : goal.returns-in-Some-clause-kept
returns-in-Some-clause-kept c = extends_itself c.args.pool.now

pub returns-then-not-is_within_limits-clause-kept : goal.returns-then-not-is_within_limits-clause-kept
returns-then-not-is_within_limits-clause-kept c = extends_itself c.args.pool.now

pub returns-clause-side : goal.returns-clause-side
returns-clause-side c =
    let small : IsTrue (within_limits (tree c.args.t.now)) = sym c.is_within_limits.ensures ∙ c.if-not-is_within_limits.false in
    record {
      stands = c.in_ok-id.ensures.id;
      ground = no_variable (tree c.args.t.now) (sym c.least_variable-least.ensures ∙ c.in_default.is);
      small = small;
      size = omega (arith, c.size-size.ensures, limits_size (tree c.args.t.now) small);
    }
