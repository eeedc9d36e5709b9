use Rattle.std.proofs.Common.{◌≡◌, ℕ, List, IfSome, length, take, subst, sym, arith}
use Rattle.std.proofs.lemmas.List.{take_all}
use Rattle.trs_defs.specs.System.{RewriteRule}
use Rattle.term_pool.proofs.Extending.{extends_itself, extends_on}
use Rattle.crit_pairs.specs.GroundSides.{IsGroundSide, AreGroundRights}
use Rattle.crit_pairs.proofs.GroundRights.{one_right_more}
use Rattle.crit_pairs.proofs.ground_sides.add_ground_rights.Goals as goal

pub loop-k-init : goal.loop-k-init
loop-k-init c =
    let same : c.len-known.result ≡ length c.args.rights.items = omega (arith, c.len-known.ensures, c.args.rights.ok.0) in
    let R : ℕ → Type 0 = λ n. AreGroundRights (take n c.args.rules.now) c.args.pool.now c.args.rights.items in
    record { rights = subst R (sym same) c.requires; kept = extends_itself c.args.pool.now }

pub loop-k-preserved : goal.loop-k-preserved
loop-k-preserved c =
    let S : RewriteRule → Type 0 = λ r. IfSome c.in_ok-side.side (IsGroundSide c.ground_side.new.pool r.right) in
    record {
      rights = one_right_more c.args.rules.now c.loop-k.k c.index-rules-k.result c.loop-k.pool c.ground_side.new.pool c.loop-k.sides.items _ c.in_ok-side.side c.loop-k-test.true c.index-rules-k.is
          c.in_ok-side.ensures.kept (subst S c.rule.view_is c.in_ok-side.ensures.side) c.in_ok-push.ensures.items c.loop-k.invariant.rights;
      kept = extends_on c.args.pool.now c.loop-k.pool c.ground_side.new.pool c.loop-k.invariant.kept c.in_ok-side.ensures.kept;
    }

pub returns-in_err-side-clause-kept : goal.returns-in_err-side-clause-kept
returns-in_err-side-clause-kept c = extends_on c.args.pool.now c.loop-k.pool c.ground_side.new.pool c.loop-k.invariant.kept c.in_err-side.ensures.kept

pub returns-clause-rights : goal.returns-clause-rights
returns-clause-rights c =
    let R : List RewriteRule → Type 0 = λ rs. AreGroundRights rs c.loop-k.pool c.loop-k.sides.items in
    subst R (take_all c.loop-k.k c.args.rules.now c.loop-k-test.false) c.loop-k.invariant.rights
