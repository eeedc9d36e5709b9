use Rattle.std.proofs.Common.{ℕ, ◌+◌, sym}
use Rattle.trs_defs.specs.Tree.{Tree, var}
use Rattle.trs_core.specs.View.{tree}
use Rattle.term_pool.proofs.LeftSideLaws.{ground_stays}
use Rattle.crit_pairs.proofs.apart_left.ApartLeft.of.Goals as goal

pub returns-then-is_ground : goal.returns-then-is_ground
returns-then-is_ground c =
    let shift : ℕ → Tree = λ v. var (65536 + v) in
    sym (ground_stays shift (tree c.args.t.now) (c.is_ground.ensures c.if-is_ground.true (tree c.args.t.now) c.requires.skeleton))
