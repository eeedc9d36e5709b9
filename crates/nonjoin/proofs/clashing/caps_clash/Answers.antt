use Rattle.std.proofs.Common.{true, sym, subst}
use Rattle.trs_defs.specs.Tree.{Tree}
use Rattle.trs_core.specs.View.{tree}
use Rattle.term_pool.specs.Pooled.{tree_at}
use Rattle.term_pool.proofs.PoolTrees.{stands_at}
use Rattle.trs_caps.specs.HoledCap.{IsHoledCap}
use Rattle.trs_caps.specs.View.{holed}
use Rattle.nonjoin.proofs.ClashLaws.{caps_told}
use Rattle.nonjoin.proofs.clashing.caps_clash.Goals as goal

pub returns-clause-clash : goal.returns-clause-clash
returns-clause-clash c =
    let rules = c.args.by_root.now.rules in
    let pool = c.args.pool.now in
    let First : Tree → Type 0 = λ t. IsHoledCap rules true t (holed c.in_ok-first.first) in
    let Second : Tree → Type 0 = λ t. IsHoledCap rules true t (holed c.in_ok-second.second) in
    let first : First (tree_at pool c.args.a) = subst First (sym (stands_at pool c.args.a (tree c.in_ok-left.left) c.in_ok-left.ensures)) c.in_ok-first.ensures.cap in
    let second : Second (tree_at pool c.args.b) = subst Second (sym (stands_at pool c.args.b (tree c.in_ok-right.right) c.in_ok-right.ensures)) c.in_ok-second.ensures.cap in
    caps_told rules (tree_at pool c.args.a) (tree_at pool c.args.b) c.is_disjoint.result (holed c.in_ok-first.first) (holed c.in_ok-second.second) first second c.is_disjoint.ensures
