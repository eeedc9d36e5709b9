use Rattle.std.proofs.Common.{◌≡◌, ◌≤◌, refl, arith}
use Rattle.trs_core.specs.View.{tree}
use Rattle.trs_defs.specs.Size.{size_of, depth_of}
use Rattle.trs_defs.specs.Tree.{Tree}
use Rattle.trs_defs.proofs.ArgumentLists.{depth_le_size}
use Rattle.trs_defs.proofs.Limits.{limits_kept}
use Rattle.term_pool.specs.LeftSides.{IsGround}
use Rattle.crit_pairs.proofs.SideSizeLaws.{ground_exact}
use Rattle.crit_pairs.proofs.whole_sides.whole_side.Goals.{else-size-gt-GREATEST_DEPTH-via-then-size-gt-GREATEST_DEPTH+else-depth-gt-GREATEST_DEPTH, else-size-gt-GREATEST_DEPTH-via-else-size-gt-GREATEST_DEPTH}
use Rattle.crit_pairs.proofs.whole_sides.whole_side.Goals as goal

pub returns : goal.returns
returns c =
    let t : Tree = tree c.args.t.now in
    let ground : IsGround t = c.is_ground.ensures t c.requires c.if-not-is_ground.false in
    let exact : c.args.size.now.symbols ≡ size_of t = ground_exact t c.args.size.now c.requires ground c.if-size-gt-MOST_NODES.false in
    let few : size_of t ≤ 65536 = omega (arith, exact, c.if-size-gt-MOST_NODES.false) in
    let shallow : depth_of t ≤ 1024 =
    elim c.else-size-gt-GREATEST_DEPTH.branch [
      | else-size-gt-GREATEST_DEPTH-via-then-size-gt-GREATEST_DEPTH+else-depth-gt-GREATEST_DEPTH w ↦ omega (arith, w.depth.ensures, w.if-depth-gt-GREATEST_DEPTH.false)
      | else-size-gt-GREATEST_DEPTH-via-else-size-gt-GREATEST_DEPTH w ↦ let le = depth_le_size t in omega (arith, exact, le, w.if-size-gt-GREATEST_DEPTH.false)
    ] in
    record { is = refl; ground = ground; small = limits_kept t few shallow; size = exact }
