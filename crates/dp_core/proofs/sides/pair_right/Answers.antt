use Rattle.std.proofs.Common.{sym}
use Rattle.std.proofs.lemmas.Result.{IfOk-weaker}
use Rattle.trs_core.specs.View.{tree}
use Rattle.dp_core.proofs.PairSides.{right_small, right_is}
use Rattle.dp_core.proofs.sides.pair_right.Goals as goal

pub marked_copy-requires : goal.marked_copy-requires
marked_copy-requires c =
    right_small c.args.trs.now c.rules.ensures.valid c.rules.ensures.limits.symbols c.rules.result.now c.rules.ensures.rules c.args.p.now c.p.inside.place c.p.inside.rule c.p.view_is
    c.index-rules-p.result c.index-rules-p.is (tree c.rule.inside.left) (tree c.rule.inside.right) c.rule.view_is c.requires (tree c.in-Some.part.now) (sym c.in-Some.ensures)

pub returns : goal.returns
returns c = IfOk-weaker c.marked_copy.result _ _
    (λ copy h pair at. h pair.to (right_is c.args.trs.now c.rules.ensures.valid c.rules.ensures.limits.symbols c.rules.result.now c.rules.ensures.rules c.args.p.now c.p.inside.place c.p.inside.rule c.p.view_is
    c.index-rules-p.result c.index-rules-p.is (tree c.rule.inside.left) (tree c.rule.inside.right) c.rule.view_is pair at (tree c.in-Some.part.now) (sym c.in-Some.ensures)))
    c.marked_copy.ensures
