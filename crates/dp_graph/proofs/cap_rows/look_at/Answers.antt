use Rattle.std.proofs.Common.{ap}
use Rattle.trs_defs.specs.System.{RewriteRule}
use Rattle.trs_caps.specs.View.{holed}
use Rattle.dp_graph.proofs.NodeLists.{item_found, item_missing}
use Rattle.dp_graph.proofs.CapRowLaws.{nothing_looked, not_met, no_rule_met, one_looked}
use Rattle.dp_graph.proofs.cap_rows.look_at.Goals as goal

pub returns-in_default : goal.returns-in_default
returns-in_default c = nothing_looked c.args.rules.now c.args.lefts.now (holed c.args.cap.now) c.args.k c.args.row.now.items
    (λ noted. no_rule_met c.args.rules.now (holed c.args.cap.now) c.args.k (item_missing c.args.rules.now c.args.k c.get.result c.get.ensures.lookup c.in_default.is))

pub returns-then-not-is_noted : goal.returns-then-not-is_noted
returns-then-not-is_noted c =
    nothing_looked c.args.rules.now c.args.lefts.now (holed c.args.cap.now) c.args.k c.args.row.now.items (λ noted meets. let e = c.is_noted.ensures.1 noted in let d = c.if-not-is_noted.true in absurd cc)

pub returns-in_ok-set : goal.returns-in_ok-set
returns-in_ok-set c =
    let there = item_found c.args.rules.now c.args.k c.get.result c.in-Some.rule c.get.ensures.lookup c.in-Some.is in
    let meets = rw (ap (λ (r : RewriteRule). r.left) c.rule.view_is) at (c.in_ok-meets.ensures.0 c.if-branch.true) in
    one_looked c.args.rules.now c.args.lefts.now (holed c.args.cap.now) c.args.k c.args.row.now.items c.set.new.row.items (c.in-Some.rule.now, there, meets) c.in_ok-set.ensures

pub returns-else-branch : goal.returns-else-branch
returns-else-branch c =
    let there = item_found c.args.rules.now c.args.k c.get.result c.in-Some.rule c.get.ensures.lookup c.in-Some.is in
    let met = rw (ap (λ (r : RewriteRule). r.left) c.rule.view_is) at c.in_ok-meets.ensures in
    nothing_looked c.args.rules.now c.args.lefts.now (holed c.args.cap.now) c.args.k c.args.row.now.items
    (λ noted. not_met c.args.rules.now (holed c.args.cap.now) c.args.k c.in-Some.rule.now there (λ meets. let e = met.1 meets in let d = c.if-branch.false in absurd cc))
