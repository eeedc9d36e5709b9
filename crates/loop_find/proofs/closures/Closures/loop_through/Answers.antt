use Rattle.std.proofs.Common.{ap, ◌∙◌}
use Rattle.trs_core.specs.View.{tree}
use Rattle.loop_find.proofs.Recurrences.{leads_true, leads_false}
use Rattle.loop_find.proofs.LoopsFound.{not_returning, not_running, loop_found}
use Rattle.loop_find.proofs.closures.Closures.loop_through.Goals as goal

pub returns-then-not-branch : goal.returns-then-not-branch
returns-then-not-branch c = λ cl e.
    let sides = c.requires.sides cl e in
    not_returning c.args.trs.now.rules cl (tree c.args.sides.left) (tree c.args.sides.right) sides.0 sides.1 (leads_false _ _ _ _ _ c.if-not-branch.true c.in_ok-first_instance.ensures.leads).none

pub returns-then-not-branch-2 : goal.returns-then-not-branch-2
returns-then-not-branch-2 c = λ cl e.
    let sides = c.requires.sides cl e in
    not_running c.args.trs.now.rules cl (tree c.args.sides.left) (tree c.args.sides.right) sides.0 sides.1 c.in_ok-path.path.items (c.in_ok-path.ensures cl e)
    (λ f. let yes = (rw c.deref.ensures.value at c.in_ok-leads.ensures).1 f in absurd (cc (yes, c.if-not-branch-2.true)))

pub returns : goal.returns
returns c = λ cl e.
    let sides = c.requires.sides cl e in
    let runs = (rw c.deref.ensures.value at c.in_ok-leads.ensures).0 c.if-not-branch-2.false in
    loop_found c.args.trs.now.rules cl (tree c.args.sides.left) (tree c.args.sides.right) sides.0 sides.1 c.in_ok-path.path.items (c.in_ok-path.ensures cl e)
    (tree c.in_ok-start.start) c.in_ok-at.at c.new-place.result.items c.first_instance.new.place.items (ap tree c.in_ok-start.ensures) (c.in_ok-at.ensures ∙ c.deref-2.ensures.value) c.new-place.ensures.items
    (leads_true _ _ _ _ _ c.if-not-branch.false c.in_ok-first_instance.ensures.leads) runs
