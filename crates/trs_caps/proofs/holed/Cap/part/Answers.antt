use Rattle.std.proofs.Common.{◌≡◌, ◌<◌, ◌≤◌, ap, sym, ◌∙◌, length, arith}
use Rattle.trs_caps.specs.HoledTree.{symbol, holed_trees}
use Rattle.trs_caps.specs.Columns.{child}
use Rattle.trs_caps.specs.View.{holed, holed_all}
use Rattle.trs_caps.proofs.Rows.{argument_there, argument_past}
use Rattle.trs_caps.proofs.holed.Cap.part.Goals.{After-get}
use Rattle.trs_caps.proofs.holed.Cap.part.Goals as goal

root : (c : After-get) → holed c.args.self.now ≡ symbol c.in-Symbol.field-0 (holed_all c.deref.result.now)
root c = ap holed c.in-Symbol.is ∙ (ap (λ z. symbol c.in-Symbol.field-0 (holed_trees z)) (sym c.parts.view_is) ∙ ap (λ z. symbol c.in-Symbol.field-0 (holed_all z)) (sym c.deref.ensures.value))

pub returns-in-None-clause-none : goal.returns-in-None-clause-none
returns-in-None-clause-none c =
    let past : length c.deref.result.now ≤ c.args.i = grind (arith, c.in-None.ensures.lookup.0) in
    ap (child c.args.i) (root (goal.at.returns-in-None-clause-none c).After-get) ∙ argument_past c.deref.result.now c.args.i past

pub returns-in-Some : goal.returns-in-Some
returns-in-Some c =
    let inside : c.args.i < length c.deref.result.now = grind (arith, c.in-Some.ensures.lookup.0) in
    record { none = tt; some = sym (ap (child c.args.i) (root (goal.at.returns-in-Some c).After-get) ∙ argument_there c.deref.result.now c.args.i c.in-Some.part.now inside c.in-Some.ensures.lookup.1) }

pub returns-in-Some-Open-clause-none : goal.returns-in-Some-Open-clause-none
returns-in-Some-Open-clause-none c =
    let inside : c.args.i < length c.deref.result.now = grind (arith, c.in-Some-Open.ensures.lookup.0) in
    ap (child c.args.i) (root (goal.at.returns-in-Some-Open-clause-none c).After-get) ∙ (argument_there c.deref.result.now c.args.i c.in-Some-Open.field-0.now inside c.in-Some-Open.ensures.lookup.1 ∙ ap holed c.in-Some-Open.field-0-is)
