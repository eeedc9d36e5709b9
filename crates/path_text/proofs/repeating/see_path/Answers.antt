use Rattle.std.proofs.Common.{◌<◌, length, sym, ◌∙◌}
use Rattle.std.proofs.lemmas.Bool.{eqb-true}
use Rattle.path_text.proofs.Weighing.{not_zero}
use Rattle.path_text.proofs.SeenPaths.{stays_empty, distinct_one, again_one, again_empty}
use Rattle.path_text.proofs.repeating.see_path.Goals as goal

pub returns-then-is_empty-clause-known : goal.returns-then-is_empty-clause-known
returns-then-is_empty-clause-known c =
    sym (stays_empty c.args.known.now c.args.path.now (eqb-true (length c.args.path.now) 0 (sym c.is_empty.ensures ∙ c.if-is_empty.true)))

pub returns-then-is_empty-clause-again : goal.returns-then-is_empty-clause-again
returns-then-is_empty-clause-again c =
    sym (again_empty c.args.known.now c.args.again.now c.args.path.now (eqb-true (length c.args.path.now) 0 (sym c.is_empty.ensures ∙ c.if-is_empty.true)))

pub returns-clause-known : goal.returns-clause-known
returns-clause-known c =
    let lt : 0 < length c.args.path.now = not_zero (length c.args.path.now) (sym c.is_empty.ensures ∙ c.if-is_empty.false) in
    c.in_ok-see_full_path.ensures.known ∙ sym (distinct_one c.args.known.now c.args.path.now lt)

pub returns-clause-again : goal.returns-clause-again
returns-clause-again c =
    let lt : 0 < length c.args.path.now = not_zero (length c.args.path.now) (sym c.is_empty.ensures ∙ c.if-is_empty.false) in
    c.in_ok-see_full_path.ensures.again ∙ sym (again_one c.args.known.now c.args.again.now c.args.path.now lt)
