use Rattle.std.proofs.Common.{ap, sym, ◌∙◌}
use Rattle.trs_defs.specs.Variable.{is_listed}
use Rattle.label_find.proofs.SideReads.{used_read}
use Rattle.label_find.proofs.constraint.PeakConstraint.uses.Goals as goal

pub returns : goal.returns
returns c =
    c.uses_with.ensures ∙ sym (ap (is_listed c.args.rule) (used_read c.args.sides.now c.args.self.now c.side_at-lefts.result.now c.side_at-rights.result.now c.side_at-lefts.ensures c.side_at-rights.ensures))
