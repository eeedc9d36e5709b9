use Rattle.std.proofs.Common.{◌≡◌, ◌∙◌, List, sym, subst}
use Rattle.label_find.specs.declared.side_rules.SideRules.{SideRules}
use Rattle.label_find.specs.ConstraintPuzzle.{is_met}
use Rattle.label_find.proofs.ConstraintReads.{at_read}
use Rattle.label_find.proofs.space.LabelSpaceSpace.holds.Goals as goal

pub returns : goal.returns
returns c =
    subst (λ (sides : List SideRules). c.is_met.result ≡ is_met sides c.args.values.now c.index.result.now) c.deref.ensures.value c.is_met.ensures
    ∙ sym (at_read (is_met c.args.self.now.sides.items c.args.values.now) c.args.self.now.peaks.items c.args.c c.index.result.now c.requires.constraint c.index.ensures)
