use Rattle.std.proofs.Common.{◌≡◌, ◌∙◌, List, sym, subst}
use Rattle.label_find.specs.declared.side_rules.SideRules.{SideRules}
use Rattle.label_find.specs.ConstraintPuzzle.{uses_rule}
use Rattle.label_find.proofs.ConstraintReads.{at_read}
use Rattle.label_find.proofs.space.LabelSpaceSpace.uses.Goals as goal

pub returns : goal.returns
returns c =
    subst (λ (sides : List SideRules). c.uses.result ≡ uses_rule sides c.args.slot c.index.result.now) c.deref.ensures.value c.uses.ensures
    ∙ sym (at_read (uses_rule c.args.self.now.sides.items c.args.slot) c.args.self.now.peaks.items c.args.c c.index.result.now c.requires.constraint c.index.ensures)
