use Rattle.std.proofs.Common.{ap, ◌∙◌, arith}
use Rattle.label_find.specs.Lists.{end_of}
use Rattle.label_find.specs.LabelLawful.{uses_inner, uses_outer}
use Rattle.label_find.proofs.SideReads.{few_left, few_right, end_read}
use Rattle.label_find.proofs.constraint.PeakConstraint.end.Goals as goal

pub overflow_add-inner : goal.overflow_add-inner
overflow_add-inner c = let few = c.requires.few c.args.self.now.inner (uses_inner c.args.sides.now c.args.self.now) in omega (arith, few)

pub overflow_add-outer : goal.overflow_add-outer
overflow_add-outer c = let few = c.requires.few c.args.self.now.outer (uses_outer c.args.sides.now c.args.self.now) in omega (arith, few)

pub end_of-left-requires : goal.end_of-left-requires
end_of-left-requires c =
    rw c.deref.ensures.value (few_left c.args.sides.now c.args.self.now c.side_at-lefts.result.now c.side_at-rights.result.now c.side_at-lefts.ensures c.side_at-rights.ensures c.requires.few)

pub end_of-right-requires : goal.end_of-right-requires
end_of-right-requires c =
    rw c.deref-2.ensures.value (few_right c.args.sides.now c.args.self.now c.side_at-lefts.result.now c.side_at-rights.result.now c.side_at-lefts.ensures c.side_at-rights.ensures c.requires.few)

pub returns : goal.returns
returns c =
    end_read c.args.sides.now c.args.self.now c.side_at-lefts.result.now c.side_at-rights.result.now c.side_at-lefts.ensures c.side_at-rights.ensures c.end_of-left.result c.end_of-right.result
    c.max-both.result c.max-with_inner.result c.max.result (c.end_of-left.ensures ∙ ap end_of c.deref.ensures.value) (c.end_of-right.ensures ∙ ap end_of c.deref-2.ensures.value)
    c.max-both.ensures c.max-with_inner.ensures c.max.ensures
