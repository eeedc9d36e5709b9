use Rattle.std.proofs.Common.{◌≡◌, ◌<◌, ◌+◌, ◌^◌, ◌∙◌, ℕ, List, IsTrue, sym, subst, arith}
use Rattle.label_find.specs.declared.side_rules.SideRules.{SideRules}
use Rattle.label_find.specs.ConstraintPuzzle.{KeepsRules, HasSidesIn, label_puzzle, uses_rule, used_in}
use Rattle.label_find.specs.Lists.{end_of}
use Rattle.label_find.proofs.ConstraintReads.{at_read}
use Rattle.label_find.proofs.ListEnds.{reach_of_listed}
use Rattle.label_find.proofs.space.LabelSpaceSpace.reach.Goals.{After-index}
use Rattle.label_find.proofs.space.LabelSpaceSpace.reach.Goals as goal

keeps : (c : After-index) → KeepsRules c.args.self.now.rules c.args.self.now.sides.items c.index.result.now
keeps c = subst (KeepsRules c.args.self.now.rules c.args.self.now.sides.items) (sym c.index.ensures) (c.args.self.now.keep c.args.c c.index.result.now c.requires)

pub end-requires-clause-sides : goal.end-requires-clause-sides
end-requires-clause-sides c =
    subst (λ (sides : List SideRules). HasSidesIn sides c.index.result.now) (sym c.deref.ensures.value) (keeps (goal.at.end-requires-clause-sides c).After-index).there

pub end-requires-clause-few : goal.end-requires-clause-few
end-requires-clause-few c =
    let P : List SideRules → Type 0 = λ sides. (k : ℕ) → IsTrue (uses_rule sides k c.index.result.now) → k + 1 < 2 ^ 32 in
    let below = (keeps (goal.at.end-requires-clause-few c).After-index).below in
    let few = c.args.self.now.few_rules in
    subst P (sym c.deref.ensures.value) (λ k used. (let less = below k used in omega (arith, less, few)))

pub returns : goal.returns
returns c =
    let d = c.index.result.now in
    subst (λ (sides : List SideRules). c.end.result ≡ end_of (used_in sides d)) c.deref.ensures.value c.end.ensures
    ∙ reach_of_listed (label_puzzle c.args.self.now.rules c.args.self.now.sides.items c.args.self.now.peaks.items) c.args.c (used_in c.args.self.now.sides.items d)
    (λ s. at_read (uses_rule c.args.self.now.sides.items s) c.args.self.now.peaks.items c.args.c d c.requires c.index.ensures)
    (keeps (goal.at.returns c).After-index).below
