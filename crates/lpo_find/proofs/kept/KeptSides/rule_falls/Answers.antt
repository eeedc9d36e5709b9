use Rattle.std.specs.Prelude.{IfSome}
use Rattle.std.proofs.Common.{subst}
use Rattle.path_lpo.specs.Table.{filter_in}
use Rattle.lpo_find.specs.LpoRow.{entries_of}
use Rattle.lpo_find.specs.KeptSides.{AreSides}
use Rattle.lpo_find.proofs.KeptSides.{of_the_rule}
use Rattle.lpo_find.proofs.kept.KeptSides.rule_falls.Goals as goal

pub shared_falls_weakly-requires : goal.shared_falls_weakly-requires
shared_falls_weakly-requires c =
    let x = c.args.space.now in
    c.in-Some.ensures x.arities.now _ c.requires.known c.args.rule.now c.requires.rule

pub returns-in-Some-shared-clause-known : goal.returns-in-Some-shared-clause-known
returns-in-Some-shared-clause-known c =
    let x = c.args.space.now in
    let filter = filter_in (entries_of x.arities.now x.symbols.now c.args.values.now) in
    let are = subst (λ o. IfSome o (AreSides filter c.args.rule.now)) c.in-Some-shared.is c.falls_weakly_sharing-falls.ensures.shared in
    c.keep.ensures x.arities.now x.symbols.now _ c.requires.known (of_the_rule _ c.args.number filter c.args.rule.now c.in-Some-shared.shared c.requires.rule are)
