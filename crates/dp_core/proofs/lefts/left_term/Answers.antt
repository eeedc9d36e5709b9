use Rattle.std.proofs.Common.{ap, sym, ◌∙◌, option_map}
use Rattle.std.proofs.lemmas.Option.{slice_get-map}
use Rattle.std.specs.Option.{option_copied}
use Rattle.trs_core.specs.View.{tree}
use Rattle.trs_core.proofs.Lookups.{copied_item}
use Rattle.dp_core.proofs.lefts.left_term.Goals as goal

pub returns-in-Some : goal.returns-in-Some
returns-in-Some c =
    let found = copied_item _ _ _ c.get.ensures.lookup in
    c.requires.kept (tree c.in-Some.term.now)
    (slice_get-map tree c.args.kept.now c.args.number ∙ ap (option_map tree) (sym found ∙ ap option_copied c.in-Some.is))
