use Rattle.std.proofs.Common.{Some}
use Rattle.std.proofs.lemmas.List.Elements.{All-set}
use Rattle.lpo_find.specs.KeptSides.{IsTrueOf}
use Rattle.lpo_find.proofs.kept.KeptSides.put.Goals as goal

pub returns-then-place-len : goal.returns-then-place-len
returns-then-place-len c = λ arities symbols falling true are.
    All-set (IsTrueOf arities symbols falling) c.args.self.now.places.items c.place_of-place.result (Some c.args.sides) are true
