use Rattle.std.proofs.Common.{length, refl}
use Rattle.std.proofs.lemmas.Option.{slice_get_read}
use Rattle.label_find.proofs.side_rules.side_at.Goals as goal

pub returns : goal.returns
returns c = slice_get_read c.args.sides.now (length c.args.sides.now) c.args.number c.index-sides-number.result refl c.requires c.index-sides-number.is
