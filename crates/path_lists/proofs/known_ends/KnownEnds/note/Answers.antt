use Rattle.std.proofs.Common.{refl}
use Rattle.path_lists.proofs.KnownReducts.{one_noted}
use Rattle.path_lists.proofs.known_ends.KnownEnds.note.Goals as goal

pub returns : goal.returns
returns c = λ rules pool before is.
    one_noted rules pool c.args.self.now (record { noted = c.push.new.self; places = c.note_place.new.places; known = c.args.self.now.known }) c.args.id c.args.reducts is c.in_ok-push.ensures.items refl before
