use Rattle.path_text.proofs.DefinedWords.{not_among_view, one_more_view}
use Rattle.path_text.proofs.sharing.Definitions.add.Goals as goal

pub add-requires : goal.add-requires
add-requires c =
    not_among_view c.self.inside.words c.self.inside.paths.items c.args.self.now c.args.word.items c.self.view_is c.self.invariant c.requires

pub returns-in-Ok : goal.returns-in-Ok
returns-in-Ok c =
    one_more_view c.self.inside.words c.self.inside.paths.items c.args.self.now c.add.new.self c.push.new.self.items c.args.word.items c.args.path
    c.self.view_is c.self.invariant c.in-Ok.ensures.ok c.in_ok-push.ensures.items
