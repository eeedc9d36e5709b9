use Rattle.std.proofs.Common.{is_some, sym, ap, ◌∙◌}
use Rattle.path_text.proofs.DefinedWords.{defined_is}
use Rattle.path_text.proofs.sharing.Definitions.is_defined.Goals as goal

pub returns : goal.returns
returns c =
    c.is_some.ensures ∙ ap is_some c.find.ensures.number
    ∙ sym (defined_is c.self.inside.words c.self.inside.paths.items c.args.self.now c.args.word.now c.self.view_is c.self.invariant)
