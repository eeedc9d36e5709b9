use Rattle.std.proofs.Common.{sym, ◌∙◌}
use Rattle.path_text.proofs.DefinedWords.{chosen_none, chosen_some}
use Rattle.path_text.proofs.sharing.Definitions.find.Goals as goal

pub returns-in_default-clause-none : goal.returns-in_default-clause-none
returns-in_default-clause-none c = λ at.
    chosen_none c.self.inside.words c.self.inside.paths.items c.args.self.now at c.args.word.now c.self.view_is c.self.invariant
    (sym c.find.ensures.number ∙ c.in_default.is)

pub returns-clause-found : goal.returns-clause-found
returns-clause-found c = λ at.
    chosen_some c.self.inside.words c.self.inside.paths.items c.args.self.now at c.args.word.now c.self.view_is c.self.invariant
    c.in-Some.number c.index.result.now (sym c.find.ensures.number ∙ c.in-Some.is) c.in-Some.ensures.within c.index.ensures
