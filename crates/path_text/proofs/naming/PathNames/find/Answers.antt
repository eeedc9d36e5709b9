use Rattle.std.proofs.Common.{◌∙◌}
use Rattle.path_text.proofs.PathNumbers.{number_found}
use Rattle.path_text.proofs.naming.PathNames.find.Goals as goal

pub returns-clause-number : goal.returns-clause-number
returns-clause-number c = λ path range text.
    c.find.ensures.number ∙ number_found c.self.inside.texts _ c.args.self.now c.args.text.now path c.self.invariant c.self.view_is range text
