use Rattle.term_text.proofs.NumberKeys.{keys_inserted}
use Rattle.term_text.proofs.renumbering.Numbers.insert.Goals as goal

pub returns : goal.returns
returns c = rw (← c.self.view_is) (keys_inserted c.args.variable c.self.inside.variables.keys c.insert.new.self.keys c.in_ok-insert.ensures.keys)
