use Rattle.trs_defs.proofs.Positions.{not_put}
use Rattle.trs_core.specs.View.{tree}
use Rattle.trs_core.proofs.terms.Term.put.Goals as goal

pub returns-clause-no_position : goal.returns-clause-no_position
returns-clause-no_position c =
    not_put c.args.p.now (tree c.args.self.now) (tree c.args.by) (tree c.put_at.new.term) c.put_at.result
    (rw c.places.ensures.places at c.put_at.ensures.put)
