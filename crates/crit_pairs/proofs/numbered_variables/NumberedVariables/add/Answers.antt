use Rattle.crit_pairs.proofs.VariableIds.{variable_ids_on}
use Rattle.crit_pairs.proofs.numbered_variables.NumberedVariables.add.Goals as goal

pub returns-clause-ids : goal.returns-clause-ids
returns-clause-ids c =
    let now = c.variable.new.self in
    let still = variable_ids_on c.args.pool.now now c.args.self.now c.in_ok-id.ensures.kept c.requires in
    c.in_ok-note.ensures now still c.in_ok-id.ensures.id
