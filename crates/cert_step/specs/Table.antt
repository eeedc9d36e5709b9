-- A table that a step looks into.
use Rattle.cert_step.specs.declared.table.Table.{Table}
use Rattle.cert_step.specs.declared.table.Table.TheVariants as table

-- the table, whoever made it
abbrev pub contents : {T : Type 0} → Table T → T
contents (table.Made made) = made
contents (table.Lent lent) = lent.now
