use Rattle.std.proofs.Common.{◌∙◌, ap}
use Rattle.trs_core.specs.View.{tree}
use Rattle.std.specs.FinMap as map
use Rattle.trs_core.proofs.Lookups.{from_entries_updated}
use Rattle.trs_core.proofs.bindings.Subst.insert.Goals as goal

pub returns-clause-ok : goal.returns-clause-ok
returns-clause-ok c = from_entries_updated _ _ c.args.v c.args.term c.in_ok-insert.ensures.updates.0 ∙ ap (λ m. map.insert m c.args.v (tree c.args.term)) c.self.view_is
