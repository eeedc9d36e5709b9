use Rattle.std.proofs.Common.{◌∙◌, ap, sym}
use Rattle.std.specs.Option.{option_map}
use Rattle.trs_core.specs.View.{tree}
use Rattle.std.specs.FinMap as map
use Rattle.trs_core.proofs.Lookups.{get_lookup}
use Rattle.trs_core.proofs.bindings.Subst.get.Goals as goal

pub returns : goal.returns
returns c = ap (option_map tree) c.get.ensures.value ∙ sym (get_lookup c.args.v _) ∙ ap (λ m. map.get m c.args.v) c.self.view_is
