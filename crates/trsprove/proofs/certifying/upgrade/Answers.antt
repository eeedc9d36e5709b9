use Rattle.std.proofs.Common.{sym, ◌∙◌}
use Rattle.trsprove.specs.Verdicts.{too_heavy}
use Rattle.trsprove.proofs.certifying.upgrade.Goals as goal

pub returns-in-Ok-false : goal.returns-in-Ok-false
returns-in-Ok-false c = too_heavy (sym c.in-Ok-false.ensures ∙ c.in-Ok-false.field-0-test)
