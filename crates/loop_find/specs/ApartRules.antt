-- Copies of rules, each with its variables renamed apart from those of all rules.
use Rattle.std.specs.Prelude.{◌≡◌, ℕ, List, Option, Some, length, slice_get}
use Rattle.trs_defs.specs.System.{RewriteRule}
use Rattle.crit_pairs.specs.Apart.{renamed_apart}

-- as many as rules, and each that is there is the rule of its number, renamed apart
pub record AreCopies (rules : List RewriteRule) (copies : List (Option RewriteRule)) : Type 0 where
  pub count : length copies ≡ length rules
  pub each : (k : ℕ) (rule copy : RewriteRule) → slice_get rules k ≡ Some rule → slice_get copies k ≡ Some (Some copy) → copy ≡ renamed_apart rule
