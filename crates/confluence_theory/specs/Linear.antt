-- Left-linear and right-linear lists of rules. (Baader and Nipkow, section 6.3.)
use Rattle.std.specs.Prelude.{◌≡◌, ℕ, List, Some, slice_get}
use Rattle.trs_defs.specs.Variable.{IsLinear}
use Rattle.trs_defs.specs.System.{RewriteRule}

abbrev pub AreLeftLinear : List RewriteRule → Type 0
AreLeftLinear rules = (k : ℕ) (r : RewriteRule) → slice_get rules k ≡ Some r → IsLinear r.left

abbrev pub AreRightLinear : List RewriteRule → Type 0
AreRightLinear rules = (k : ℕ) (r : RewriteRule) → slice_get rules k ≡ Some r → IsLinear r.right
