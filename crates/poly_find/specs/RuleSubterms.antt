-- The different subterms of rules.
use Rattle.std.specs.Prelude.{◌≡◌, ℕ, List, Option, Some, slice_get}
use Rattle.trs_defs.specs.System.{RewriteRule}
use Rattle.trs_core.specs.View.{tree}
use Rattle.poly_lin.specs.declared.subterms.Subterms.{Subterms}

-- the subterms are those of the rule's sides
abbrev pub AreOf : RewriteRule → Subterms → Type 0
AreOf r subterms = (tree subterms.left.now ≡ r.left) × (tree subterms.right.now ≡ r.right)

-- those that are listed at a number are of the rule of the number
abbrev pub AreOfEach : List RewriteRule → List (Option Subterms) → Type 0
AreOfEach rules listed =
    (k : ℕ) (subterms : Subterms) (r : RewriteRule) → slice_get listed k ≡ Some (Some subterms) → slice_get rules k ≡ Some r → AreOf r subterms
