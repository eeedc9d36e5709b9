-- Computed terms, within the limits.
use Rattle.std.specs.Prelude.{◌≡◌, ◌≢◌, ℕ, List, Option, Some, None, Result, Ok, Err, if◌then◌else◌}
use Rattle.std.specs.Ordering.{nat_cmp}
use Rattle.std.specs.FinMap.{FinMap}
use Rattle.trs_defs.specs.Tree.{Tree}
use Rattle.trs_defs.specs.Size.{within_limits}
use Rattle.trs_defs.specs.Position.{replaced_at}
use Rattle.trs_defs.specs.Substitution.{apply, bound}
use Rattle.trs_core.specs.declared.terms.Term.{Term}
use Rattle.trs_core.specs.View.{tree}
use Rattle.trs_core.specs.declared.replacing.ReplaceFault.{ReplaceFault}
use Rattle.trs_core.specs.declared.replacing.ReplaceFault.TheVariants as replace
use Rattle.trs_core.specs.declared.applying.ApplySize.{ApplySize}
use Rattle.trs_core.specs.declared.applying.ApplySize.TheVariants as size

abbrev pub if_small : Option Tree → Result Tree ReplaceFault
if_small None = Err replace.NoPosition
if_small (Some t) = if within_limits t then Ok t else Err replace.TooLarge

-- the answer of a replacement
abbrev pub replacement : List ℕ → Tree → Tree → Result Tree ReplaceFault
replacement p t by = if_small (replaced_at p t by)

-- the answer of an instance
abbrev pub instance : FinMap nat_cmp Tree → Tree → Result Tree ApplySize
instance m t = let u = apply (bound m) t in if within_limits u then Ok u else Err size.TooLarge

-- The result's tree is this answer, unless it is want of memory.
abbrev pub Gives : {E : Type 0} → E → Result Term E → Result Tree E → Type 0
Gives memory (Ok t) answer = answer ≡ Ok (tree t)
Gives memory (Err e) answer = e ≢ memory → answer ≡ Err e
