-- Rules that equal each other.
use Rattle.std.specs.Prelude.{◌≡◌, ℕ, List, Some, slice_get}
use Rattle.trs_defs.specs.System.{RewriteRule}

-- each of the first rules, as many as there are numbers, equals the one with its number in the list
abbrev pub NameEqual : List RewriteRule → List ℕ → Type 0
NameEqual rules firsts = (k first : ℕ) → slice_get firsts k ≡ Some first → slice_get rules first ≡ slice_get rules k
