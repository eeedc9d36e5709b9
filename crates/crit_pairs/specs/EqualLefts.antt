-- Rules with equal left sides.
use Rattle.std.specs.Prelude.{◌≡◌, ℕ, List, Option, Some, None, slice_get}
use Rattle.trs_defs.specs.Tree.{Tree}
use Rattle.trs_defs.specs.System.{RewriteRule}

-- the left side of the rule, if there is one
abbrev pub left_side : Option RewriteRule → Option Tree
left_side None = None
left_side (Some rule) = Some rule.left

-- each of the first rules, as many as there are numbers, has the left side of the one with its number in the list
abbrev pub NameEqualLefts : List RewriteRule → List ℕ → Type 0
NameEqualLefts rules firsts = (k first : ℕ) → slice_get firsts k ≡ Some first → left_side (slice_get rules first) ≡ left_side (slice_get rules k)
