-- Right sides with no variable, which are lent to the peaks that have them whole.
use Rattle.std.specs.Prelude.{◌≡◌, ◌<◌, ℕ, ◌+◌, List, [], Option, Some, IsTrue, false, length, slice_get}
use Rattle.trs_defs.specs.Tree.{Tree}
use Rattle.trs_defs.specs.Size.{size_of, within_limits}
use Rattle.trs_defs.specs.Position.{replaced_at}
use Rattle.trs_defs.specs.System.{RewriteRule}
use Rattle.trs_core.specs.View.{tree}
use Rattle.term_pool.specs.LeftSides.{IsGround}
use Rattle.crit_pairs.specs.Apart.{renamed_apart}
use Rattle.crit_pairs.specs.declared.faults.PeakFault.{PeakFault}
use Rattle.crit_pairs.specs.declared.faults.PeakFault.TheVariants as peak
use Rattle.crit_pairs.specs.declared.whole_sides.WholeSide.{WholeSide}
use Rattle.crit_pairs.specs.declared.results.Results.{Results}
use Rattle.crit_pairs.specs.declared.results.Results.TheVariants as made

-- the side is this term, which has no variable and keeps the limits, with its number of nodes
pub record IsWholeSide (t : Tree) (side : WholeSide) : Type 0 where
  pub is : tree side.term.now ≡ t
  pub ground : IsGround t
  pub small : IsTrue (within_limits t)
  pub size : side.size ≡ size_of t

-- for each rule its right side as such a side, or none
pub record AreWholeSides (rules : List RewriteRule) (sides : List (Option WholeSide)) : Type 0 where
  pub count : length sides ≡ length rules
  pub each : (k : ℕ) (side : WholeSide) (r : RewriteRule) → slice_get sides k ≡ Some (Some side) → slice_get rules k ≡ Some r
      → IsWholeSide r.right side

-- the side is the right side of this rule
abbrev pub IsRightOf : List RewriteRule → ℕ → WholeSide → Type 0
IsRightOf rules k side = (r : RewriteRule) → slice_get rules k ≡ Some r → IsWholeSide r.right side

-- at the root, and these are the right sides of both rules
pub record HaveWholeResults (rules : List RewriteRule) (place : List ℕ) (inner outer : ℕ) (left right : WholeSide) : Type 0 where
  pub root : place ≡ []
  pub left_side : IsRightOf rules inner left
  pub right_side : IsRightOf rules outer right

-- the reduct of the outer left side, of which the left result is an instance
abbrev pub reduct_of : Results → Tree
reduct_of (made.Contracted reduct) = tree reduct
reduct_of (made.Whole left right) = tree left.now.term.now

-- where the results are whole, the second is this right side
abbrev pub AreWhole : Tree → Results → Type 0
AreWhole outer_right (made.Contracted reduct) = Unit {0}
AreWhole outer_right (made.Whole left right) = IsWholeSide (tree left.now.term.now) left.now × IsWholeSide outer_right right.now

-- the results of the inner rule, renamed apart, at the place of the outer left side, and of the outer rule
pub record AreResults (outer inner : RewriteRule) (place : List ℕ) (results : Results) : Type 0 where
  pub replaced : replaced_at place outer.left (renamed_apart inner).right ≡ Some (reduct_of results)
  pub whole : AreWhole outer.right results

-- the limit that the fault names is passed, where the results keep the limits on computed terms and have so many nodes
abbrev pub TopPasses : PeakFault → ℕ → Tree → ℕ → ℕ → Type 0
TopPasses peak.TooLarge total top left right = within_limits top ≡ false
TopPasses peak.TooMany total top left right = IsTrue (within_limits top) × (4194304 < total + (size_of top + left + right))
TopPasses peak.OutOfMemory total top left right = Unit {0}
