-- Pairs that share a left side, and the left sides with marked roots that are kept.
use Rattle.std.specs.Prelude.{◌≡◌, ℕ, List, Some, map, length, slice_get}
use Rattle.trs_defs.specs.Tree.{Tree}
use Rattle.trs_defs.specs.System.{RewriteRule}
use Rattle.trs_core.specs.View.{tree}
use Rattle.trs_core.specs.declared.terms.Term.{Term}
use Rattle.pair_theory.specs.Marked.{Marked, plain, mark}
use Rattle.pair_theory.specs.DependencyPair.{DependencyPair}
use Rattle.dp_core.specs.declared.lefts.Lefts.{Lefts}
use Rattle.dp_core.specs.declared.lefts.LeftTerm.{LeftTerm}
use Rattle.dp_core.specs.declared.lefts.LeftTerm.TheVariants as term

-- each pair has a number, and pairs of one number have one left side
pub record NumberLefts (numbers : List ℕ) (pairs : List DependencyPair) : Type 0 where
  pub as_many : length numbers ≡ length pairs
  pub shared : (i j n : ℕ) (p q : DependencyPair) → slice_get numbers i ≡ Some n → slice_get numbers j ≡ Some n
      → slice_get pairs i ≡ Some p → slice_get pairs j ≡ Some q → mark p.from ≡ mark q.from

-- if a term is kept under the number it is this one
abbrev pub IsKeptAs : List Tree → ℕ → Tree → Type 0
IsKeptAs kept n term = (t : Tree) → slice_get kept n ≡ Some t → t ≡ term

-- terms that are kept under the numbers of rules are their left sides, with marked roots
abbrev pub AreMarkedLefts : List Tree → List RewriteRule → Type 0
AreMarkedLefts kept rules = (n : ℕ) (rule : RewriteRule) (left : Marked) → slice_get rules n ≡ Some rule → rule.left ≡ plain left → IsKeptAs kept n (mark left)

-- terms that are kept under the numbers of pairs are the left sides of these
abbrev pub AreKeptLefts : List Tree → List ℕ → List DependencyPair → Type 0
AreKeptLefts kept numbers pairs = (i n : ℕ) (p : DependencyPair) → slice_get numbers i ≡ Some n → slice_get pairs i ≡ Some p → IsKeptAs kept n (mark p.from)

pub record AreLeftsOf (lefts : Lefts) (pairs : List DependencyPair) : Type 0 where
  pub numbered : NumberLefts lefts.numbers.items pairs
  pub kept : AreKeptLefts (map tree lefts.kept.items) lefts.numbers.items pairs

-- the term, whoever keeps it
abbrev pub term_of : LeftTerm → Term
term_of (term.Made made) = made
term_of (term.Kept kept) = kept.now
