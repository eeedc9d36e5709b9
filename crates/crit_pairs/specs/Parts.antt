-- The parts of a term whose root some rule has: rules overlap it at no others.
use Rattle.std.specs.Prelude.{◌≡◌, ◌==◌, ℕ, Bool, false, not, List, Option, None, Some, IsTrue, length}
use Rattle.std.specs.List.{filter}
use Rattle.trs_defs.specs.Tree.{Tree, var, app}
use Rattle.trs_defs.specs.Position.{subterm_at}
use Rattle.trs_defs.specs.System.{RewriteRule, has_root}
use Rattle.trs_core.specs.View.{tree}
use Rattle.term_pool.specs.Roots.{with_root}
use Rattle.crit_pairs.specs.PeakList.{symbol_places}
use Rattle.crit_pairs.specs.Skeletons.{opened}
use Rattle.crit_pairs.specs.SkeletonView.{skeleton_view}
use Rattle.crit_pairs.specs.declared.parts.Part.{Part}

-- it stands at its place in the term, with its root and its skeleton
pub record IsPartIn (t : Tree) (p : Part) : Type 0 where
  pub there : subterm_at p.place t ≡ Some (tree p.term.now)
  pub root : IsTrue (has_root p.root (tree p.term.now))
  pub skeleton : skeleton_view p.skeleton.now ≡ opened (tree p.term.now)

abbrev pub place_of_part : Part → List ℕ
place_of_part p = p.place

-- whether some rule has the root of the subterm
abbrev pub has_rule : List RewriteRule → Option Tree → Bool
has_rule rules None = false
has_rule rules (Some (var v)) = false
has_rule rules (Some (app f ts)) = not (length (with_root f rules) == 0)

-- whether some rule has the root of the subterm at the position
abbrev pub has_rule_at : List RewriteRule → Tree → List ℕ → Bool
has_rule_at rules t p = has_rule rules (subterm_at p t)

-- the positions of the term where some rule has the root of the subterm, in preorder
abbrev pub rooted_places : List RewriteRule → Tree → List (List ℕ)
rooted_places rules t = filter (has_rule_at rules t) (symbol_places t)
