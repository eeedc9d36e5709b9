-- The pair of one peak: its results are built, or they have no variable and are there already.
use Rattle.std.proofs.Common.{◌≡◌, ℕ, ◌+◌, List, Option, Some, IsTrue, refl, ap, sym, ◌∙◌, subst, arith}
use Rattle.trs_defs.specs.Tree.{Tree, var}
use Rattle.trs_defs.specs.Substitution.{apply}
use Rattle.trs_defs.specs.Position.{replaced_at}
use Rattle.trs_defs.specs.System.{RewriteRule}
use Rattle.trs_core.specs.SystemLimits.{HaveSmallVariables}
use Rattle.term_pool.specs.Pooled.{StandsFor}
use Rattle.term_pool.proofs.LeftSideLaws.{ground_stays}
use Rattle.crit_pairs.specs.Apart.{renamed_apart}
use Rattle.crit_pairs.specs.PeakList.{IsPeakAt}
use Rattle.crit_pairs.specs.Sides.{are_small, AreRenumbered, ArePeakTerms, KeepsLimits}
use Rattle.crit_pairs.specs.GroundSides.{AreGroundRights, HaveGroundResults}
use Rattle.crit_pairs.specs.MadePairs.{spot, UnifiesAt, IsMade, CountsTop}
use Rattle.crit_pairs.specs.declared.ground_sides.GroundSide.{GroundSide}
use Rattle.crit_pairs.specs.declared.making.MadePair.{MadePair}
use Rattle.crit_pairs.proofs.Renumbering.{keeps_too, peak_terms, ground_renumbered}
use Rattle.crit_pairs.proofs.SpotWalk.{peak_at, small_of}

module _ (rules : List RewriteRule) (j i : ℕ) (p : List ℕ) (unifier : ℕ → Tree) (u : UnifiesAt rules (spot j p i) unifier) (small : HaveSmallVariables rules) where
  peak_here : (t l r : Tree) → ArePeakTerms (renamed_apart u.inner) u.outer p u.part t l r → IsPeakAt rules (spot j p i) (record { outer = j; place = p; inner = i; top = t; left = l; right = r })
  peak_here t l r terms =
      peak_at rules j i p u.part u.inner (renamed_apart u.inner) u.outer refl u.inner_numbered u.outer_numbered u.there (small_of rules j u.outer small u.outer_numbered).0 t l r terms

  pub pair_built : (reduct t l r : Tree) → replaced_at p u.outer.left (renamed_apart u.inner).right ≡ Some reduct
      → AreRenumbered (apply unifier u.outer.left) (apply unifier reduct) (apply unifier u.outer.right) t l r → (pool : List Tree) (nodes : ℕ) (made : MadePair)
      → KeepsLimits nodes made.nodes (apply unifier u.outer.left) (apply unifier reduct) (apply unifier u.outer.right) → StandsFor pool made.pair.left l → StandsFor pool made.pair.right r
      → IsMade rules (spot j p i) pool nodes made
  pair_built reduct t l r replaced a pool nodes made limits left right =
      let terms = peak_terms (renamed_apart u.inner) u.outer p u.part reduct unifier u.most_general replaced t l r a in
      let k = keeps_too (apply unifier u.outer.left) (apply unifier reduct) (apply unifier u.outer.right) t l r a nodes made.nodes limits in
      record {
        peak = record { outer = j; place = p; inner = i; top = t; left = l; right = r };
        at = peak_here t l r terms;
        small = k.small;
        stands = (left, right);
        counted = k.counted;
        few = omega (arith, k.counted, k.few);
      }

  -- the same, as the code has it: both rules are read, and the outer one is opened
  pub pair_opened : (inner outer : RewriteRule) (first second reduct t l r : Tree) → inner ≡ u.inner → outer ≡ u.outer → record { left = first; right = second } ≡ outer
      → replaced_at p outer.left (renamed_apart inner).right ≡ Some reduct → AreRenumbered (apply unifier first) (apply unifier reduct) (apply unifier second) t l r → (pool : List Tree) (nodes : ℕ) (made : MadePair)
      → KeepsLimits nodes made.nodes (apply unifier first) (apply unifier reduct) (apply unifier second) → StandsFor pool made.pair.left l → StandsFor pool made.pair.right r → IsMade rules (spot j p i) pool nodes made
  pair_opened inner outer first second reduct t l r same_inner same opened replaced a pool nodes made limits left right =
      let left_is : first ≡ u.outer.left = ap (λ (z : RewriteRule). z.left) (opened ∙ same) in
      let right_is : second ≡ u.outer.right = ap (λ (z : RewriteRule). z.right) (opened ∙ same) in
      let O : RewriteRule → Type 0 = λ z. replaced_at p z.left (renamed_apart inner).right ≡ Some reduct in
      let I : RewriteRule → Type 0 = λ z. replaced_at p u.outer.left (renamed_apart z).right ≡ Some reduct in
      let A : Tree → Type 0 = λ z. AreRenumbered (apply unifier z) (apply unifier reduct) (apply unifier second) t l r in
      let B : Tree → Type 0 = λ z. AreRenumbered (apply unifier u.outer.left) (apply unifier reduct) (apply unifier z) t l r in
      let K : Tree → Type 0 = λ z. KeepsLimits nodes made.nodes (apply unifier z) (apply unifier reduct) (apply unifier second) in
      let M : Tree → Type 0 = λ z. KeepsLimits nodes made.nodes (apply unifier u.outer.left) (apply unifier reduct) (apply unifier z) in
      pair_built reduct t l r (subst I same_inner (subst O same replaced)) (subst B right_is (subst A left_is a)) pool nodes made (subst M right_is (subst K left_is limits)) left right

  pub pair_there : (sides : List (Option GroundSide)) (pool : List Tree) (left right : GroundSide) → AreGroundRights rules pool sides → HaveGroundResults p i j sides left right → (nodes : ℕ) (made : MadePair)
      → made.pair.left ≡ left.id → made.pair.right ≡ right.id → CountsTop (apply unifier u.outer.left) left.size right.size nodes made.nodes → IsMade rules (spot j p i) pool nodes made
  pair_there sides pool left right h found nodes made same_left same_right counts =
      let l = u.inner.right in
      let r = u.outer.right in
      let top = apply unifier u.outer.left in
      let g = h.each i left u.inner found.left_side u.inner_numbered in
      let k = h.each j right u.outer found.right_side u.outer_numbered in
      let left_stays : l ≡ apply unifier l = sym (ground_stays unifier l g.ground) in
      let right_stays : r ≡ apply unifier r = sym (ground_stays unifier r k.ground) in
      let replaced : replaced_at p u.outer.left (renamed_apart u.inner).right ≡ Some l =
      ap (λ q. replaced_at q u.outer.left (renamed_apart u.inner).right) found.root ∙ ap (λ z. Some z) (ground_stays (λ v. var (65536 + v)) l g.ground) in
      let n = ground_renumbered top l r g.ground k.ground in
      let A : Tree → Type 0 = λ z. AreRenumbered top z r n.top_term l r in
      let B : Tree → Type 0 = λ z. AreRenumbered top (apply unifier l) z n.top_term l r in
      let all_small : IsTrue (are_small top l r) = rw (counts.small, g.small, k.small) refl in
      let limits : KeepsLimits nodes made.nodes top l r =
      record { small = all_small; few = omega (arith, counts.counted, counts.few, g.size, k.size); counted = omega (arith, counts.counted, g.size, k.size) } in
      let K : Tree → Type 0 = λ z. KeepsLimits nodes made.nodes top z r in
      let M : Tree → Type 0 = λ z. KeepsLimits nodes made.nodes top (apply unifier l) z in
      let S : ℕ → Type 0 = λ id. StandsFor pool id l in
      let Q : ℕ → Type 0 = λ id. StandsFor pool id r in
      pair_built l n.top_term l r replaced (subst B right_stays (subst A left_stays n.renumbered)) pool nodes made (subst M right_stays (subst K left_stays limits)) (subst S (sym same_left) g.stands) (subst Q (sym same_right) k.stands)
