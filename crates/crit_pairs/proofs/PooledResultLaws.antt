-- Results of critical peaks in a pool: their variables are named, they are renumbered, and they are counted.
use Rattle.std.proofs.Common.{◌≡◌, ◌<◌, ℕ, ◌+◌, List, [], Some, refl, ap, sym, ◌∙◌, subst, slice_get, length, arith}
use Rattle.std.proofs.lemmas.Option.{same_Some}
use Rattle.trs_defs.specs.Tree.{Tree, var}
use Rattle.trs_defs.specs.Variable.{variables_of}
use Rattle.trs_defs.specs.Size.{size_of, within_limits}
use Rattle.trs_defs.specs.Substitution.{apply}
use Rattle.trs_defs.specs.Position.{replaced_at}
use Rattle.trs_defs.specs.Renaming.{shifted}
use Rattle.trs_defs.specs.System.{RewriteRule, System, IsSystem}
use Rattle.trs_defs.proofs.InstancePlaces.{replaced_image}
use Rattle.term_pool.specs.LeftSides.{IsGround}
use Rattle.term_pool.specs.Pooled.{Extends, tree_at}
use Rattle.term_pool.proofs.Extending.{extends_on, same_tree_at}
use Rattle.term_pool.proofs.LeftSideLaws.{ground_stays}
use Rattle.trs_unify.specs.Renamed.{IsRenamed}
use Rattle.crit_pairs.specs.Apart.{renamed_apart}
use Rattle.crit_pairs.specs.InOrder.{in_order}
use Rattle.crit_pairs.specs.MadePairs.{spot, UnifiesAt}
use Rattle.crit_pairs.specs.Numbered.{AreNamed, IsNumbered}
use Rattle.crit_pairs.specs.PooledTerms.{ArePeakInstances, ArePooledResults}
use Rattle.crit_pairs.specs.Sides.{are_small, nodes_of_three, AreRenumbered, KeepsLimits, PassesLimit}
use Rattle.crit_pairs.specs.declared.faults.PeakFault.{PeakFault}
use Rattle.crit_pairs.specs.declared.faults.PeakFault.TheVariants as peak
use Rattle.crit_pairs.specs.declared.table.PeakPair.{PeakPair}
use Rattle.crit_pairs.proofs.NumberedLaws.{named_after, named_part, right_named, apart_right_named, numbered_renamed, numbered_replaced}
use Rattle.crit_pairs.proofs.PooledSides.{not_shifted}
use Rattle.crit_pairs.proofs.Renumbering.{none_distinct, renamed_size, renamed_limits}
use Rattle.crit_pairs.proofs.TermsInOrder.{in_order_renamed, in_order_beside, variables_distinct}

-- ---- what holds of the instances of the three terms

module _ (rules : List RewriteRule) (j i : ℕ) (place : List ℕ) (σ : ℕ → Tree) (outer r : RewriteRule) (outer_numbered : slice_get rules j ≡ Some outer) (inner_numbered : slice_get rules i ≡ Some r) where
  -- they are such instances
  pub instances_at : (u : Tree) → replaced_at place outer.left (renamed_apart r).right ≡ Some u
      → ArePeakInstances rules (spot j place i) σ (apply σ outer.left) (apply σ u) (apply σ outer.right)
  instances_at u replaced = record {
    inner = r;
    outer = outer;
    reduct = u;
    inner_numbered = inner_numbered;
    outer_numbered = outer_numbered;
    replaced = replaced;
    top_is = refl;
    left_is = refl;
    right_is = refl;
  }

  -- and no others are
  pub of_instances : (P : Tree → Tree → Tree → Type 0)
      → ((u : Tree) → replaced_at place outer.left (renamed_apart r).right ≡ Some u → P (apply σ outer.left) (apply σ u) (apply σ outer.right))
      → (top left right : Tree) → ArePeakInstances rules (spot j place i) σ top left right → P top left right
  of_instances P h top left right is =
      let same_outer : is.outer ≡ outer = same_Some is.outer outer (sym is.outer_numbered ∙ outer_numbered) in
      let same_inner : is.inner ≡ r = same_Some is.inner r (sym is.inner_numbered ∙ inner_numbered) in
      let O : RewriteRule → Type 0 = λ z. replaced_at place z.left (renamed_apart is.inner).right ≡ Some is.reduct in
      let I : RewriteRule → Type 0 = λ z. replaced_at place outer.left (renamed_apart z).right ≡ Some is.reduct in
      let here = h is.reduct (subst I same_inner (subst O same_outer is.replaced)) in
      let top_is : apply σ outer.left ≡ top = ap (λ (z : RewriteRule). apply σ z.left) (sym same_outer) ∙ sym is.top_is in
      let right_is : apply σ outer.right ≡ right = ap (λ (z : RewriteRule). apply σ z.right) (sym same_outer) ∙ sym is.right_is in
      let T : Tree → Type 0 = λ z. P z (apply σ is.reduct) (apply σ outer.right) in
      let L : Tree → Type 0 = λ z. P top z (apply σ outer.right) in
      let R : Tree → Type 0 = λ z. P top left z in
      subst R right_is (subst L (sym is.left_is) (subst T top_is here))

  pub results_are : (pool : List Tree) (pair : PeakPair) → pair.left < length pool → pair.right < length pool
      → ((u : Tree) → replaced_at place outer.left (renamed_apart r).right ≡ Some u
      → AreRenumbered (apply σ outer.left) (apply σ u) (apply σ outer.right) (in_order (apply σ outer.left)) (tree_at pool pair.left) (tree_at pool pair.right))
      → ArePooledResults rules (spot j place i) σ pool pair
  results_are pool pair left_there right_there h = record {
    left_there = left_there;
    right_there = right_there;
    renumbered = of_instances (λ top left right. AreRenumbered top left right (in_order top) (tree_at pool pair.left) (tree_at pool pair.right)) h;
  }

-- ---- results with the numbers of names

pub numbered_results : (top left right l r : Tree) (names : List ℕ) → names ≡ variables_of top → IsNumbered names left l → IsNumbered names right r → AreRenumbered top left right (in_order top) l r
numbered_results top left right l r names is first second = record {
  first = names;
  second = names;
  third = names;
  top_renamed = subst (λ xs. IsRenamed [] xs top (in_order top)) (sym is) (in_order_renamed top);
  left_renamed = numbered_renamed names left l first;
  right_renamed = numbered_renamed names right r second;
  distinct = rw is (variables_distinct top [] none_distinct);
}

module _ (system : System) (valid : IsSystem system) (j i : ℕ) (p : List ℕ) (σ : ℕ → Tree) (u : UnifiesAt system.rules (spot j p i) σ) (names : List ℕ) (named : names ≡ variables_of (apply σ u.outer.left)) where
  pub left_named : AreNamed names (apply σ u.outer.left)
  left_named = named_after [] names (apply σ u.outer.left) named

  pub outer_named : AreNamed names (apply σ (shifted 0 u.outer.right))
  outer_named = subst (λ t. AreNamed names (apply σ t)) (sym (not_shifted u.outer.right)) (right_named system valid names σ j u.outer u.outer_numbered left_named)

  pub inner_named : AreNamed names (apply σ (shifted 65536 u.inner.right))
  inner_named =
      let left = named_part names σ p u.outer.left u.part (renamed_apart u.inner).left u.there u.most_general.unifies left_named in
      apart_right_named system valid names σ i u.inner u.inner_numbered left

-- right sides with no variable are there already
pub whole_results_are : (rules : List RewriteRule) (j i : ℕ) (p : List ℕ) (σ : ℕ → Tree) (u : UnifiesAt rules (spot j p i) σ) (pool : List Tree) (pair : PeakPair) → p ≡ []
    → pair.left < length pool → pair.right < length pool → tree_at pool pair.left ≡ u.inner.right → tree_at pool pair.right ≡ u.outer.right → IsGround u.inner.right → IsGround u.outer.right
    → ArePooledResults rules (spot j p i) σ pool pair
whole_results_are rules j i p σ u pool pair root left_there right_there left_is right_is left_ground right_ground =
    results_are rules j i p σ u.outer u.inner u.outer_numbered u.inner_numbered pool pair left_there right_there (λ t replaced.
    let at : replaced_at [] u.outer.left (renamed_apart u.inner).right ≡ Some t = subst (λ q. replaced_at q u.outer.left (renamed_apart u.inner).right ≡ Some t) root replaced in
    let same : u.inner.right ≡ t = sym (ground_stays (λ v. var (65536 + v)) u.inner.right left_ground) ∙ same_Some (renamed_apart u.inner).right t at in
    let left : apply σ t ≡ tree_at pool pair.left = ap (apply σ) (sym same) ∙ (ground_stays σ u.inner.right left_ground ∙ sym left_is) in
    let right : apply σ u.outer.right ≡ tree_at pool pair.right = ground_stays σ u.outer.right right_ground ∙ sym right_is in
    let top = apply σ u.outer.left in
    rw (left, right) (in_order_beside top (tree_at pool pair.left) (tree_at pool pair.right) (subst IsGround (sym left_is) left_ground) (subst IsGround (sym right_is) right_ground))
    )

-- ---- limits

module _ (rules : List RewriteRule) (j i : ℕ) (p : List ℕ) (σ : ℕ → Tree) (pool : List Tree) (pair : PeakPair) (results : ArePooledResults rules (spot j p i) σ pool pair)
    (outer : RewriteRule) (numbered : slice_get rules j ≡ Some outer) (nodes : ℕ) (top left right : Tree) (is : ArePeakInstances rules (spot j p i) σ top left right) where
  top_same : apply σ outer.left ≡ top
  top_same = ap (λ (z : RewriteRule). apply σ z.left) (same_Some outer is.outer (sym numbered ∙ is.outer_numbered)) ∙ sym is.top_is

  small_same : are_small (apply σ outer.left) (tree_at pool pair.left) (tree_at pool pair.right) ≡ are_small top left right
  small_same =
      let a = results.renumbered top left right is in
      let x : within_limits (tree_at pool pair.left) ≡ within_limits left = renamed_limits a.first a.second left _ a.left_renamed in
      let y : within_limits (tree_at pool pair.right) ≡ within_limits right = renamed_limits a.second a.third right _ a.right_renamed in
      rw (top_same, x, y) refl

  nodes_same : nodes_of_three (apply σ outer.left) (tree_at pool pair.left) (tree_at pool pair.right) ≡ nodes_of_three top left right
  nodes_same =
      let a = results.renumbered top left right is in
      let x : size_of (tree_at pool pair.left) ≡ size_of left = renamed_size a.first a.second left _ a.left_renamed in
      let y : size_of (tree_at pool pair.right) ≡ size_of right = renamed_size a.second a.third right _ a.right_renamed in
      rw (top_same, x, y) refl

  pub pair_keeps : (total : ℕ) → KeepsLimits nodes total (apply σ outer.left) (tree_at pool pair.left) (tree_at pool pair.right) → KeepsLimits nodes total top left right
  pair_keeps total h = record { small = sym small_same ∙ h.small; few = omega (arith, nodes_same, h.few); counted = omega (arith, nodes_same, h.counted) }

  pub pair_passes : (fault : PeakFault) → PassesLimit fault nodes (apply σ outer.left) (tree_at pool pair.left) (tree_at pool pair.right) → PassesLimit fault nodes top left right
  pair_passes peak.TooLarge h = sym small_same ∙ h
  pair_passes peak.TooMany h = (sym small_same ∙ h.0, omega (arith, nodes_same, h.1))
  pair_passes peak.OutOfMemory h = tt

-- ---- results as they are made

kept_numbered : (names : List ℕ) (t : Tree) (pool next : List Tree) (id : ℕ) → Extends pool next → id < length pool → IsNumbered names t (tree_at pool id) → IsNumbered names t (tree_at next id)
kept_numbered names t pool next id more there h = subst (IsNumbered names t) (sym (same_tree_at pool next more id there)) h

module _ (rules : List RewriteRule) (j i : ℕ) (p : List ℕ) (σ : ℕ → Tree) (u : UnifiesAt rules (spot j p i) σ) (names : List ℕ) (named : names ≡ variables_of (apply σ u.outer.left)) where
  results_named : (pool : List Tree) (pair : PeakPair) → pair.left < length pool → pair.right < length pool
      → ((t : Tree) → replaced_at p u.outer.left (renamed_apart u.inner).right ≡ Some t → IsNumbered names (apply σ t) (tree_at pool pair.left))
      → IsNumbered names (apply σ (shifted 0 u.outer.right)) (tree_at pool pair.right) → ArePooledResults rules (spot j p i) σ pool pair
  results_named pool pair left_there right_there left right =
      let plain : IsNumbered names (apply σ u.outer.right) (tree_at pool pair.right) = subst (λ t. IsNumbered names (apply σ t) (tree_at pool pair.right)) (not_shifted u.outer.right) right in
      results_are rules j i p σ u.outer u.inner u.outer_numbered u.inner_numbered pool pair left_there right_there
      (λ t replaced. numbered_results (apply σ u.outer.left) (apply σ t) (apply σ u.outer.right) (tree_at pool pair.left) (tree_at pool pair.right) names named (left t replaced) plain)

  pub root_results : (known : List ℕ) (pool next : List Tree) (by right : ℕ) → p ≡ [] → known ≡ names → Extends pool next → right < length pool → by < length next
      → IsNumbered names (apply σ (shifted 0 u.outer.right)) (tree_at pool right) → IsNumbered known (apply σ (renamed_apart u.inner).right) (tree_at next by)
      → ArePooledResults rules (spot j p i) σ next (record { left = by; right = right })
  root_results known pool next by right root same more right_there by_there first second =
      let inner : IsNumbered names (apply σ (renamed_apart u.inner).right) (tree_at next by) = subst (λ ns. IsNumbered ns (apply σ (renamed_apart u.inner).right) (tree_at next by)) same second in
      results_named next (record { left = by; right = right }) by_there (omega (arith, right_there, more.longer)) (λ t replaced.
      let at : replaced_at [] u.outer.left (renamed_apart u.inner).right ≡ Some t = subst (λ q. replaced_at q u.outer.left (renamed_apart u.inner).right ≡ Some t) root replaced in
      subst (λ z. IsNumbered names (apply σ z) (tree_at next by)) (same_Some (renamed_apart u.inner).right t at) inner
      ) (kept_numbered names (apply σ (shifted 0 u.outer.right)) pool next right more right_there first)

  -- the inner result is put into the instance of the left side
  pub below_results : (known later : List ℕ) (first second third last : List Tree) (by right top left : ℕ) → known ≡ names → later ≡ names
      → Extends first second → Extends second third → Extends third last → right < length first → by < length second → left < length last
      → IsNumbered names (apply σ (shifted 0 u.outer.right)) (tree_at first right) → IsNumbered known (apply σ (renamed_apart u.inner).right) (tree_at second by)
      → IsNumbered later (apply σ u.outer.left) (tree_at third top) → replaced_at p (tree_at third top) (tree_at third by) ≡ Some (tree_at last left)
      → ArePooledResults rules (spot j p i) σ last (record { left = left; right = right })
  below_results known later first second third last by right top left same still a b c right_there by_there left_there outer inner whole put =
      let more : Extends first last = extends_on first second last a (extends_on second third last b c) in
      let new : IsNumbered names (apply σ (renamed_apart u.inner).right) (tree_at third by) =
      kept_numbered names (apply σ (renamed_apart u.inner).right) second third by b by_there (subst (λ ns. IsNumbered ns (apply σ (renamed_apart u.inner).right) (tree_at second by)) same inner) in
      let all : IsNumbered names (apply σ u.outer.left) (tree_at third top) = subst (λ ns. IsNumbered ns (apply σ u.outer.left) (tree_at third top)) still whole in
      results_named last (record { left = left; right = right }) left_there (omega (arith, right_there, more.longer)) (λ t replaced.
      numbered_replaced names p (apply σ u.outer.left) (tree_at third top) (apply σ (renamed_apart u.inner).right) (tree_at third by) (apply σ t) (tree_at last left) all new
      (replaced_image σ p u.outer.left (renamed_apart u.inner).right t replaced) put
      ) (kept_numbered names (apply σ (shifted 0 u.outer.right)) first last right more right_there outer)
