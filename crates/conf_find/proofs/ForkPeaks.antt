-- What both sides of a peak reach, and the fork to two terms of it.
use Rattle.std.specs.Prelude.{◌≡◌, ◌<◌, ◌≤◌, ◌+◌, ℕ, All, List, [], ◌∷◌, ◌++◌, Some, length, take, slice_get, refl, Result, Ok, Err, Option, None, IfOk, MatchOption}
use Rattle.std.proofs.Common.{zero, suc, ap, sym, ◌∙◌, subst, get_or, arith}
use Rattle.std.proofs.lemmas.Option.{slice_get_read, slice_get_within, same_Some, get_or_from_slice_get}
use Rattle.std.proofs.Math.Seq.{take-suc}
use Rattle.std.proofs.lemmas.List.{take_all}
use Rattle.trs_defs.specs.Tree.{Tree}
use Rattle.trs_defs.specs.System.{RewriteRule}
use Rattle.trs_defs.specs.Path.{PlacedRule}
use Rattle.term_pool.specs.Pooled.{tree_at}
use Rattle.term_pool.specs.Listed.{Listed}
use Rattle.term_pool.specs.ListedIds.{listed, listed_at}
use Rattle.term_pool.proofs.ReachedIds.{length_listed}
use Rattle.rewrite_core.specs.PlacedPeak.{PlacedPeak}
use Rattle.rewrite_core.specs.declared.checks.forks.ForkTest.{ForkTest}
use Rattle.join_find.specs.CommonIds.{Reached}
use Rattle.conf_find.specs.Fork.{Fork, fork_from, fork_of}
use Rattle.conf_find.specs.declared.forks.ForkFound.{ForkFound}
use Rattle.conf_find.specs.ForkRows.{IsShortReach, IsTestOf, NothingParted, PartsLists, PartsNot, PartsBy}
use Rattle.join_find.specs.crit_pairs.Table.{IsPair}
use Rattle.join_find.specs.crit_pairs.declared.table.PeakPair.{PeakPair}
use Rattle.conf_find.proofs.Pairs.{IsFirstOfTerms}

pub listed_there : (pool : List Tree) (es : List Reached) (i : ℕ) (x : Reached) → slice_get es i ≡ Some x → slice_get (listed_at pool es) i ≡ Some (listed pool x)
listed_there pool [] i x e = absurd cc
listed_there pool (y ∷ es) zero x e = ap (λ z. Some (listed pool z)) (same_Some y x e)
listed_there pool (y ∷ es) (suc i) x e = listed_there pool es i x e

-- the number of a term is that of an entry
pub number_within : (pool : List Tree) (es : List Reached) (i : ℕ) (u : Listed) → slice_get (listed_at pool es) i ≡ Some u → i < length es
number_within pool es i u e = let low = slice_get_within (listed_at pool es) i u e in omega (arith, low, length_listed pool es)

-- an entry that was read
entry_there : (pool : List Tree) (es : List Reached) (i : ℕ) (x : Reached) → i < length es → x ≡ get_or es i x → slice_get (listed_at pool es) i ≡ Some (listed pool x)
entry_there pool es i x below is = listed_there pool es i x (slice_get_read es (length es) i x refl below is)

pub entry_is : (pool : List Tree) (es : List Reached) (i : ℕ) (x : Reached) (u : Listed) → slice_get (listed_at pool es) i ≡ Some u → slice_get es i ≡ Some x → u ≡ listed pool x
entry_is pool es i x u at is = same_Some u (listed pool x) (sym at ∙ listed_there pool es i x is)

pub entry_below : (pool : List Tree) (es : List Reached) (i : ℕ) (x : Reached) → slice_get es i ≡ Some x → All (λ e. e.0 < length pool) es → x.0 < length pool
entry_below pool es i x is all = subst (λ (e : Reached). e.0 < length pool) (get_or_from_slice_get es i x x is) (all i x (slice_get_within es i x is))

-- ---- the fork

-- one more step of a path behind a first one
pub step_behind : (path longer new : List PlacedRule) (first copy step : PlacedRule) (i : ℕ) → longer ≡ first ∷ take i path → copy ≡ step → new ≡ longer ++ copy ∷ [] → i < length path
    → step ≡ get_or path i step → new ≡ first ∷ take (i + 1) path
step_behind path longer new first copy step i is same made below read =
    let n : i + 1 ≡ suc i = omega arith in
    let more : take (i + 1) path ≡ take i path ++ step ∷ [] = ap (λ k. take k path) n ∙ (take-suc path i step below ∙ ap (λ s. take i path ++ s ∷ []) (sym read)) in
    made ∙ (ap (λ l. l ++ copy ∷ []) is ∙ (ap (λ s. first ∷ (take i path ++ s ∷ [])) same ∙ ap (λ l. first ∷ l) (sym more)))

pub all_behind : (path longer : List PlacedRule) (first : PlacedRule) (i : ℕ) → longer ≡ first ∷ take i path → length path ≤ i → longer ≡ first ∷ path
all_behind path longer first i is all = is ∙ ap (λ l. first ∷ l) (take_all i path all)

-- the ids are those of a peak that was passed
pub record IsOfPassed (parted : List RewriteRule → Tree → Tree → Type 0) (rules : List RewriteRule) (pool : List Tree) (pair : PeakPair) : Type 0 where
  pub peak : PlacedPeak
  pub stands : IsPair pool pair peak
  pub passed : PartsNot parted rules peak

module _ (parted : List RewriteRule → Tree → Tree → Type 0) (rules : List RewriteRule) (peak : PlacedPeak) where
  pub parted_by : (pool : List Tree) (lefts rights : List Reached) (pair : ℕ × ℕ) (terms : IsFirstOfTerms (λ (u v : Listed). parted rules u.term v.term) (listed_at pool lefts) (listed_at pool rights) pair)
      (x y : Reached) → slice_get lefts pair.0 ≡ Some x → slice_get rights pair.1 ≡ Some y → (how : ForkTest) → IsTestOf rules (tree_at pool x.0) (tree_at pool y.0) how
      → (fork : Fork) (p q : List PlacedRule) → p ≡ x.1.items → q ≡ y.1.items → fork ≡ fork_from peak p q how
      → PartsLists parted rules peak (listed_at pool lefts) (listed_at pool rights) fork
  parted_by pool lefts rights pair terms x y read_x read_y how test fork p q is_p is_q made =
      let left : terms.u ≡ listed pool x = entry_is pool lefts pair.0 x terms.u terms.left_at read_x in
      let right : terms.v ≡ listed pool y = entry_is pool rights pair.1 y terms.v terms.right_at read_y in
      let L : Listed → Type 0 = λ u. IsTestOf rules u.term (tree_at pool y.0) how in
      let R : Listed → Type 0 = λ v. IsTestOf rules terms.u.term v.term how in
      let to_left : p ≡ terms.u.path = is_p ∙ sym (ap (λ (u : Listed). u.path) left) in
      let to_right : q ≡ terms.v.path = is_q ∙ sym (ap (λ (v : Listed). v.path) right) in
      record {
        u = terms.u;
        first_left = terms.first_left;
        v = terms.v;
        first_right = terms.first_right;
        how = how;
        test = subst R (sym right) (subst L (sym left) test);
        is = made ∙ (ap (λ l. fork_from peak l q how) to_left ∙ ap (λ r. fork_from peak terms.u.path r how) to_right);
      }

  -- what was found in the lists is that of the peak
  pub of_peak : {E : Type 0} (lefts rights : List Listed) (found : Result (Option ForkFound) E) → IsShortReach rules peak.left lefts → IsShortReach rules peak.right rights
      → IfOk found (λ o. MatchOption o (NothingParted parted rules lefts rights) (λ f. PartsLists parted rules peak lefts rights (fork_of f)))
      → IfOk found (λ o. MatchOption o (PartsNot parted rules peak) (λ f. PartsBy parted rules peak (fork_of f)))
  of_peak lefts rights (Ok None) from_left from_right h = record { lefts = lefts; rights = rights; from_left = from_left; from_right = from_right; none = h }
  of_peak lefts rights (Ok (Some f)) from_left from_right h = record { lefts = lefts; rights = rights; from_left = from_left; from_right = from_right; parts = h }
  of_peak lefts rights (Err e) from_left from_right h = tt

  -- a peak with the same ids has the same sides
  pub passed_again : (pool : List Tree) (before pair : PeakPair) → IsOfPassed parted rules pool before → (before.left ≡ pair.left) × (before.right ≡ pair.right) → IsPair pool pair peak → PartsNot parted rules peak
  passed_again pool before pair old same stands =
      let h = old.passed in
      let L : Tree → Type 0 = λ t. IsShortReach rules t h.lefts in
      let R : Tree → Type 0 = λ t. IsShortReach rules t h.rights in
      let left : old.peak.left ≡ peak.left = same_Some old.peak.left peak.left (sym old.stands.0 ∙ (ap (slice_get pool) same.0 ∙ stands.0)) in
      let right : old.peak.right ≡ peak.right = same_Some old.peak.right peak.right (sym old.stands.1 ∙ (ap (slice_get pool) same.1 ∙ stands.1)) in
      record { lefts = h.lefts; rights = h.rights; from_left = subst L left h.from_left; from_right = subst R right h.from_right; none = h.none }
