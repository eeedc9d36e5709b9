-- The strategies fork and split: both sides of a peak reach terms that never meet again.
-- (Zankl, Felgenhauer and Middeldorp, CSI, a confluence tool, 2011.)
use Rattle.std.specs.Prelude.{◌≡◌, ◌≢◌, List, ◌∷◌}
use Rattle.trs_defs.specs.Member.{In}
use Rattle.trs_defs.specs.Tree.{Tree}
use Rattle.trs_defs.specs.System.{RewriteRule}
use Rattle.trs_defs.specs.Step.{Step}
use Rattle.trs_defs.specs.NormalForm.{IsNormalForm}
use Rattle.term_pool.specs.Listed.{Listed}
use Rattle.term_pool.specs.Reach.{IsReachList}
use Rattle.rewrite_core.specs.PlacedPeak.{PlacedPeak}
use Rattle.rewrite_core.specs.declared.checks.forks.ForkTest.{ForkTest}
use Rattle.rewrite_core.specs.declared.checks.forks.ForkTest.TheVariants.{Normal, Apart}
use Rattle.cert_step.specs.nonjoin.Apart.{AreApart}
use Rattle.join_find.specs.First.{First, Some_in, None_in}
use Rattle.conf_find.specs.Fork.{Fork, fork_from}

-- the item stands in the list behind items of which each is passed over
pub data Behind {A : Type 0} (passed : A → Type 0) : List A → A → Type 0 where
  behind_none : {a : A} {xs : List A} → Behind passed (a ∷ xs) a
  behind_one : {a b : A} {xs : List A} → passed a → Behind passed xs b → Behind passed (a ∷ xs) b

-- both are normal forms
abbrev pub AreNormal : List RewriteRule → Tree → Tree → Type 0
AreNormal rules u v = IsNormalForm (Step rules) u × IsNormalForm (Step rules) v

-- different normal forms
abbrev pub AreDifferentNormalForms : List RewriteRule → Tree → Tree → Type 0
AreDifferentNormalForms rules u v = AreNormal rules u v × (u ≢ v)

-- the test is `Normal` where both terms are normal forms, else `Apart`
pub data IsTestOf (rules : List RewriteRule) (u v : Tree) : ForkTest → Type 0 where
  both_normal : AreNormal rules u v → IsTestOf rules u v Normal
  not_both : (AreNormal rules u v → ⊥) → IsTestOf rules u v Apart

-- what a side of a peak reaches in up to 8 steps, up to 32 terms of up to 4,096 nodes
abbrev pub IsShortReach : List RewriteRule → Tree → List Listed → Type 0
IsShortReach rules t es = IsReachList rules t 8 32 4096 es

-- `parted` says of two terms that they never meet: that they are apart for fork, different normal forms for split
module _ (parted : List RewriteRule → Tree → Tree → Type 0) where
  -- no term of the left list is parted from one of the right list
  abbrev pub NothingParted : List RewriteRule → List Listed → List Listed → Type 0
  NothingParted rules lefts rights = None_in (λ (u : Listed). Some_in (λ (v : Listed). parted rules u.term v.term) rights) lefts

  -- The first term u of the left list that is parted from some term of the right list, and for it the first such term v. The
  -- start is the top of the peak; the paths go by the inner and by the outer step.
  pub record PartsLists (rules : List RewriteRule) (peak : PlacedPeak) (lefts rights : List Listed) (fork : Fork) : Type 0 where
    pub u : Listed
    pub first_left : First (λ (e : Listed). Some_in (λ (f : Listed). parted rules e.term f.term) rights) lefts u
    pub v : Listed
    pub first_right : First (λ (f : Listed). parted rules u.term f.term) rights v
    pub how : ForkTest
    pub test : IsTestOf rules u.term v.term how
    pub is : fork ≡ fork_from peak u.path v.path how

  -- no two terms that are reached from both sides are parted
  pub record PartsNot (rules : List RewriteRule) (peak : PlacedPeak) : Type 0 where
    pub lefts : List Listed
    pub rights : List Listed
    pub from_left : IsShortReach rules peak.left lefts
    pub from_right : IsShortReach rules peak.right rights
    pub none : NothingParted rules lefts rights

  -- the first two that are
  pub record PartsBy (rules : List RewriteRule) (peak : PlacedPeak) (fork : Fork) : Type 0 where
    pub lefts : List Listed
    pub rights : List Listed
    pub from_left : IsShortReach rules peak.left lefts
    pub from_right : IsShortReach rules peak.right rights
    pub parts : PartsLists rules peak lefts rights fork

  -- the fork at the first peak that has one
  abbrev pub FindsParted : List RewriteRule → List PlacedPeak → Fork → Type 0
  FindsParted rules peaks fork = (peak : PlacedPeak) × Behind (PartsNot rules) peaks peak × PartsBy rules peak fork

  -- no peak has one
  abbrev pub FailsParted : List RewriteRule → List PlacedPeak → Type 0
  FailsParted rules peaks = (peak : PlacedPeak) → In peak peaks → PartsNot rules peak

abbrev pub FindsFork : List RewriteRule → List PlacedPeak → Fork → Type 0
FindsFork rules peaks fork = FindsParted AreApart rules peaks fork

abbrev pub FailsFork : List RewriteRule → List PlacedPeak → Type 0
FailsFork rules peaks = FailsParted AreApart rules peaks

abbrev pub FindsSplit : List RewriteRule → List PlacedPeak → Fork → Type 0
FindsSplit rules peaks fork = FindsParted AreDifferentNormalForms rules peaks fork

abbrev pub FailsSplit : List RewriteRule → List PlacedPeak → Type 0
FailsSplit rules peaks = FailsParted AreDifferentNormalForms rules peaks
