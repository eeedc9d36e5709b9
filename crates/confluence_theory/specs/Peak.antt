-- Peaks of two rules, and lists of peaks that stand for all of them. (Baader and Nipkow, section 6.2: the critical pair
-- lemma.)
use Rattle.std.specs.Prelude.{◌≡◌, ◌≢◌, ℕ, List}
use Rattle.trs_defs.specs.Member.{In}
use Rattle.trs_defs.specs.Tree.{Tree, Trees, app}
use Rattle.trs_defs.specs.Substitution.{apply}
use Rattle.trs_defs.specs.System.{RewriteRule, Numbered}
use Rattle.trs_defs.specs.Step.{RootStep}
use Rattle.confluence_theory.specs.Overlap.{OverlapOne}

-- rule number `inner` leads from the top to the left, inside or at the root, and rule number `outer` at the root to the
-- right
pub record Peak : Type 0 where
  pub inner : ℕ
  pub outer : ℕ
  pub top : Tree
  pub left : Tree
  pub right : Tree

-- a listed peak of rules i and j has, under one substitution, the top s and the results t and u
pub record HasPeak (peaks : List Peak) (i j : ℕ) (s t u : Tree) : Type 0 where
  pub top : Tree
  pub left : Tree
  pub right : Tree
  pub listed : In (record { inner = i; outer = j; top = top; left = left; right = right }) peaks
  pub substitution : ℕ → Tree
  pub from : s ≡ apply substitution top
  pub inner_to : t ≡ apply substitution left
  pub outer_to : u ≡ apply substitution right

-- for rules i and j, and each place that is no variable of the left side of rule j at which a step of rule i can be made
-- in an instance of it, there is a listed peak; a rule with itself at the root is excepted
pub record Covers (rules : List RewriteRule) (peaks : List Peak) : Type 0 where
  pub at_root : (i j : ℕ) (l r t : Tree) (σ : ℕ → Tree) → Numbered rules j l r → i ≢ j → RootStep (Numbered rules i) (apply σ l) t → HasPeak peaks i j (apply σ l) t (apply σ r)
  pub below_root : (i j f : ℕ) (ls ts : Trees) (r : Tree) (σ : ℕ → Tree) → Numbered rules j (app f ls) r → OverlapOne (RootStep (Numbered rules i)) σ ls ts → HasPeak peaks i j (apply σ (app f ls)) (app f ts) (apply σ r)
