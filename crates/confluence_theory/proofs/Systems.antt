-- The rules of a system by their numbers, and what is proved of them as a claim on the system.
use Rattle.std.specs.Prelude.{◌≡◌, ℕ, List}
use Rattle.std.proofs.Common.{refl, ap}
use Rattle.trs_defs.specs.Member.{In}
use Rattle.trs_defs.specs.Tree.{Tree, Trees, var, app}
use Rattle.trs_defs.specs.Variable.{IsVariable}
use Rattle.trs_defs.specs.Substitution.{apply}
use Rattle.trs_defs.specs.System.{RewriteRule, System, IsSystem, Numbered, Among}
use Rattle.trs_defs.specs.Joinable.{IsJoinable}
use Rattle.trs_defs.specs.Step.{Inside, InsideOne, here, deep, first, later, RootStep, Step}
use Rattle.trs_defs.specs.Claims.{IsConfluent}
use Rattle.confluence_theory.specs.Peak.{Peak, HasPeak, Covers}
use Rattle.trs_defs.proofs.Members.{in_of_get, get_of_in}
use Rattle.trs_defs.proofs.Substitutions.{same_values, same_instance}
use Rattle.trs_defs.proofs.Derivations.{run_of_reaches}
use Rattle.trs_defs.proofs.StepLaws.{step_of_more}
use Rattle.confluence_theory.proofs.Joins.{Joins, RunsJoin, joinable_of}
use Rattle.trs_defs.proofs.Runs.{each}
use Rattle.confluence_theory.proofs.Families.{AnyRule, AnyOne, AnyRoot, IsFamily, HasInstance, CoversBy}

rooted : (t : Tree) → (IsVariable t → ⊥) → (f : ℕ) × (ts : Trees) × (t ≡ app f ts)
rooted (var n) h = absurd (h (n, refl))
rooted (app f ts) h = (f, ts, refl)

one_rule : (rules : List RewriteRule) (i : ℕ) (l r l' r' : Tree) → Numbered rules i l r → Numbered rules i l' r' → (l ≡ l') × (r ≡ r')
one_rule rules i l r l' r' h h' =
    let a : RewriteRule = record { left = l; right = r } in
    let b : RewriteRule = record { left = l'; right = r' } in
    let k : a ≡ b = cc (h, h') in
    (ap (λ x. x.left) k, ap (λ x. x.right) k)

pub family_of : (system : System) → IsSystem system → IsFamily (Numbered system.rules)
family_of system h =
    record {
      root = λ i l r k. rooted l ((h.each i (record { left = l; right = r }) k).left_no_variable);
      one = λ i l r l' r'. one_rule system.rules i l r l' r';
      same = λ i l r k σ τ e. same_instance σ τ r (λ v has. same_values σ τ l v e ((h.each i (record { left = l; right = r }) k).variables v has));
    }

module _ (rules : List RewriteRule) where
  -- a listed peak
  abbrev pub Listed : List Peak → ℕ → ℕ → Tree → Tree → Tree → Type 0
  Listed peaks i j top left right = In (record { inner = i; outer = j; top = top; left = left; right = right }) peaks

  has_instance : (peaks : List Peak) (i j : ℕ) (s t u : Tree) → HasPeak peaks i j s t u → HasInstance (Listed peaks) i j s t u
  has_instance peaks i j s t u h = (h.top, h.left, h.right, h.substitution, h.listed, h.from, h.inner_to, h.outer_to)

  pub covers_by : (peaks : List Peak) → Covers rules peaks → CoversBy (Numbered rules) (Listed peaks)
  covers_by peaks h =
      record {
        at_root = λ i j l r t σ k n d. has_instance peaks i j (apply σ l) t (apply σ r) (h.at_root i j l r t σ k n d);
        below_root = λ i j f ls us r σ k d. has_instance peaks i j (apply σ (app f ls)) (app f us) (apply σ r) (h.below_root i j f ls us r σ k d);
      }

  -- a step of rule number i is a step of the rules, and back

  among : (i : ℕ) (l r : Tree) → Numbered rules i l r → Among rules l r
  among i l r h = in_of_get rules i (record { left = l; right = r }) h

  pub numbered_root : {s t : Tree} → RootStep (Among rules) s t → AnyRoot (Numbered rules) s t
  numbered_root (l, r, σ, h, e, e') = let (i, k) = get_of_in h in (i, (l, r, σ, k, e, e'))

  mutual
    numbered_step : {s t : Tree} → Inside (RootStep (Among rules)) s t → AnyRule (Numbered rules) s t
    numbered_step (here r) = let (i, k) = numbered_root r in (i, here k)
    numbered_step (deep d) = let (i, k) = numbered_one d in (i, deep k)

    numbered_one : {ss ts : Trees} → InsideOne (RootStep (Among rules)) ss ts → AnyOne (Numbered rules) ss ts
    numbered_one (first d) = let (i, k) = numbered_step d in (i, first k)
    numbered_one (later d) = let (i, k) = numbered_one d in (i, later k)

  pub any_of_step : (s t : Tree) → Step rules s t → AnyRule (Numbered rules) s t
  any_of_step s t d = numbered_step d

  pub step_of_any : (s t : Tree) → AnyRule (Numbered rules) s t → Step rules s t
  step_of_any s t (i, d) = step_of_more (Numbered rules i) (Among rules) (among i) d

  pub joins_any : (t u : Tree) → IsJoinable (Step rules) t u → Joins (AnyRule (Numbered rules)) t u
  joins_any t u (v, tv, uv) = (v, each any_of_step (run_of_reaches (Step rules) t v tv), each any_of_step (run_of_reaches (Step rules) u v uv))

  pub joinable_any : (t u : Tree) → Joins (AnyRule (Numbered rules)) t u → IsJoinable (Step rules) t u
  joinable_any t u (v, tv, uv) = joinable_of (Step rules) (v, each step_of_any tv, each step_of_any uv)

pub confluent_system : (system : System) → RunsJoin (AnyRule (Numbered system.rules)) → IsConfluent system
confluent_system system joins s t u w p q =
    joinable_any system.rules t u
    (joins s t u (each (any_of_step system.rules) (run_of_reaches (Step system.rules) s t p))
    (each (any_of_step system.rules) (run_of_reaches (Step system.rules) s u q)))
