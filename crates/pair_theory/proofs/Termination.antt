-- That the chains of all dependency pairs end gives a bound for each well-formed term.
use Rattle.std.proofs.Common.{◌≡◌, ℕ, suc, sym, ap, subst, ◌⊎◌, inl, inr, List, [], ◌∷◌, IsTrue}
use native.Mathlib.Decide.{ℕ_discrete}
use Rattle.trs_defs.specs.Tree.{Tree, var, app, Trees}
use Rattle.trs_defs.specs.System.{RewriteRule, Among, IsDefined, System, IsSystem}
use Rattle.trs_defs.specs.Member.{In, in_first, in_rest}
use Rattle.trs_defs.specs.Claims.{IsTerminating, IsEndless}
use Rattle.pair_theory.specs.DependencyPair.{IsDependencyPair}
use Rattle.pair_theory.specs.PairProblem.{ChainsEnd}
use Rattle.trs_defs.specs.Step.{StepBy, Step}
use Rattle.trs_defs.specs.Variable.{has_var}
use Rattle.pair_theory.specs.Terminates.{Terminates}
use Rattle.trs_defs.specs.Bounded.{IsBounded}
use Rattle.trs_defs.proofs.EqualTerms.{app_root}
use Rattle.trs_defs.proofs.Members.{in_or, no_in}
use Rattle.trs_defs.proofs.BoundLaws.{none_longer}
use Rattle.pair_theory.proofs.Subterms.{sub_of_has, has_of_sub}
use Rattle.pair_theory.proofs.Systems.{left_rooted, no_new_variables}
use Rattle.pair_theory.proofs.PairTheorem.{terminating}
use Rattle.pair_theory.proofs.Reducts.{bounded}

-- whether the root of a term is g
rooted_at : (g : ℕ) (t : Tree) → Dec ((ls : Trees) × (t ≡ app g ls))
rooted_at g (var x) = no (λ h. cc h.1)
rooted_at g (app f ts) = go (ℕ_discrete f g)
  where
    go : Dec (f ≡ g) → Dec ((ls : Trees) × (app f ts ≡ app g ls))
    go (yes e) = yes (ts, ap (λ k. app k ts) e)
    go (no n) = no (λ h. n (app_root h.1))

pub decide_defined : (rs : List RewriteRule) (g : ℕ) → Dec (IsDefined (Among rs) g)
decide_defined [] g = no (λ d. no_in d.2)
decide_defined (p ∷ rs) g = go (rooted_at g p.left) (decide_defined rs g)
  where
    here : (ls : Trees) → p.left ≡ app g ls → Among (p ∷ rs) (app g ls) p.right
    here ls e = subst (λ l. In (record { left = l; right = p.right }) (p ∷ rs)) e in_first

    cases : {ls : Trees} {r : Tree} → Among (p ∷ rs) (app g ls) r → (p.left ≡ app g ls) ⊎ Among rs (app g ls) r
    cases i = elim (in_or i) [ inl e ↦ inl (sym (ap (λ q. q.left) e)) | inr j ↦ inr j ]

    go : Dec ((ls : Trees) × (p.left ≡ app g ls)) → Dec (IsDefined (Among rs) g) → Dec (IsDefined (Among (p ∷ rs)) g)
    go (yes h) d = yes (h.0, p.right, here h.0 h.1)
    go (no n) (yes d) = yes (d.0, d.1, in_rest d.2)
    go (no n) (no m) = no (λ d. elim (cases d.2) [ inl e ↦ n (d.0, e) | inr i ↦ m (d.0, d.1, i) ])

pub pair_theorem : (system : System) → IsSystem system → ChainsEnd system.arities (Among system.rules) (IsDependencyPair (Among system.rules)) → IsTerminating system
pair_theorem system ok all t w = bounded system.rules (λ p i. no_new_variables system ok p.left p.right i)
    (terminating (Among system.rules) (left_rooted system ok) (no_new_variables system ok) (decide_defined system.rules) system.arities all t w)

pub terminating_is_bounded : (rules : List RewriteRule) (t : Tree)
    → ((r : RewriteRule) → In r rules → (v : ℕ) → IsTrue (has_var v r.right) → IsTrue (has_var v r.left))
    → Terminates (Among rules) t → IsBounded (StepBy (Among rules)) t
terminating_is_bounded rules t vars ends = bounded rules (λ p i x q. sub_of_has x p.left (vars p i x (has_of_sub x p.right q))) ends

-- a term with a bound does not start a derivation that is longer
pub endless_not_terminating : (system : System) → IsEndless system → IsTerminating system → ⊥
endless_not_terminating system (t, well, derivations) terminating =
    let (n, b) = terminating t well in
    let (u, d) = derivations (suc n) in
    none_longer (Step system.rules) n t u b d
