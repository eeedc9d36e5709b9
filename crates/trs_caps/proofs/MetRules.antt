-- A cap meets only left sides with its root.
use Rattle.std.proofs.Common.{ℕ, false, IsTrue, refl, sym, subst}
use Rattle.std.proofs.lemmas.Bool.{eq-eqb}
use Rattle.trs_defs.specs.Tree.{Tree, var, app}
use Rattle.trs_defs.specs.Variable.{IsVariable}
use Rattle.trs_defs.specs.System.{RewriteRule, System, IsSystem, has_root}
use Rattle.term_pool.specs.Roots.{with_root}
use Rattle.term_pool.proofs.RootRules.{NoneSuch, none_such}
use Rattle.trs_caps.specs.HoledTree.{HoledTree}
use Rattle.trs_caps.specs.HoledCap.{MeetsLeft, MeetsSome, HasRoot}
use Rattle.trs_caps.proofs.Fitting.{fits_root}

pub root_of_met : (f : ℕ) (c : HoledTree) (l : Tree) → HasRoot f c → (IsVariable l → ⊥) → MeetsLeft c l → IsTrue (has_root f l)
root_of_met f c (var x) root proper m = absurd (proper (x, refl))
root_of_met f c (app g ts) root proper m =
    let met = subst (λ z. MeetsLeft z (app g ts)) root.1 m in
    eq-eqb g f (sym (fits_root f g root.0 _ met.1))

-- the cap meets the left side of the rule
abbrev pub Meets : HoledTree → RewriteRule → Type 0
Meets c rule = MeetsLeft c rule.left

pub meets_none : (system : System) (c : HoledTree) (f : ℕ) → HasRoot f c → IsSystem system → NoneSuch (Meets c) system.rules (with_root f system.rules) → MeetsSome c system.rules false
meets_none system c f root valid none l r there m =
    none_such (Meets c) f system.rules (λ k rule at met. root_of_met f c rule.left root (valid.each k rule at).left_no_variable met) none (record { left = l; right = r }) there m
