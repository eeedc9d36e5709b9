-- What fits a cap with holes: the term, its instances, and what they reach.
use Rattle.std.proofs.Common.{◌≡◌, ℕ, Bool, true, false, List, refl, ap, sym, ◌∙◌, subst}
use Rattle.trs_defs.specs.Tree.{Tree, Trees, var, app}
use Rattle.trs_defs.specs.Variable.{IsVariable}
use Rattle.trs_defs.specs.Substitution.{apply, apply_all}
use Rattle.trs_defs.specs.System.{RewriteRule, System, IsSystem, Among}
use Rattle.trs_defs.specs.Step.{Step, Inside, InsideOne, here, deep, first, later, RootStep}
use Rattle.trs_defs.specs.Derivation.{Reaches}
use Rattle.trs_defs.proofs.Derivations.{run_of_reaches}
use Rattle.trs_defs.proofs.Runs.{run_keeps}
use Rattle.trs_defs.proofs.Members.{get_of_in}
use Rattle.trs_caps.specs.HoledTree.{HoledTree, HoledTrees, symbol, Fits, EachFits, fits_hole, fits_own, fits_symbol, fits_none, fits_more}
use Rattle.trs_caps.specs.HoledCap.{MeetsLeft, IsHoledCap, AreHoledCaps, fixed_variable, free_variable, symbol_kept, symbol_opened, no_holed, one_holed}

-- the rules are those of a system: no left side is a variable
abbrev pub HaveSymbols : List RewriteRule → Type 0
HaveSymbols rules = (l r : Tree) → Among rules l r → IsVariable l → ⊥

pub system_symbols : (system : System) → IsSystem system → HaveSymbols system.rules
system_symbols system valid l r a =
    let k = get_of_in a in (valid.each k.0 (record { left = l; right = r }) k.1).left_no_variable

-- a term that fits a symbol with arguments has its root
pub fits_root : (f g : ℕ) (cs : HoledTrees) (ts : Trees) → Fits (symbol f cs) (app g ts) → f ≡ g
fits_root f g cs ts (fits_symbol p) = refl

root_variable : (l : Tree) (σ : ℕ → Tree) (v : ℕ) → var v ≡ apply σ l → IsVariable l
root_variable (var w) σ v e = (w, refl)
root_variable (app f ts) σ v e = absurd cc

true_or_false : ◌≡◌ {A = Bool} true false → ⊥
true_or_false e = cc

module _ (rules : List RewriteRule) where
  mutual
    -- an instance fits the cap of the term, where variables are free
    pub instance_fits : (σ : ℕ → Tree) {t : Tree} {c : HoledTree} → IsHoledCap rules false t c → Fits c (apply σ t)
    instance_fits σ (fixed_variable e) = absurd (true_or_false (sym e))
    instance_fits σ (free_variable e) = fits_hole
    instance_fits σ (symbol_kept caps free) = fits_symbol (instances_fit σ caps)
    instance_fits σ (symbol_opened caps rule meets) = fits_hole

    pub instances_fit : (σ : ℕ → Tree) {ts : Trees} {cs : HoledTrees} → AreHoledCaps rules false ts cs → EachFits cs (apply_all σ ts)
    instances_fit σ no_holed = fits_none
    instances_fit σ (one_holed cap caps) = fits_more (instance_fits σ cap) (instances_fit σ caps)

  mutual
    -- a term fits its cap
    pub term_fits : (fixed : Bool) {t : Tree} {c : HoledTree} → IsHoledCap rules fixed t c → Fits c t
    term_fits fixed (fixed_variable e) = fits_own
    term_fits fixed (free_variable e) = fits_hole
    term_fits fixed (symbol_kept caps free) = fits_symbol (terms_fit fixed caps)
    term_fits fixed (symbol_opened caps rule meets) = fits_hole

    pub terms_fit : (fixed : Bool) {ts : Trees} {cs : HoledTrees} → AreHoledCaps rules fixed ts cs → EachFits cs ts
    terms_fit fixed no_holed = fits_none
    terms_fit fixed (one_holed cap caps) = fits_more (term_fits fixed cap) (terms_fit fixed caps)

  module _ (symbols : HaveSymbols rules) (fixed : Bool) where
    no_step : (v : ℕ) (w : Tree) → Inside (RootStep (Among rules)) (var v) w → ⊥
    no_step v w (here (l, r, σ, a, e, e')) = symbols l r a (root_variable l σ v e)

    -- a step from a term that fits is at no root that the cap has
    mutual
      pub step_fits : {t : Tree} {c : HoledTree} → IsHoledCap rules fixed t c → {u v : Tree} → Fits c u → Inside (RootStep (Among rules)) u v → Fits c v
      step_fits (fixed_variable e) {v = w} (fits_own {v = v}) s = absurd (no_step v w s)
      step_fits (free_variable e) p s = fits_hole
      step_fits (symbol_opened caps rule meets) p s = fits_hole
      step_fits (symbol_kept {f = f} {cs = cs} caps free) (fits_symbol p) (here (l, r, σ, a, e, e')) =
          let P : Tree → Type 0 = λ z. Fits (symbol f cs) z in absurd (free l r a (σ, subst P e (fits_symbol p)))
      step_fits (symbol_kept caps free) (fits_symbol p) (deep s) = fits_symbol (steps_fit caps p s)

      pub steps_fit : {ts : Trees} {cs : HoledTrees} → AreHoledCaps rules fixed ts cs → {us vs : Trees} → EachFits cs us → InsideOne (RootStep (Among rules)) us vs → EachFits cs vs
      steps_fit no_holed fits_none s = elim s [ ]
      steps_fit (one_holed cap caps) (fits_more p ps) (first s) = fits_more (step_fits cap p s) ps
      steps_fit (one_holed cap caps) (fits_more p ps) (later s) = fits_more p (steps_fit caps ps s)

    -- what a term that fits reaches fits
    pub reached_fits : {t : Tree} {c : HoledTree} → IsHoledCap rules fixed t c → {u v : Tree} → Fits c u → Reaches (Step rules) u v → Fits c v
    reached_fits {c = c} cap {u = u} {v = v} p d = run_keeps (Fits c) (λ x y q s. step_fits cap q s) p (run_of_reaches (Step rules) u v d)

  -- a term has one cap
  module _ (fixed : Bool) where
    mutual
      pub one_cap : {t : Tree} {c d : HoledTree} → IsHoledCap rules fixed t c → IsHoledCap rules fixed t d → c ≡ d
      one_cap (fixed_variable e) (fixed_variable e') = refl
      one_cap (fixed_variable e) (free_variable e') = absurd (true_or_false (sym e ∙ e'))
      one_cap (free_variable e) (fixed_variable e') = absurd (true_or_false (sym e' ∙ e))
      one_cap (free_variable e) (free_variable e') = refl
      one_cap (symbol_kept {f = f} caps free) (symbol_kept caps' free') = ap (symbol f) (same_caps caps caps')
      one_cap (symbol_kept {f = f} caps free) (symbol_opened {l = l} {r = r} caps' rule meets) =
          absurd (free l r rule (subst (λ z. MeetsLeft (symbol f z) l) (sym (same_caps caps caps')) meets))
      one_cap (symbol_opened {f = f} {l = l} {r = r} caps rule meets) (symbol_kept caps' free) =
          absurd (free l r rule (subst (λ z. MeetsLeft (symbol f z) l) (same_caps caps caps') meets))
      one_cap (symbol_opened caps rule meets) (symbol_opened caps' rule' meets') = refl

      pub same_caps : {ts : Trees} {cs ds : HoledTrees} → AreHoledCaps rules fixed ts cs → AreHoledCaps rules fixed ts ds → cs ≡ ds
      same_caps no_holed no_holed = refl
      same_caps (one_holed cap caps) (one_holed cap' caps') = cc (one_cap cap cap', same_caps caps caps')
