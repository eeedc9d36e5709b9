-- What the caps of the code promise.
use Rattle.std.proofs.Common.{◌≡◌, ℕ, ◌<◌, Bool, true, false, IsTrue, List, max, inl, inr, Result, Ok, Err, IfOk, refl, ◌∙◌, subst, suc, arith}
use Rattle.trs_defs.specs.Tree.{Tree, Trees, var, app, nil, cons}
use Rattle.trs_defs.specs.Variable.{has_var, some_has_var}
use Rattle.trs_defs.specs.Substitution.{apply, IsInstance}
use Rattle.trs_defs.specs.System.{RewriteRule, System, IsSystem}
use Rattle.trs_defs.specs.Step.{Step}
use Rattle.trs_defs.specs.Derivation.{Reaches}
use Rattle.trs_defs.proofs.VariableLaws.{has_var_same, has_var_cons}
use Rattle.trs_core.specs.declared.terms.Term.{Term}
use Rattle.trs_core.specs.View.{tree}
use Rattle.trs_caps.specs.Caps.{own_variables, IsCapOf}
use Rattle.trs_caps.specs.HoledTree.{HoledTree, Fits}
use Rattle.trs_caps.specs.HoledCap.{IsHoledCap}
use Rattle.trs_caps.specs.Numbered.{IsNumbered}
use Rattle.trs_caps.specs.declared.holed.Cap.{Cap}
use Rattle.trs_caps.specs.View.{holed}
use Rattle.trs_caps.proofs.Fitting.{system_symbols, term_fits, instance_fits, reached_fits}
use Rattle.trs_caps.proofs.Numbering.{Agrees, are_own, numbered_cap, fits_instance}

-- more than each variable
abbrev mutual
  pub variable_bound : Tree → ℕ
  variable_bound (var v) = suc v
  variable_bound (app f ts) = variable_bound_of_all ts

  pub variable_bound_of_all : Trees → ℕ
  variable_bound_of_all nil = 0
  variable_bound_of_all (cons t ts) = max (variable_bound t) (variable_bound_of_all ts)

mutual
  pub below_bound : (t : Tree) (v : ℕ) → IsTrue (has_var v t) → v < variable_bound t
  below_bound (var n) v h = omega (arith, has_var_same v n h)
  below_bound (app f ts) v h = all_below_bound ts v h

  all_below_bound : (ts : Trees) (v : ℕ) → IsTrue (some_has_var v ts) → v < variable_bound_of_all ts
  all_below_bound nil v h = absurd cc
  all_below_bound (cons t ts) v h = elim (has_var_cons v t ts h) as (λ _. v < max (variable_bound t) (variable_bound_of_all ts)) [
    | inl k ↦ omega (arith, below_bound t v k)
    | inr k ↦ omega (arith, all_below_bound ts v k)
  ]

own_agrees : (fixed : Bool) (t : Tree) → Agrees (own_variables fixed t) fixed t
own_agrees true t v h = h
own_agrees false t v h = refl

own_below : (fixed : Bool) (t : Tree) (v : ℕ) → IsTrue (own_variables fixed t v) → v < variable_bound t
own_below true t v h = below_bound t v h
own_below false t v h = absurd cc

pub term_reaches : {E : Type 0} (system : System) (valid : IsSystem system) (fixed : Bool) (t : Tree) (result : Result Cap E) → IfOk result (λ c. IsHoledCap system.rules fixed t (holed c))
    → IfOk result (λ c. (v : Tree) → Reaches (Step system.rules) t v → Fits (holed c) v)
term_reaches system valid fixed t (Ok c) cap = λ v reached. reached_fits system.rules (system_symbols system valid) fixed cap (term_fits system.rules fixed cap) reached
term_reaches system valid fixed t (Err e) cap = cap

instances_of : (system : System) (valid : IsSystem system) (fixed : Bool) (t : Tree) (c : HoledTree) → IsHoledCap system.rules fixed t c
    → fixed ≡ false → (σ : ℕ → Tree) (v : Tree) → Reaches (Step system.rules) (apply σ t) v → Fits c v
instances_of system valid fixed t c cap free σ v reached =
    let here : IsHoledCap system.rules false t c = subst (λ z. IsHoledCap system.rules z t c) free cap in
    reached_fits system.rules (system_symbols system valid) false here (instance_fits system.rules σ here) reached

pub instances_reach : {E : Type 0} (system : System) (valid : IsSystem system) (fixed : Bool) (t : Tree) (result : Result Cap E) → IfOk result (λ c. IsHoledCap system.rules fixed t (holed c))
    → IfOk result (λ c. fixed ≡ false → (σ : ℕ → Tree) (v : Tree) → Reaches (Step system.rules) (apply σ t) v → Fits (holed c) v)
instances_reach system valid fixed t (Ok c) cap = instances_of system valid fixed t (holed c) cap
instances_reach system valid fixed t (Err e) cap = cap

module _ (rules : List RewriteRule) (fixed : Bool) (t : Tree) (k : HoledTree) (cap : IsHoledCap rules fixed t k) where
  pub number_is_cap : (c : Tree) (m : ℕ) → IsNumbered (own_variables fixed t) 0 k c m → IsCapOf rules fixed t c
  number_is_cap c m numbered = (m, numbered_cap (own_variables fixed t) rules fixed (variable_bound t) (own_below fixed t) cap (own_agrees fixed t) numbered)

  pub number_reached : (c : Tree) (m : ℕ) → IsNumbered (own_variables fixed t) 0 k c m → (v : Tree) → Fits k v → IsInstance c v
  number_reached c m numbered v fits =
      let (σ, leaves, e) = fits_instance (own_variables fixed t) numbered (are_own (own_variables fixed t) rules fixed cap (own_agrees fixed t)) v fits in (σ, e)

  pub number_stays : (c : Tree) (m : ℕ) → IsNumbered (own_variables fixed t) 0 k c m → fixed ≡ true → (v : Tree) → Fits k v
      → (σ : ℕ → Tree) × ((x : ℕ) → IsTrue (has_var x t) → σ x ≡ var x) × (apply σ c ≡ v)
  number_stays c m numbered is v fits =
      let (σ, leaves, e) = fits_instance (own_variables fixed t) numbered (are_own (own_variables fixed t) rules fixed cap (own_agrees fixed t)) v fits in
      (σ, λ x h. leaves x (own_agrees fixed t x h ∙ is), e)

  -- the answer is numbered by any test that decides the own variables
  abbrev pub Numbers : {E : Type 0} → (ℕ → Bool) → Result Term E → ℕ → Type 0
  Numbers own result m = IfOk result (λ u. (is_own : ℕ → Bool) → ((v : ℕ) → own v ≡ is_own v) → IsNumbered is_own 0 k (tree u) m)

  module _ {E : Type 0} (own : ℕ → Bool) (owns : (v : ℕ) → own v ≡ own_variables fixed t v) (m : ℕ) where
    pub all_are_caps : (result : Result Term E) → Numbers own result m → IfOk result (λ c. IsCapOf rules fixed t (tree c))
    all_are_caps (Ok c) h = number_is_cap (tree c) m (h (own_variables fixed t) owns)
    all_are_caps (Err e) h = h

    pub all_reached : (result : Result Term E) → Numbers own result m → (fixed ≡ false → (σ : ℕ → Tree) (v : Tree) → Reaches (Step rules) (apply σ t) v → Fits k v)
        → IfOk result (λ c. fixed ≡ false → (σ : ℕ → Tree) (v : Tree) → Reaches (Step rules) (apply σ t) v → IsInstance (tree c) v)
    all_reached (Ok c) h fits = λ free σ v r. number_reached (tree c) m (h (own_variables fixed t) owns) v (fits free σ v r)
    all_reached (Err e) h fits = h

    pub all_stay : (result : Result Term E) → Numbers own result m → ((v : Tree) → Reaches (Step rules) t v → Fits k v)
        → IfOk result (λ c. fixed ≡ true → (v : Tree) → Reaches (Step rules) t v → (σ : ℕ → Tree) × ((x : ℕ) → IsTrue (has_var x t) → σ x ≡ var x) × (apply σ (tree c) ≡ v))
    all_stay (Ok c) h fits = λ is v r. number_stays (tree c) m (h (own_variables fixed t) owns) is v (fits v r)
    all_stay (Err e) h fits = h
