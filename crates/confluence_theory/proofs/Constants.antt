-- Systems of constants, for examples: each rule leads from a constant to a constant.
use Rattle.std.specs.Prelude.{◌≡◌, ◌≢◌, ℕ, List, [], ◌∷◌, Some, slice_get}
use Rattle.std.proofs.Common.{zero, suc, refl, sym, ◌∙◌, ap, subst, arith}
use Rattle.trs_defs.specs.Member.{In, in_first, in_rest}
use Rattle.trs_defs.specs.Tree.{Tree, Trees, var, app, nil}
use Rattle.trs_defs.specs.Substitution.{apply}
use Rattle.trs_defs.specs.System.{RewriteRule, IsRule, IsSystem}
use Rattle.confluence_theory.specs.Linear.{AreLeftLinear, AreRightLinear}
use Rattle.confluence_theory.specs.Overlap.{Overlap, OverlapOne, overlap_here, overlap_deep}
use Rattle.confluence_theory.specs.Peak.{Peak, Covers}
use Rattle.trs_defs.specs.Position.{subterm_at}
use Rattle.confluence_theory.specs.CriticalPeak.{IsCriticalPeak, HasCriticalPeaks}
use Rattle.trs_defs.specs.Step.{here, deep, Step}
use Rattle.confluence_theory.specs.RuleRanks.{NumberedStep}
use Rattle.trs_defs.specs.NormalForm.{IsNormalForm}
use Rattle.trs_defs.proofs.Members.{in_of_get, get_of_in}
use Rattle.confluence_theory.proofs.CriticalCover.{covered}

abbrev pub constant : ℕ → Tree
constant f = app f nil

abbrev pub rewrites : ℕ → ℕ → RewriteRule
rewrites f g = record { left = constant f; right = constant g }

abbrev pub peak_of : ℕ → ℕ → ℕ → ℕ → ℕ → Peak
peak_of i j f g h = record { inner = i; outer = j; top = constant f; left = constant g; right = constant h }

-- four constants
abbrev pub nullary : List ℕ
nullary = 0 ∷ 0 ∷ 0 ∷ 0 ∷ []

-- each rule leads from one of the constants to one
abbrev pub AreConstant : List RewriteRule → Type 0
AreConstant rules =
    (k : ℕ) (r : RewriteRule) → slice_get rules k ≡ Some r
    → (f : ℕ) × (g : ℕ) × (r ≡ rewrites f g) × (slice_get nullary f ≡ Some 0) × (slice_get nullary g ≡ Some 0)

pub constant_rule : (f g : ℕ) → slice_get nullary f ≡ Some 0 → slice_get nullary g ≡ Some 0 → IsRule nullary (rewrites f g)
constant_rule f g e e' =
    record {
      left_well_formed = (e, tt);
      right_well_formed = (e', tt);
      left_no_variable = λ v. absurd (cc v.1);
      variables = λ v h. h;
    }

pub constant_system : (rules : List RewriteRule) → AreConstant rules → IsSystem (record { arities = nullary; rules = rules })
constant_system rules c =
    record { each = λ k r e. let (f, g, same, fs, gs) = c k r e in subst (IsRule nullary) (sym same) (constant_rule f g fs gs) }

pub constant_left : (rules : List RewriteRule) → AreConstant rules → AreLeftLinear rules
constant_left rules h k r e v = let (f, g, same, fs, gs) = h k r e in rw same (omega arith)

pub constant_right : (rules : List RewriteRule) → AreConstant rules → AreRightLinear rules
constant_right rules h k r e v = let (f, g, same, fs, gs) = h k r e in rw same (omega arith)

pub symbols_of : (f g f' g' : ℕ) → Some (rewrites f g) ≡ Some (rewrites f' g') → (f ≡ f') × (g ≡ g')
symbols_of f g f' g' e =
    let a : RewriteRule = rewrites f g in
    let b : RewriteRule = rewrites f' g' in
    let k : a ≡ b = cc e in
    let left : constant f ≡ constant f' = ap (λ z. z.left) k in
    let right : constant g ≡ constant g' = ap (λ z. z.right) k in
    (cc left, cc right)

-- the peaks of rules with one left side
abbrev pub HasConstantPeaks : List RewriteRule → List Peak → Type 0
HasConstantPeaks rules peaks =
    (i j f g h : ℕ) → slice_get rules i ≡ Some (rewrites f g) → slice_get rules j ≡ Some (rewrites f h) → i ≢ j → In (peak_of i j f g h) peaks

pub listed_at : (i j a b c f g h : ℕ) (peaks : List Peak) → Some (rewrites a b) ≡ Some (rewrites f g) → Some (rewrites a c) ≡ Some (rewrites f h)
    → In (peak_of i j a b c) peaks → In (peak_of i j f g h) peaks
listed_at i j a b c f g h peaks e e' is_in =
    let (p, q) = symbols_of a b f g e in
    let (p', q') = symbols_of a c f h e' in
    rw (← p, ← q, ← q') is_in

pub root_only : (f : ℕ) (p : List ℕ) (part : Tree) → subterm_at p (constant f) ≡ Some part → (p ≡ []) × (part ≡ constant f)
root_only f [] part e = (refl, cc e)
root_only f (zero ∷ p) part e = absurd cc
root_only f (suc place ∷ p) part e = absurd cc

pub critical_peak : (i j f g h : ℕ) → IsCriticalPeak (rewrites f g) (rewrites f h) [] (peak_of i j f g h)
critical_peak i j f g h =
    record {
      part = constant f;
      there = refl;
      offset = 0;
      apart = λ v has. absurd cc;
      unifier = λ v. var v;
      most_general = record { unifies = refl; most_general = λ σ e. (σ, λ v. refl) };
      reduct = constant g;
      replaced = refl;
      names = λ v. v;
      different = λ v w h k e. e;
      top = refl;
      left = refl;
      right = refl;
    }

pub critical_peak_at : (i j f g h : ℕ) (inner outer : RewriteRule) (p : List ℕ) → inner ≡ rewrites f g → outer ≡ rewrites f h → p ≡ []
    → IsCriticalPeak inner outer p (peak_of i j f g h)
critical_peak_at i j f g h inner outer p e e' e'' = rw (e, e', e'') (critical_peak i j f g h)

pub constant_critical : (rules : List RewriteRule) (peaks : List Peak) → AreConstant rules → HasConstantPeaks rules peaks → HasCriticalPeaks rules peaks
constant_critical rules peaks c listed i j inner outer p o =
    let (f, g, same, fs, gs) = c i inner o.inner_numbered in
    let (f', g', same', fs', gs') = c j outer o.outer_numbered in
    let there : subterm_at p (constant f') ≡ Some o.part = ap (λ z. subterm_at p z.left) (sym same') ∙ o.there in
    let (at_root, part) = root_only f' p o.part there in
    let to : apply o.inner_instance inner.left ≡ constant f = ap (λ z. apply o.inner_instance z.left) same in
    let from : apply o.outer_instance o.part ≡ constant f' = ap (apply o.outer_instance) part in
    let k : f' ≡ f = cc (from, o.meet, to) in
    let outer_is : outer ≡ rewrites f g' = same' ∙ ap (λ z. rewrites z g') k in (
      peak_of i j f g g',
      listed i j f g g' (o.inner_numbered ∙ ap Some same) (o.outer_numbered ∙ ap Some outer_is) (o.not_itself at_root),
      refl,
      refl,
      critical_peak_at i j f g g' inner outer p same outer_is at_root,
    )

pub constant_covers : (rules : List RewriteRule) (peaks : List Peak) → AreConstant rules → HasConstantPeaks rules peaks → Covers rules peaks
constant_covers rules peaks c listed =
    covered (record { arities = nullary; rules = rules }) peaks (constant_system rules c) (constant_critical rules peaks c listed)

pub each_of_two : (P : Peak → Type 0) (p q : Peak) → P p → P q → (peak : Peak) → In peak (p ∷ q ∷ []) → P peak
each_of_two P p q a b peak in_first = a
each_of_two P p q a b peak (in_rest in_first) = b
each_of_two P p q a b peak (in_rest (in_rest h)) = elim h [ ]

-- rule number k makes this step
pub constant_step : (rules : List RewriteRule) (k f g : ℕ) → slice_get rules k ≡ Some (rewrites f g) → NumberedStep rules k (constant f) (constant g)
constant_step rules k f g e = here (constant f, constant g, λ v. var v, e, refl, refl)

pub constant_reaches : (rules : List RewriteRule) (k f g : ℕ) → slice_get rules k ≡ Some (rewrites f g) → Step rules (constant f) (constant g)
constant_reaches rules k f g e = here (constant f, constant g, λ v. var v, in_of_get rules k (rewrites f g) e, refl, refl)

-- what a constant goes to
pub constant_next : (rules : List RewriteRule) → AreConstant rules → (f : ℕ) (u : Tree) → Step rules (constant f) u
    → (k : ℕ) × (g : ℕ) × (slice_get rules k ≡ Some (rewrites f g)) × (u ≡ constant g)
constant_next rules c f u (here (l, r, σ, h, e, e')) =
    let (k, at) = get_of_in h in
    let (f', g, same, fs, gs) = c k (record { left = l; right = r }) at in
    let to : apply σ l ≡ constant f' = ap (λ z. apply σ z.left) same in
    let f_is : f' ≡ f = cc (e, to) in
    (k, g, at ∙ (ap Some same ∙ ap (λ z. Some (rewrites z g)) f_is), e' ∙ ap (λ z. apply σ z.right) same)
constant_next rules c f u (deep d) = elim d [ ]

pub nullary_arity : (f n : ℕ) → slice_get nullary f ≡ Some n → n ≡ zero
nullary_arity zero n e = cc
nullary_arity (suc zero) n e = cc
nullary_arity (suc (suc zero)) n e = cc
nullary_arity (suc (suc (suc zero))) n e = cc
nullary_arity (suc (suc (suc (suc f)))) n e = absurd cc

pub variable_normal : (rules : List RewriteRule) → AreConstant rules → (v : ℕ) → IsNormalForm (Step rules) (var v)
variable_normal rules c v u (here (l, r, σ, h, e, e')) =
    let (k, at) = get_of_in h in
    let (f, g, same, fs, gs) = c k (record { left = l; right = r }) at in
    let to : apply σ l ≡ constant f = ap (λ z. apply σ z.left) same in
    absurd (cc (e, to))

-- the sides of a rule that is known
pub sides : (rule : RewriteRule) (l r : Tree) → Some rule ≡ Some (record { left = l; right = r }) → (l ≡ rule.left) × (r ≡ rule.right)
sides rule l r e =
    let other : RewriteRule = record { left = l; right = r } in
    let k : other ≡ rule = cc e in
    (ap (λ z. z.left) k, ap (λ z. z.right) k)

-- where instances of two left sides are equal, so are those of the two rules that are known
pub instances_of : (rule rule' : RewriteRule) (l r l' r' : Tree) (σ ρ : ℕ → Tree) → Some rule ≡ Some (record { left = l; right = r })
    → Some rule' ≡ Some (record { left = l'; right = r' }) → apply σ l ≡ apply ρ l' → apply σ rule.left ≡ apply ρ rule'.left
instances_of rule rule' l r l' r' σ ρ h h' e =
    sym (ap (apply σ) (sides rule l r h).0) ∙ (e ∙ ap (apply ρ) (sides rule' l' r' h').0)

-- what holds of the rule of each number holds of each listed rule
pub each_listed : (rules : List RewriteRule) (P : RewriteRule → Type 0) → ((k : ℕ) (r : RewriteRule) → slice_get rules k ≡ Some r → P r)
    → (r : RewriteRule) → In r rules → P r
each_listed rules P each r h = let (k, e) = get_of_in h in each k r e

-- an overlap at a constant is at its root
pub at_constant : (R : Tree → Tree → Type 0) (n : ℕ) (σ : ℕ → Tree) (t : Tree) → Overlap R σ (constant n) t → R (constant n) t
at_constant R n σ t (overlap_here r) = r
at_constant R n σ t (overlap_deep d) = elim d [ ]

pub in_nothing : (R : Tree → Tree → Type 0) (σ : ℕ → Tree) (ts : Trees) → OverlapOne R σ nil ts → ⊥
in_nothing R σ ts d = elim d [ ]
