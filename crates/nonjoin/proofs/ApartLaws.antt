-- Terms that are apart by their caps are not joinable.
use Rattle.std.proofs.Common.{◌↔◌, ℕ, ◌<◌, max, Bool, true, IsTrue, List, inl, inr, sym, ◌∙◌, subst, arith}
use Rattle.std.proofs.lemmas.Bool.{or_left, or_right, or_cases}
use Rattle.trs_defs.specs.Tree.{Tree}
use Rattle.trs_defs.specs.Variable.{has_var}
use Rattle.trs_defs.specs.System.{RewriteRule, System, IsSystem}
use Rattle.trs_defs.specs.Step.{Step}
use Rattle.trs_defs.specs.Derivation.{Reaches}
use Rattle.trs_defs.specs.Joinable.{IsJoinable}
use Rattle.trs_defs.specs.Substitution.{apply}
use Rattle.trs_caps.specs.Caps.{Leaves, IsCapWith}
use Rattle.trs_caps.specs.HoledTree.{HoledTree, Fits}
use Rattle.trs_caps.specs.HoledCap.{IsHoledCap}
use Rattle.trs_caps.specs.Clash.{AreDisjoint}
use Rattle.trs_caps.proofs.Fitting.{HaveSymbols, system_symbols, term_fits, reached_fits, one_cap}
use Rattle.trs_caps.proofs.Numbering.{Agrees, IsFixedInstance, are_own, holed_cap, fits_instance, instance_fits, numbering, numbered_cap}
use Rattle.trs_caps.proofs.CapLaws.{variable_bound, below_bound}
use Rattle.nonjoin.specs.Apart.{in_either, AreApart}

first_agrees : (a b : Tree) → Agrees (in_either a b) true a
first_agrees a b v h = or_left (has_var v a) (has_var v b) h

second_agrees : (a b : Tree) → Agrees (in_either a b) true b
second_agrees a b v h = or_right (has_var v a) (has_var v b) h

module _ (rules : List RewriteRule) (symbols : HaveSymbols rules) where
  -- what a term reaches is an instance of its cap that leaves the variables
  reached_instance : (own : ℕ → Bool) (t c v : Tree) → Agrees own true t → IsCapWith rules own t c → Reaches (Step rules) t v → IsFixedInstance own c v
  reached_instance own t c v agrees (m, cap) reached =
      let (k, is_cap, numbered) = holed_cap own rules true cap agrees in
      fits_instance own numbered (are_own own rules true is_cap agrees) v (reached_fits rules symbols true is_cap (term_fits rules true is_cap) reached)

  pub apart_not_joinable : (a b : Tree) → AreApart rules a b → IsJoinable (Step rules) a b → ⊥
  apart_not_joinable a b h (v, from_a, from_b) =
      let (σ, leaves, e) = reached_instance (in_either a b) a h.first v (first_agrees a b) h.first_cap from_a in
      let (τ, leaves', e') = reached_instance (in_either a b) b h.second v (second_agrees a b) h.second_cap from_b in
      h.apart (σ, τ, leaves, leaves', e ∙ sym e')

pub system_apart : (system : System) (a b : Tree) → IsSystem system → AreApart system.rules a b → IsJoinable (Step system.rules) a b → ⊥
system_apart system a b valid = apart_not_joinable system.rules (system_symbols system valid) a b

own_below : (a b : Tree) (v : ℕ) → IsTrue (in_either a b v) → v < max (variable_bound a) (variable_bound b)
own_below a b v h = elim (or_cases (has_var v a) (has_var v b) h) as (λ _. v < max (variable_bound a) (variable_bound b)) [
  | inl k ↦ omega (arith, below_bound a v k)
  | inr k ↦ omega (arith, below_bound b v k)
]

-- a cap with holes as a term, whose instances are what fits the cap
record IsNamed (rules : List RewriteRule) (own : ℕ → Bool) (t : Tree) (k : HoledTree) (c : Tree) : Type 0 where
  pub cap : IsCapWith rules own t c
  pub fits : (σ : ℕ → Tree) → Leaves own σ → Fits k (apply σ c)

named : (rules : List RewriteRule) (own : ℕ → Bool) (bound : ℕ) → ((v : ℕ) → IsTrue (own v) → v < bound) → (t : Tree) (k : HoledTree) → Agrees own true t → IsHoledCap rules true t k
    → (c : Tree) × IsNamed rules own t k c
named rules own bound low t k agrees is =
    let (c, m, numbered) = numbering own bound low k 0 in (
      c,
      record {
        cap = (m, numbered_cap own rules true bound low is agrees numbered);
        fits = λ σ leaves. instance_fits own numbered (are_own own rules true is agrees) σ leaves;
      },
    )

cap_instance : (rules : List RewriteRule) (own : ℕ → Bool) (t c : Tree) (k : HoledTree) (u : Tree) → Agrees own true t → IsCapWith rules own t c → IsHoledCap rules true t k → Fits k u → IsFixedInstance own c u
cap_instance rules own t c k u agrees (m, cap) is fits =
    let (l, is_too, numbered) = holed_cap own rules true cap agrees in
    fits_instance own numbered (are_own own rules true is_too agrees) u (subst (λ z. Fits z u) (one_cap rules true is is_too) fits)

module _ (rules : List RewriteRule) (a b : Tree) (k l : HoledTree) (first : IsHoledCap rules true a k) (second : IsHoledCap rules true b l) where
  disjoint_apart : AreDisjoint k l → AreApart rules a b
  disjoint_apart disjoint =
      let own : ℕ → Bool = in_either a b in
      let (c, is_c) = named rules own (max (variable_bound a) (variable_bound b)) (own_below a b) a k (first_agrees a b) first in
      let (d, is_d) = named rules own (max (variable_bound a) (variable_bound b)) (own_below a b) b l (second_agrees a b) second in
      record {
        first = c;
        second = d;
        first_cap = is_c.cap;
        second_cap = is_d.cap;
        apart = λ (σ, τ, leaves, leaves', e). disjoint (apply σ c) (is_c.fits σ leaves) (subst (λ z. Fits l z) (sym e) (is_d.fits τ leaves'));
      }

  apart_disjoint : AreApart rules a b → AreDisjoint k l
  apart_disjoint h u p q =
      let (σ, leaves, e) = cap_instance rules (in_either a b) a h.first k u (first_agrees a b) h.first_cap first p in
      let (τ, leaves', e') = cap_instance rules (in_either a b) b h.second l u (second_agrees a b) h.second_cap second q in
      h.apart (σ, τ, leaves, leaves', e ∙ sym e')

  pub apart_where_disjoint : (yes_apart : Bool) → IsTrue yes_apart ↔ AreDisjoint k l → IsTrue yes_apart ↔ AreApart rules a b
  apart_where_disjoint yes_apart h = (λ e. disjoint_apart (h.0 e), λ r. h.1 (apart_disjoint r))
