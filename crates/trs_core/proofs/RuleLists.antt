-- The rules that were checked so far, and the first fault of a system.
use Rattle.std.proofs.Common.{◌≡◌, ◌≢◌, ℕ, ◌+◌, ◌*◌, ◌<◌, ◌≤◌, inl, inr, List, length, get_or, Some, slice_get, refl, subst, arith}
use Rattle.std.proofs.lemmas.Bool.{cases_lt}
use Rattle.std.proofs.lemmas.List.Elements.{All-from_get_or, All-get_or}
use Rattle.std.proofs.lemmas.Option.{slice_get_read, slice_get_within, slice_get-get_or, get_or_from_slice_get}
use Rattle.trs_defs.specs.Tree.{var}
use Rattle.trs_defs.specs.System.{RewriteRule, System, IsRule}
use Rattle.trs_core.specs.SystemLimits.{IsWithinLimits, HasSmallVariables}
use Rattle.trs_core.specs.RuleChecks.{IsFaultless, IsFirstRuleFault}
use Rattle.trs_core.specs.Faults.{HasSystemFault, IsRuleFault, IsFirstFault, test_number}
use Rattle.trs_core.specs.Valid.{system, IsValid}
use Rattle.trs_core.specs.declared.faults.TrsFault.{TrsFault}
use Rattle.trs_core.specs.declared.faults.TrsFault.TheVariants.{LeftIsVariable, ExtraVariable, WrongArity, BadVariable, TooMany, OutOfMemory}
use Rattle.trs_core.proofs.Unknown.{all_known, is_extra}

-- the rules before number i have no fault
abbrev pub AreFaultless : List ℕ → List RewriteRule → ℕ → Type 0
AreFaultless arities rules i = (k : ℕ) (r : RewriteRule) → k < i → slice_get rules k ≡ Some r → IsFaultless arities r

pub more_rules : (arities : List ℕ) (rules : List RewriteRule) (i : ℕ) (r : RewriteRule) → AreFaultless arities rules i
    → i < length rules → r ≡ get_or rules i r → IsFaultless arities r → AreFaultless arities rules (i + 1)
more_rules arities rules i r before h read valid k q below there =
    elim (cases_lt k i) as (λ _. IsFaultless arities q) [
      | inl less ↦ before k q less there
      | inr more ↦
          let here : slice_get rules i ≡ Some r = slice_get_read rules (length rules) i r refl h read in
          let same : k ≡ i = omega arith in
          let equal : r ≡ q = cc in
          rw (← equal) valid
    ]

is_rule : (arities : List ℕ) (r : RewriteRule) → IsFaultless arities r → IsRule arities r
is_rule arities r h = record {
  left_well_formed = h.left_well_formed;
  right_well_formed = h.right_well_formed;
  left_no_variable = h.left_no_variable;
  variables = λ v is. all_known r.left r.right v h.no_extra is;
}

pub all_rules : (arities : List ℕ) (rules : List RewriteRule) (i : ℕ) → AreFaultless arities rules i → length rules ≤ i
    → IsWithinLimits (system arities rules) → IsValid (system arities rules)
all_rules arities rules i before h limits = record {
  is_system = record { each = λ k r there. let inside = slice_get_within rules k r there in is_rule arities r (before k r (omega arith) there) };
  within_limits = limits;
  small_variables = All-from_get_or (λ r. HasSmallVariables r.left × HasSmallVariables r.right) rules (record { left = var 0; right = var 0 })
      (λ k inside.
      let none : RewriteRule = record { left = var 0; right = var 0 } in
      let one = before k (get_or rules k none) (omega arith) (slice_get-get_or rules k none inside) in
      (one.left_small, one.right_small));
}

-- a rule without a fault has none
no_rule_fault : (arities : List ℕ) (r : RewriteRule) (fault : TrsFault) → IsFaultless arities r → IsRuleFault arities r fault → ⊥
no_rule_fault arities r (LeftIsVariable i) h is = h.left_no_variable is
no_rule_fault arities r (ExtraVariable i v) h is = let none = h.no_extra in absurd cc
no_rule_fault arities r (WrongArity i) h is = is h.left_well_formed h.right_well_formed
no_rule_fault arities r (BadVariable i) h is = is h.left_small h.right_small
no_rule_fault arities r TooMany h is = is
no_rule_fault arities r OutOfMemory h is = is

no_fault_at : (arities : List ℕ) (rules : List RewriteRule) (i : ℕ) → AreFaultless arities rules i → length rules ≤ i
    → (k : ℕ) (fault : TrsFault) → (r : RewriteRule) × (slice_get rules k ≡ Some r) × IsRuleFault arities r fault → ⊥
no_fault_at arities rules i before h k fault (r, there, is) =
    let inside = slice_get_within rules k r there in
    no_rule_fault arities r fault (before k r (omega arith) there) is

-- where every rule was checked the system has no fault
pub no_fault : (arities : List ℕ) (rules : List RewriteRule) (i : ℕ) → AreFaultless arities rules i → length rules ≤ i
    → IsWithinLimits (system arities rules) → (fault : TrsFault) → HasSystemFault (system arities rules) fault → ⊥
no_fault arities rules i before h limits (LeftIsVariable k) is = no_fault_at arities rules i before h k (LeftIsVariable k) is
no_fault arities rules i before h limits (ExtraVariable k v) is = no_fault_at arities rules i before h k (ExtraVariable k v) is
no_fault arities rules i before h limits (WrongArity k) is = no_fault_at arities rules i before h k (WrongArity k) is
no_fault arities rules i before h limits (BadVariable k) is = no_fault_at arities rules i before h k (BadVariable k) is
no_fault arities rules i before h limits TooMany is = is limits
no_fault arities rules i before h limits OutOfMemory is = is

-- the place of a fault among those of its rule
abbrev level : TrsFault → ℕ
level (LeftIsVariable i) = 1
level (ExtraVariable i v) = 2
level (WrongArity i) = 3
level (BadVariable i) = 4
level TooMany = 1
level OutOfMemory = 1

-- no fault of rule number i comes before place j in it
abbrev NoneBelow : List ℕ → RewriteRule → ℕ → Type 0
NoneBelow arities r j = (other : TrsFault) → IsRuleFault arities r other → j ≤ level other

level_positive : (fault : TrsFault) → 1 ≤ level fault
level_positive (LeftIsVariable i) = omega arith
level_positive (ExtraVariable i v) = omega arith
level_positive (WrongArity i) = omega arith
level_positive (BadVariable i) = omega arith
level_positive TooMany = omega arith
level_positive OutOfMemory = omega arith

comes_later : (arities : List ℕ) (rules : List RewriteRule) (i j : ℕ) (r : RewriteRule) → AreFaultless arities rules i
    → slice_get rules i ≡ Some r → j ≤ 4 → NoneBelow arities r j → (k : ℕ) (other : TrsFault)
    → (q : RewriteRule) × (slice_get rules k ≡ Some q) × IsRuleFault arities q other → 4 * i + j ≤ 4 * k + level other
comes_later arities rules i j r before here small none k other (q, there, is) =
    elim (cases_lt k i) as (λ _. 4 * i + j ≤ 4 * k + level other) [
      | inl less ↦ absurd (no_rule_fault arities q other (before k q less there) is)
      | inr more ↦ elim (cases_lt i k) as (λ _. 4 * i + j ≤ 4 * k + level other) [
        | inl less ↦ omega (arith, level_positive other)
        | inr same ↦
            let equal : k ≡ i = omega arith in
            let one : q ≡ r = cc in
            omega (arith, none other (subst (λ x. IsRuleFault arities x other) one is))
      ]
    ]

first_of_rules : (arities : List ℕ) (rules : List RewriteRule) (i j : ℕ) (r : RewriteRule) → AreFaultless arities rules i
    → slice_get rules i ≡ Some r → IsWithinLimits (system arities rules) → j ≤ 4 → NoneBelow arities r j
    → (other : TrsFault) → HasSystemFault (system arities rules) other → 4 * i + j ≤ test_number other
first_of_rules arities rules i j r before here limits small none (LeftIsVariable k) is = comes_later arities rules i j r before here small none k (LeftIsVariable k) is
first_of_rules arities rules i j r before here limits small none (ExtraVariable k v) is = comes_later arities rules i j r before here small none k (ExtraVariable k v) is
first_of_rules arities rules i j r before here limits small none (WrongArity k) is = comes_later arities rules i j r before here small none k (WrongArity k) is
first_of_rules arities rules i j r before here limits small none (BadVariable k) is = comes_later arities rules i j r before here small none k (BadVariable k) is
first_of_rules arities rules i j r before here limits small none TooMany is = absurd (is limits)
first_of_rules arities rules i j r before here limits small none OutOfMemory is = absurd is

none_below_extra : (arities : List ℕ) (r : RewriteRule) (i : ℕ) → (IsRuleFault arities r (LeftIsVariable i) → ⊥) → NoneBelow arities r 2
none_below_extra arities r i a (LeftIsVariable k) is = absurd (a is)
none_below_extra arities r i a (ExtraVariable k v) is = omega arith
none_below_extra arities r i a (WrongArity k) is = omega arith
none_below_extra arities r i a (BadVariable k) is = omega arith
none_below_extra arities r i a TooMany is = absurd is
none_below_extra arities r i a OutOfMemory is = absurd is

none_below_arity : (arities : List ℕ) (r : RewriteRule) (i : ℕ) → (IsRuleFault arities r (LeftIsVariable i) → ⊥)
    → ((v : ℕ) → IsRuleFault arities r (ExtraVariable i v) → ⊥) → NoneBelow arities r 3
none_below_arity arities r i a b (LeftIsVariable k) is = absurd (a is)
none_below_arity arities r i a b (ExtraVariable k v) is = absurd (b v is)
none_below_arity arities r i a b (WrongArity k) is = omega arith
none_below_arity arities r i a b (BadVariable k) is = omega arith
none_below_arity arities r i a b TooMany is = absurd is
none_below_arity arities r i a b OutOfMemory is = absurd is

none_below_number : (arities : List ℕ) (r : RewriteRule) (i : ℕ) → (IsRuleFault arities r (LeftIsVariable i) → ⊥)
    → ((v : ℕ) → IsRuleFault arities r (ExtraVariable i v) → ⊥) → (IsRuleFault arities r (WrongArity i) → ⊥) → NoneBelow arities r 4
none_below_number arities r i a b c (LeftIsVariable k) is = absurd (a is)
none_below_number arities r i a b c (ExtraVariable k v) is = absurd (b v is)
none_below_number arities r i a b c (WrongArity k) is = absurd (c is)
none_below_number arities r i a b c (BadVariable k) is = omega arith
none_below_number arities r i a b c TooMany is = absurd is
none_below_number arities r i a b c OutOfMemory is = absurd is

at_rule : (arities : List ℕ) (rules : List RewriteRule) (i : ℕ) (r : RewriteRule) → AreFaultless arities rules i
    → slice_get rules i ≡ Some r → IsWithinLimits (system arities rules) → (fault : TrsFault) → IsFirstRuleFault arities r i fault
    → fault ≢ OutOfMemory → IsFirstFault (system arities rules) fault
at_rule arities rules i r before here limits (LeftIsVariable k) (same, is) some = rw same (record {
  holds = (r, here, is);
  first = first_of_rules arities rules i 1 r before here limits (omega arith) (λ other _. level_positive other);
})
at_rule arities rules i r before here limits (ExtraVariable k v) (same, a, is) some = rw same (record {
  holds = (r, here, is);
  first = first_of_rules arities rules i 2 r before here limits (omega arith) (none_below_extra arities r i a);
})
at_rule arities rules i r before here limits (WrongArity k) (same, a, b, is) some = rw same (record {
  holds = (r, here, is);
  first = first_of_rules arities rules i 3 r before here limits (omega arith) (none_below_arity arities r i a (λ v e. absurd cc));
})
at_rule arities rules i r before here limits (BadVariable k) (same, a, b, c, d, is) some = rw same (record {
  holds = (r, here, is);
  first = first_of_rules arities rules i 4 r before here limits (omega arith) (none_below_number arities r i a (λ v e. absurd cc) (λ e. e c d));
})
at_rule arities rules i r before here limits TooMany is some = absurd is
at_rule arities rules i r before here limits OutOfMemory is some = absurd (some refl)

pub first_fault : (arities : List ℕ) (rules : List RewriteRule) (i : ℕ) (r : RewriteRule) → AreFaultless arities rules i
    → i < length rules → r ≡ get_or rules i r → IsWithinLimits (system arities rules) → (fault : TrsFault)
    → IsFirstRuleFault arities r i fault → fault ≢ OutOfMemory → IsFirstFault (system arities rules) fault
first_fault arities rules i r before h read limits fault is some =
    at_rule arities rules i r before (slice_get_read rules (length rules) i r refl h read) limits fault is some

pub valid_no_fault : (s : System) → IsValid s → (fault : TrsFault) → HasSystemFault s fault → ⊥
valid_no_fault s h (LeftIsVariable k) (r, there, is) = (h.is_system.each k r there).left_no_variable is
valid_no_fault s h (ExtraVariable k v) (r, there, is) =
    let extra = is_extra r.left r.right v is in
    let known = (h.is_system.each k r there).variables v extra.0 in
    absurd cc
valid_no_fault s h (WrongArity k) (r, there, is) =
    let one = h.is_system.each k r there in
    is one.left_well_formed one.right_well_formed
valid_no_fault s h (BadVariable k) (r, there, is) =
    let inside = slice_get_within s.rules k r there in
    let one : HasSmallVariables r.left × HasSmallVariables r.right = subst (λ q. HasSmallVariables q.left × HasSmallVariables q.right)
    (get_or_from_slice_get s.rules k r r there)
    (All-get_or (λ q. HasSmallVariables q.left × HasSmallVariables q.right) s.rules k r inside h.small_variables) in
    is one.0 one.1
valid_no_fault s h TooMany is = is h.within_limits
valid_no_fault s h OutOfMemory is = is

-- what is said of a valid system is want of memory
pub only_memory : (s : System) → IsValid s → (fault : TrsFault) → (fault ≢ OutOfMemory → IsFirstFault s fault) → fault ≡ OutOfMemory
only_memory s h (LeftIsVariable k) is = absurd (valid_no_fault s h (LeftIsVariable k) (is (λ e. absurd cc)).holds)
only_memory s h (ExtraVariable k v) is = absurd (valid_no_fault s h (ExtraVariable k v) (is (λ e. absurd cc)).holds)
only_memory s h (WrongArity k) is = absurd (valid_no_fault s h (WrongArity k) (is (λ e. absurd cc)).holds)
only_memory s h (BadVariable k) is = absurd (valid_no_fault s h (BadVariable k) (is (λ e. absurd cc)).holds)
only_memory s h TooMany is = absurd (valid_no_fault s h TooMany (is (λ e. absurd cc)).holds)
only_memory s h OutOfMemory is = refl
