-- Sample systems have no fault.
use Rattle.std.proofs.Common.{◌≡◌, ℕ, ◌≤◌, Bool, true, not, List, [], ◌∷◌, length, Some, None, slice_get, refl, ◌∙◌, subst, arith, eq-eqb}
use Rattle.std.specs.List.{AllByRecursion, position}
use Rattle.std.proofs.lemmas.List.{length-replicate}
use Rattle.std.proofs.lemmas.List.Elements.{All-from_recursion, All-get_or}
use Rattle.std.proofs.lemmas.Option.{slice_get_within, get_or_from_slice_get}
use Rattle.trs_defs.specs.System.{RewriteRule, System, IsRule}
use Rattle.trs_core.specs.SystemLimits.{IsShallow}
use Rattle.trs_core.specs.Valid.{IsValid}
use Rattle.names_text.specs.Named.{is_shallow, is_numbered}
use Rattle.names_text.specs.declared.names_fault.NamesFault.{NamesFault}
use Rattle.names_text.specs.declared.names_fault.NamesFault.TheVariants.{Count, BadName, TooDeep, BadNumbering, OutOfMemory}
use Rattle.names_text.specs.NamesFault.{rules_fault, names_fault, FailsBy}
use Rattle.trs_core.proofs.FirstPlaces.{position_next}
use Rattle.sampling.specs.Family.{rules_to, names_to, arities_to, sample}
use Rattle.sampling.specs.FamilyLaws.{length-rules}
use Rattle.sampling.proofs.SampleNames.{good_names, length-names_to}
use Rattle.sampling.proofs.SampleRules.{each_rule, base_is_rule, step_is_rule, HasSmall, base_small, step_small, base_shallow, step_shallow, step_is_shallow, few_nodes}

at_number : (P : RewriteRule → Type 0) (rules : List RewriteRule) → AllByRecursion P rules → (k : ℕ) (r : RewriteRule) → slice_get rules k ≡ Some r → P r
at_number P rules h k r there =
    subst P (get_or_from_slice_get rules k r r there)
    (All-get_or P rules k r (slice_get_within rules k r there) (All-from_recursion P rules h))

pub sample_valid : (n : ℕ) → n ≤ 512 → IsValid (sample n).system
sample_valid n le = record {
  is_system = record {
    each = at_number (IsRule (arities_to n)) (rules_to n)
        (each_rule (IsRule (arities_to n)) n (λ i lt. (base_is_rule n i lt, step_is_rule n i lt)));
  };
  within_limits = record {
    symbols = omega (arith, length-replicate {A = ℕ} n 2);
    rules = omega (arith, length-rules n);
    nodes = omega (arith, few_nodes n);
    shallow = All-from_recursion IsShallow (rules_to n) (each_rule IsShallow n (λ i lt. (base_shallow i, step_shallow i)));
  };
  small_variables = All-from_recursion HasSmall (rules_to n) (each_rule HasSmall n (λ i lt. (base_small i, step_small i)));
}

-- ---- names

none_found : (p : RewriteRule → Bool) (rules : List RewriteRule) → AllByRecursion (λ r. p r ≡ true) rules → position (λ r. not (p r)) rules ≡ None
none_found p [] h = refl
none_found p (r ∷ rules) h = position_next (λ x. not (p x)) r rules ∙ rw (h.0, none_found p rules h.1) refl

no_rules_fault : (n : ℕ) → rules_fault (rules_to n) ≡ None
no_rules_fault n =
    rw (
      none_found is_shallow (rules_to n) (each_rule (λ r. is_shallow r ≡ true) n (λ i lt. (refl, step_is_shallow i))),
      none_found is_numbered (rules_to n) (each_rule (λ r. is_numbered r ≡ true) n (λ i lt. (refl, refl))),
    ) refl

no_fault : (n : ℕ) → n ≤ 512 → names_fault (sample n).names (sample n).system ≡ None
no_fault n le =
    let counts : length (names_to n) ≡ length (arities_to n) = omega (arith, length-names_to n, length-replicate {A = ℕ} n 2) in
    rw (eq-eqb (length (names_to n)) (length (arities_to n)) counts, good_names n (omega arith), no_rules_fault n) refl

memory_alone : (e : NamesFault) → FailsBy e None → e ≡ OutOfMemory
memory_alone Count h = absurd cc
memory_alone (BadName f) h = absurd cc
memory_alone (TooDeep i) h = absurd cc
memory_alone (BadNumbering i) h = absurd cc
memory_alone OutOfMemory h = refl

-- what is said of the names of a sample is want of memory
pub only_memory : (n : ℕ) (names : List (List ℕ)) (s : System) (e : NamesFault) → n ≤ 512 → names ≡ names_to n → s ≡ (sample n).system
    → FailsBy e (names_fault names s) → e ≡ OutOfMemory
only_memory n names s e le same_names same_system h =
    let none : names_fault names s ≡ None = rw (same_names, same_system) (no_fault n le) in
    memory_alone e (rw none at h)
