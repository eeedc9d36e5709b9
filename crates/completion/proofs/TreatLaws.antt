-- What becomes of a pair, from what became of its two normal forms; and the units that are left.
use Rattle.std.proofs.Common.{◌≡◌, ◌≢◌, ◌<◌, ◌≤◌, ℕ, zero, suc, sym, subst, arith, List, Result, Ok, Err, IfOk}
use Rattle.trs_defs.specs.Tree.{Tree}
use Rattle.trs_defs.specs.System.{RewriteRule, System}
use Rattle.trs_core.specs.declared.memory.OutOfMemory.{OutOfMemory}
use Rattle.completion.specs.declared.unfinished.Unfinished.{Unfinished}
use Rattle.completion.specs.declared.endings.Completion.{Completion}
use Rattle.completion.specs.declared.treating.Outcome.{Outcome as CodeOutcome}
use Rattle.completion.specs.declared.treating.Outcome.TheVariants as outcome
use Rattle.completion.specs.Normalizing.{Normalizes, to_normal_form}
use Rattle.completion.specs.Orienting.{IsOriented, Fits}
use Rattle.completion.specs.Endings.{Ending, Done, Unorientable, Spent, Limit}
use Rattle.completion.specs.CompletionRun.{ending_of, Outcome, Passed, Added, Ended, Treats, left_stops, right_stops, equal_forms, no_order, no_unit, new_rule, no_room, Finds, passed_over, found_rule}
use Rattle.completion.specs.Answers.{plain_ending}
use Rattle.completion.specs.Treating.{pair_of, IsOutcome, IsCompared, IsComparedEnding}

module _ (greater : Tree → Tree → Type 0) (system : System) (units : ℕ) (left right : Tree) where
  abbrev Treated : Outcome → Type 0
  Treated = Treats system.arities greater system.rules units (pair_of left right)

  pub left_ended : (why : Unfinished) (c : Completion) → plain_ending c ≡ ending_of why → Normalizes system.rules units left (Err why) → IsOutcome Treated (outcome.Ended c)
  left_ended why c e n = let P : Ending → Type 0 = λ x. Treated (Ended x) in subst P (sym e) (left_stops why n)

  module _ (s : Tree) (m : ℕ) (left_form : Normalizes system.rules units left (Ok (s, m))) where
    pub right_ended : (why : Unfinished) (c : Completion) → plain_ending c ≡ ending_of why → Normalizes system.rules m right (Err why) → IsOutcome Treated (outcome.Ended c)
    right_ended why c e n = let P : Ending → Type 0 = λ x. Treated (Ended x) in subst P (sym e) (right_stops s m why left_form n)

    form_at : (t : Tree) (n k : ℕ) → n ≡ k → Normalizes system.rules m right (Ok (t, n)) → Normalizes system.rules m right (Ok (t, k))
    form_at t n k e h = let P : ℕ → Type 0 = λ x. Normalizes system.rules m right (Ok (t, x)) in subst P e h

    no_room_case : (t : Tree) (n : ℕ) → Normalizes system.rules m right (Ok (t, n)) → s ≢ t → 0 < n
        → (r : RewriteRule) → IsOriented greater s t r → (Fits system.arities system.rules r → ⊥) → Treated (Ended Limit)
    no_room_case t zero h differ l r o none = absurd (omega (arith, l))
    no_room_case t (suc n) h differ l r o none = no_room s t m n r left_form h differ o none

    ended_case : (t : Tree) (n : ℕ) → Normalizes system.rules m right (Ok (t, n)) → s ≢ t → (why : Ending) → IsComparedEnding greater system n s t why → Treated (Ended why)
    ended_case t n h differ (Done rules) c = absurd c
    ended_case t n h differ (Unorientable u v) c = no_order s t u v m n left_form h differ c
    ended_case t n h differ Spent c = no_unit s t m left_form (form_at t n 0 c.0 h) differ c.1
    ended_case t n h differ Limit c = no_room_case t n h differ c.0 c.1.0 c.1.1 c.1.2

    pub treated : (t : Tree) (n : ℕ) → Normalizes system.rules m right (Ok (t, n)) → (made : CodeOutcome) → IsCompared greater system n s t made → IsOutcome Treated made
    treated t n h (outcome.Passed k) c =
        let P : Tree → Type 0 = λ x. Normalizes system.rules m right (Ok (x, n)) in
        let Q : ℕ → Type 0 = λ x. Treated (Passed x) in
        subst Q (sym c.1) (equal_forms s m n left_form (subst P (sym c.0) h))
    treated t n h (outcome.Added r k) c = new_rule s t m k r left_form (form_at t n (suc k) c.1 h) c.0 c.2 c.3
    treated t n h (outcome.Ended end) c = ended_case t n h c.0 (plain_ending end) c.1

    pub treated_if_ok : (t : Tree) (n : ℕ) → Normalizes system.rules m right (Ok (t, n)) → (answer : Result CodeOutcome OutOfMemory)
        → IfOk answer (IsCompared greater system n s t) → IfOk answer (IsOutcome Treated)
    treated_if_ok t n h (Ok made) c = treated t n h made c
    treated_if_ok t n h (Err e) c = tt

-- a new rule keeps the limits
pub added_fits : {arities : List ℕ} {greater : Tree → Tree → Type 0} {rules : List RewriteRule} {units n : ℕ} {pair r : RewriteRule}
    → Treats arities greater rules units pair (Added r n) → Fits arities rules r
added_fits (new_rule s t m n r a b differ o fits) = fits

-- ---- the units that are left

left_within : {rules : List RewriteRule} {units left : ℕ} {t u : Tree} → Normalizes rules units t (Ok (u, left)) → left ≤ units
left_within {units = units} {left = left} (to_normal_form n rest u l normal sum) = omega (arith, sum)

pub added_fewer : {arities : List ℕ} {greater : Tree → Tree → Type 0} {rules : List RewriteRule} {units n : ℕ} {pair r : RewriteRule}
    → Treats arities greater rules units pair (Added r n) → n < units
added_fewer (new_rule s t m n r a b differ o fits) =
    let first = left_within a in
    let second = left_within b in
    omega (arith, first, second)

pub passed_no_more : {arities : List ℕ} {greater : Tree → Tree → Type 0} {rules : List RewriteRule} {units n : ℕ} {pair : RewriteRule}
    → Treats arities greater rules units pair (Passed n) → n ≤ units
passed_no_more (equal_forms s m n a b) =
    let first = left_within a in
    let second = left_within b in
    omega (arith, first, second)

pub found_fewer : {arities : List ℕ} {greater : Tree → Tree → Type 0} {rules : List RewriteRule} {units n : ℕ} {ps : List RewriteRule} {r : RewriteRule}
    → Finds arities greater rules units ps (Added r n) → n < units
found_fewer (passed_over t rest) =
    let first = passed_no_more t in
    let second = found_fewer rest in
    omega (arith, first, second)
found_fewer (found_rule t) = added_fewer t

pub found_fits : {arities : List ℕ} {greater : Tree → Tree → Type 0} {rules : List RewriteRule} {units n : ℕ} {ps : List RewriteRule} {r : RewriteRule}
    → Finds arities greater rules units ps (Added r n) → Fits arities rules r
found_fits (passed_over t rest) = found_fits rest
found_fits (found_rule t) = added_fits t
