-- The rules as closures.
use Rattle.std.proofs.Common.{◌≡◌, ℕ, ◌+◌, ◌≤◌, drop, List, [], ◌∷◌, ◌++◌, length, Some, refl, ap, sym, ◌∙◌, subst, zero, suc, arith, slice_get, append-nil, append_assoc, length-append}
use Rattle.std.proofs.lemmas.Option.{same_Some, slice_get_within, get_or_from_slice_get}
use Rattle.trs_defs.specs.Tree.{Tree, var}
use Rattle.trs_defs.specs.System.{RewriteRule, System}
use Rattle.trs_defs.specs.Path.{PlacedRule, Follows}
use Rattle.trs_defs.proofs.ArgumentLists.{cell}
use Rattle.trs_defs.proofs.Limits.{limits_kept}
use Rattle.trs_defs.proofs.ListItems.{kept_item}
use Rattle.trs_defs.proofs.Members.{each_of_both}
use Rattle.trs_defs.proofs.NamedTerms.{unchanged}
use Rattle.trs_core.specs.SystemLimits.{IsWithinLimits}
use Rattle.trs_core.specs.View.{tree}
use Rattle.loop_find.specs.Closures.{Closure, no_attempt, attempts_in, rule_closure, rule_closures, IsClosureList}
use Rattle.loop_find.specs.LoopRow.{LoopsNot, LoopNone, FindsLoop}
use Rattle.loop_find.specs.Tries.{IsFoundOf}
use Rattle.loop_find.specs.declared.found.LoopFound.{LoopFound}
use Rattle.loop_find.proofs.LoopSteps.{rule_nodes, rule_shallow}
use Rattle.loop_find.proofs.Tried.{none_loops, one_loops_not}

abbrev pub root_step : ℕ → List ℕ → PlacedRule
root_step k p = record { place = p; rule = k }

pub root_path : (new old : List PlacedRule) (place : List ℕ) (k : ℕ) → new ≡ old ++ root_step k place ∷ [] → old ≡ [] → place ≡ [] → new ≡ root_step k [] ∷ []
root_path new old place k longer none root = longer ∙ (ap (λ steps. steps ++ root_step k place ∷ []) none ∙ ap (λ p. root_step k p ∷ []) root)

-- the right side of a rule keeps the limits, so its path runs
pub rule_follows : (system : System) → IsWithinLimits system → (k : ℕ) (r : RewriteRule) → slice_get system.rules k ≡ Some r → Follows system.rules (rule_closure k r).path r.left r.right
rule_follows system limits k r at =
    let few = rule_nodes system limits k r at in
    let low = rule_shallow system.rules limits.shallow k r at in (
      r.right,
      record { rule = r; numbered = at; substitution = λ v. var v; from = ap (λ t. Some t) (sym (unchanged r.left)); to = ap (λ t. Some t) (unchanged r.right) },
      limits_kept r.right few.1 low.1,
      refl,
    )

rule_closure_at : (k : ℕ) (rules : List RewriteRule) (i : ℕ) (r : RewriteRule) → slice_get rules i ≡ Some r → slice_get (rule_closures k rules) i ≡ Some (rule_closure (k + i) r)
rule_closure_at k [] i r e = absurd cc
rule_closure_at k (s ∷ rules) zero r e =
    let number : k ≡ k + zero = omega arith in
    ap (λ z. Some (rule_closure k z)) (same_Some s r e) ∙ ap (λ n. Some (rule_closure n r)) number
rule_closure_at k (s ∷ rules) (suc i) r e =
    let number : k + 1 + i ≡ k + suc i = omega arith in
    rule_closure_at (k + 1) rules i r e ∙ ap (λ n. Some (rule_closure n r)) number

-- the first closures are the rules
pub rule_sides : (rules : List RewriteRule) (cs made : List Closure) → cs ≡ rule_closures 0 rules ++ made → (n : ℕ) (r : RewriteRule) → slice_get rules n ≡ Some r → (c : Closure) → slice_get cs n ≡ Some c
    → (r.left ≡ c.left) × (r.right ≡ c.right)
rule_sides rules cs made is n r at c e =
    let here = kept_item (rule_closures 0 rules) made n (rule_closure (0 + n) r) (rule_closure_at 0 rules n r at) in
    let same : rule_closure (0 + n) r ≡ c = same_Some (rule_closure (0 + n) r) c (sym here ∙ (ap (λ z. slice_get z n) (sym is) ∙ e)) in
    (ap (λ (z : Closure). z.left) same, ap (λ (z : Closure). z.right) same)

drop_past : (rs : List RewriteRule) (i : ℕ) → length rs ≤ i → drop i rs ≡ []
drop_past [] zero h = refl
drop_past [] (suc i) h = refl
drop_past (x ∷ rs) zero h = absurd (omega (arith, h))
drop_past (x ∷ rs) (suc i) h = drop_past rs i (omega (arith, h))

module _ (rules : List RewriteRule) where
  -- these are the closures of the rules before number i
  pub record AreAhead (i : ℕ) (ahead : List Closure) : Type 0 where
    pub split : rule_closures 0 rules ≡ ahead ++ rule_closures i (drop i rules)
    pub long : length ahead ≡ i

  pub none_ahead : (ahead : List Closure) → ahead ≡ [] → AreAhead 0 ahead
  none_ahead ahead none = subst (AreAhead 0) (sym none) (record { split = refl; long = refl })

  pub all_ahead : (i : ℕ) (ahead : List Closure) → AreAhead i ahead → length rules ≤ i → ahead ≡ rule_closures 0 rules
  all_ahead i ahead are past = sym (are.split ∙ (ap (λ rs. ahead ++ rule_closures i rs) (drop_past rules i past) ∙ append-nil ahead))

  module _ (i : ℕ) (r : RewriteRule) (at : slice_get rules i ≡ Some r) (ahead : List Closure) (are : AreAhead i ahead) where
    next_split : rule_closures 0 rules ≡ ahead ++ rule_closure i r ∷ rule_closures (i + 1) (drop (i + 1) rules)
    next_split = are.split ∙ ap (λ rs. ahead ++ rule_closures i rs) (cell rules i r (slice_get_within rules i r at) (sym (get_or_from_slice_get rules i r r at)))

    pub one_more_ahead : AreAhead (i + 1) (ahead ++ rule_closure i r ∷ [])
    one_more_ahead = record {
      split = next_split ∙ sym (append_assoc ahead (rule_closure i r ∷ []) (rule_closures (i + 1) (drop (i + 1) rules)));
      long = let b = are.long in omega (arith, b, length-append ahead (rule_closure i r ∷ []));
    }

    -- the first rule that loops
    pub rule_loops : LoopNone rules ahead → (found : LoopFound) → IsFoundOf rules (rule_closure i r) found → (budget : ℕ) → FindsLoop rules budget (tree found.start) found.path.items found.place
    rule_loops none found h budget = record {
      attempts = 0;
      in_budget = omega arith;
      before = ahead;
      closure = rule_closure i r;
      after = rule_closures (i + 1) (drop (i + 1) rules);
      listed = subst (IsClosureList rules 0) next_split (record {
        tried = [];
        later = attempts_in rules (rule_closures 0 rules);
        split = refl;
        counted = refl;
        made = [];
        give = no_attempt;
        listed = sym (append-nil (rule_closures 0 rules));
      });
      none_before = none;
      loop = h;
    }

  -- none of the rules before number i loops
  pub record LoopNoneAhead (i : ℕ) : Type 0 where
    pub ahead : List Closure
    pub are : AreAhead i ahead
    pub none : LoopNone rules ahead

  pub no_rule_yet : LoopNoneAhead 0
  no_rule_yet = record { ahead = []; are = none_ahead [] refl; none = none_loops rules }

  pub one_more_rule : (i : ℕ) (r : RewriteRule) → slice_get rules i ≡ Some r → LoopNoneAhead i → LoopsNot rules (rule_closure i r) → LoopNoneAhead (i + 1)
  one_more_rule i r at before none = record {
    ahead = before.ahead ++ rule_closure i r ∷ [];
    are = one_more_ahead i r at before.ahead before.are;
    none = each_of_both (LoopsNot rules) before.ahead (rule_closure i r ∷ []) before.none (one_loops_not rules (rule_closure i r) none);
  }

  pub no_rule_loops : (i : ℕ) → LoopNoneAhead i → length rules ≤ i → LoopNone rules (rule_closures 0 rules)
  no_rule_loops i h past = subst (LoopNone rules) (all_ahead i h.ahead h.are past) h.none

abbrev one_step : Tree → Tree → ℕ → List ℕ → Closure
one_step l r n p = record { left = l; right = r; path = record { place = p; rule = n } ∷ [] }

-- the rule as the code has it: opened, and with a step whose place is made
pub closure_of_rule : (left right : Tree) (r : RewriteRule) (k : ℕ) (place : List ℕ) → ◌≡◌ {A = RewriteRule} (record { left = left; right = right }) r → place ≡ []
    → ◌≡◌ {A = Closure} (record { left = left; right = right; path = record { place = place; rule = k } ∷ [] }) (rule_closure k r)
closure_of_rule left right r k place view none =
    ap (one_step left right k) none ∙ ap (rule_closure k) view
