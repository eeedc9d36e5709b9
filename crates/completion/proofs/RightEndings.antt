-- How a run ends says what it should: rules that end it are convergent and make the same conversions as the equations; a pair
-- that ends it is converted by the equations, and neither side is greater.
use Rattle.std.proofs.Common.{ℕ, inl, inr, sym, subst, List, [], ◌∷◌, ◌++◌, map, Result, Ok, Err}
use Rattle.trs_defs.specs.Tree.{Tree, var}
use Rattle.trs_defs.specs.Substitution.{apply}
use Rattle.trs_defs.specs.Member.{In, in_first, in_rest}
use Rattle.trs_defs.specs.System.{RewriteRule, System, IsRule, IsSystem}
use Rattle.trs_defs.specs.Step.{Step, here}
use Rattle.pair_theory.proofs.Systems.{rule_among}
use Rattle.trs_defs.proofs.NamedTerms.{unchanged}
use Rattle.trs_defs.specs.Run.{Run}
use Rattle.trs_defs.specs.Joinable.{IsJoinable}
use Rattle.trs_defs.specs.Claims.{IsTerminating}
use Rattle.trs_defs.proofs.Derivations.{reaches_of_run, run_of_reaches}
use Rattle.trs_defs.proofs.Members.{in_or, no_in}
use Rattle.completion.specs.Conversion.{Converted, by_step, backwards, onwards}
use Rattle.completion.specs.ReductionOrder.{IsReductionOrder}
use Rattle.rewrite_core.specs.PlacedPeak.{PlacedPeak}
use Rattle.crit_pairs.specs.PeakList.{ListsPeaks}
use Rattle.completion.specs.declared.unfinished.Unfinished.{Unfinished}
use Rattle.completion.specs.declared.unfinished.Unfinished.TheVariants.{NoUnit, TooLarge}
use Rattle.completion.specs.Orienting.{IsUnoriented}
use Rattle.completion.specs.Endings.{Ending, Unorientable, with_rules, IsConvergentFor, IsRightEnding}
use Rattle.completion.specs.CompletionRun.{sides, ending_of, Outcome, Passed, Added, Ended, Treats, left_stops, right_stops, equal_forms, no_order, no_unit, new_rule, no_room, Takes, all_taken, take_passed, take_added, take_ended, Finds, none_found, passed_over, found_rule, found_end, Closes, no_peak_left, one_more, peak_ends, peaks_large, Completes, equations_end, peaks_close}
use Rattle.completion.proofs.Conversions.{converted_run, conversions_convert, more_converted}
use Rattle.completion.proofs.PeakPairs.{of_pair, peaks_confluent}
use Rattle.completion.proofs.SoundRules.{IsSoundPair, IsSoundRule, AreSound, form_run, pair_converted, sound_system, no_rules_sound, one_more_sound, sound_conversions, sound_forms, variant_converted, oriented_sound}

-- the new rule is sound, and with it the pair is converted
pub record IsTakenUp (equations : System) (greater : Tree → Tree → Type 0) (rules : List RewriteRule) (pair r : RewriteRule) : Type 0 where
  pub sound : IsSoundRule equations greater r
  pub converted : Converted (Step (rules ++ r ∷ [])) pair.left pair.right

abbrev pub IsRightOutcome : System → (Tree → Tree → Type 0) → List RewriteRule → RewriteRule → Outcome → Type 0
IsRightOutcome equations greater rules pair (Passed n) = IsJoinable (Step rules) pair.left pair.right
IsRightOutcome equations greater rules pair (Added r n) = IsTakenUp equations greater rules pair r
IsRightOutcome equations greater rules pair (Ended why) = IsRightEnding equations greater why

stop_right : (equations : System) (greater : Tree → Tree → Type 0) (why : Unfinished) → IsRightEnding equations greater (ending_of why)
stop_right equations greater NoUnit = tt
stop_right equations greater TooLarge = tt

joinable_converted : {T : Type 0} {R : T → T → Type 0} {s t u : T} → Run R s u → Run R t u → Converted R s t
joinable_converted p q = onwards (converted_run p) (backwards (converted_run q))

module _ (equations : System) (valid : IsSystem equations) (greater : Tree → Tree → Type 0) (order : IsReductionOrder equations.arities greater) where
  abbrev pub Sound : List RewriteRule → Type 0
  Sound rules = AreSound equations greater rules

  unoriented_right : (s t u v : Tree) → IsSoundPair equations (record { left = s; right = t }) → IsUnoriented greater s t u v
      → IsRightEnding equations greater (Unorientable u v)
  unoriented_right s t u v h none =
      let names : ℕ → Tree = λ x. var (none.variants.names x) in (
        variant_converted equations greater order s t u v none.variants h.converted,
        (λ g. none.not_left (subst (λ x. greater x t) none.variants.left_from (subst (greater (apply names u)) none.variants.right_from (order.instance names u v g)))),
        (λ g. none.not_right (subst (λ x. greater x s) none.variants.right_from (subst (greater (apply names v)) none.variants.left_from (order.instance names v u g)))),
      )

  pub outcome_right : (rules : List RewriteRule) → Sound rules → (units : ℕ) (pair : RewriteRule) → IsSoundPair equations pair → (made : Outcome)
      → Treats equations.arities greater rules units pair made → IsRightOutcome equations greater rules pair made
  outcome_right rules sound units pair h made (left_stops why n) = stop_right equations greater why
  outcome_right rules sound units pair h made (right_stops s m why a n) = stop_right equations greater why
  outcome_right rules sound units pair h made (equal_forms s m n a b) =
      (s, reaches_of_run (form_run a), reaches_of_run (form_run b))
  outcome_right rules sound units pair h made (no_order s t u v m n a b differ none) =
      unoriented_right s t u v (sound_forms equations greater order rules sound pair s t h (form_run a) (form_run b)) none
  outcome_right rules sound units pair h made (no_unit s t m a b differ o) = tt
  outcome_right rules sound units pair h made (new_rule s t m n r a b differ o fits) = record {
    sound = oriented_sound equations greater order s t r (sound_forms equations greater order rules sound pair s t h (form_run a) (form_run b)) o;
    converted = pair_converted rules r greater pair.left pair.right s t (form_run a) (form_run b) o;
  }
  outcome_right rules sound units pair h made (no_room s t m n r a b differ o none) = tt

  -- ---- the equations

  pub equation_sound : (e : RewriteRule) → In e equations.rules → IsSoundPair equations e
  equation_sound e i =
      let rule : IsRule equations.arities e = rule_among equations valid e i in
      record {
        left_well_formed = rule.left_well_formed;
        right_well_formed = rule.right_well_formed;
        converted = by_step (here (e.left, e.right, (λ v. var v), i, sym (unchanged e.left), sym (unchanged e.right)));
      }

  -- these rules convert more, and each of the equations
  pub record AreTaken (rules es all : List RewriteRule) : Type 0 where
    pub sound : Sound all
    pub keeps : (s t : Tree) → Converted (Step rules) s t → Converted (Step all) s t
    pub each : (e : RewriteRule) → In e es → Converted (Step all) e.left e.right

  abbrev pub IsRightAnswer : List RewriteRule → List RewriteRule → Result (List RewriteRule × ℕ) Ending → Type 0
  IsRightAnswer rules es (Ok p) = AreTaken rules es p.0
  IsRightAnswer rules es (Err why) = IsRightEnding equations greater why

  -- after the first equation
  after_first : (rules next : List RewriteRule) (e : RewriteRule) (es : List RewriteRule) (answer : Result (List RewriteRule × ℕ) Ending)
      → ((s t : Tree) → Converted (Step rules) s t → Converted (Step next) s t) → Converted (Step next) e.left e.right
      → IsRightAnswer next es answer → IsRightAnswer rules (e ∷ es) answer
  after_first rules next e es (Ok p) wider h taken = record {
    sound = taken.sound;
    keeps = λ s t c. taken.keeps s t (wider s t c);
    each = λ x i. elim (in_or i) as (λ _. Converted (Step p.0) x.left x.right) [
      | inl same ↦ (let C : RewriteRule → Type 0 = λ y. Converted (Step p.0) y.left y.right in subst C (sym same) (taken.keeps e.left e.right h))
      | inr j ↦ taken.each x j
    ];
  }
  after_first rules next e es (Err why) wider h right = right

  joined_converted : (rules : List RewriteRule) (s t : Tree) → IsJoinable (Step rules) s t → Converted (Step rules) s t
  joined_converted rules s t (u, p, q) = joinable_converted (run_of_reaches (Step rules) s u p) (run_of_reaches (Step rules) t u q)

  pub takes_right : (rules : List RewriteRule) → Sound rules → {units : ℕ} (es : List RewriteRule) → ((e : RewriteRule) → In e es → IsSoundPair equations e)
      → (answer : Result (List RewriteRule × ℕ) Ending) → Takes equations.arities greater rules units es answer → IsRightAnswer rules es answer
  takes_right rules sound es h answer all_taken = record { sound = sound; keeps = λ s t c. c; each = λ e i. absurd (no_in i) }
  takes_right rules sound es h answer (take_passed {es = rest} {e = e} t ts) =
      after_first rules rules e rest answer (λ s u c. c) (joined_converted rules e.left e.right (outcome_right rules sound _ e (h e in_first) _ t))
      (takes_right rules sound rest (λ x i. h x (in_rest i)) answer ts)
  takes_right rules sound es h answer (take_added {es = rest} {n = n} {e = e} {r = r} t ts) =
      let taken : IsTakenUp equations greater rules e r = outcome_right rules sound _ e (h e in_first) (Added r n) t in
      after_first rules (rules ++ r ∷ []) e rest answer (λ s u c. more_converted rules r c) taken.converted
      (takes_right (rules ++ r ∷ []) (one_more_sound equations greater order rules r sound taken.sound) rest (λ x i. h x (in_rest i)) answer ts)
  takes_right rules sound es h answer (take_ended {e = e} {why = why} t) = outcome_right rules sound _ e (h e in_first) (Ended why) t

  -- ---- the peaks

  pub sides_sound : (rules : List RewriteRule) → Sound rules → (peaks : List PlacedPeak) → ListsPeaks rules (Ok peaks) → (p : RewriteRule) → In p (map sides peaks)
      → IsSoundPair equations p
  sides_sound rules sound peaks listed =
      of_pair (with_rules equations rules) (sound_system equations greater order rules sound) (IsSoundPair equations) peaks listed
      (λ peak good. record {
        left_well_formed = good.left_over.well_formed;
        right_well_formed = good.right_over.well_formed;
        converted = sound_conversions equations greater order rules sound (onwards (backwards (by_step good.to_left)) (by_step good.to_right));
      })

  abbrev pub IsRightFind : List RewriteRule → List RewriteRule → Outcome → Type 0
  IsRightFind rules ps (Passed n) = (p : RewriteRule) → In p ps → IsJoinable (Step rules) p.left p.right
  IsRightFind rules ps (Added r n) = IsSoundRule equations greater r
  IsRightFind rules ps (Ended why) = IsRightEnding equations greater why

  behind_one : (rules : List RewriteRule) (p : RewriteRule) (ps : List RewriteRule) (made : Outcome) → IsJoinable (Step rules) p.left p.right → IsRightFind rules ps made
      → IsRightFind rules (p ∷ ps) made
  behind_one rules p ps (Passed n) h rest = λ x i. elim (in_or i) as (λ _. IsJoinable (Step rules) x.left x.right) [
    | inl same ↦ (let J : RewriteRule → Type 0 = λ y. IsJoinable (Step rules) y.left y.right in subst J (sym same) h)
    | inr j ↦ rest x j
  ]
  behind_one rules p ps (Added r n) h rest = rest
  behind_one rules p ps (Ended why) h rest = rest

  pub finds_right : (rules : List RewriteRule) → Sound rules → {units : ℕ} (ps : List RewriteRule) → ((p : RewriteRule) → In p ps → IsSoundPair equations p)
      → (made : Outcome) → Finds equations.arities greater rules units ps made → IsRightFind rules ps made
  finds_right rules sound ps h made none_found = λ p i. absurd (no_in i)
  finds_right rules sound ps h made (passed_over {p = p} {ps = rest} t ts) =
      behind_one rules p rest made (outcome_right rules sound _ p (h p in_first) _ t) (finds_right rules sound rest (λ x i. h x (in_rest i)) made ts)
  finds_right rules sound ps h made (found_rule {p = p} t) = (outcome_right rules sound _ p (h p in_first) made t).sound
  finds_right rules sound ps h made (found_end {p = p} t) = outcome_right rules sound _ p (h p in_first) made t

  abbrev ConvertsEach : List RewriteRule → Type 0
  ConvertsEach rules = (e : RewriteRule) → In e equations.rules → Converted (Step rules) e.left e.right

  closed_right : (rules : List RewriteRule) → Sound rules → ConvertsEach rules → (peaks : List PlacedPeak) → ListsPeaks rules (Ok peaks)
      → ((p : RewriteRule) → In p (map sides peaks) → IsJoinable (Step rules) p.left p.right) → IsConvergentFor equations rules
  closed_right rules sound convert peaks listed joins =
      let is : IsSystem (with_rules equations rules) = sound_system equations greater order rules sound in
      let terminates : IsTerminating (with_rules equations rules) = order.terminating rules (λ r i. (sound r i).goes_down) in
      record {
        terminating = terminates;
        confluent = peaks_confluent (with_rules equations rules) is peaks listed joins terminates;
        conversions = λ s t. (
          (λ c. sound_conversions equations greater order rules sound c),
          (λ c. conversions_convert equations.rules rules (λ l r i. convert (record { left = l; right = r }) i) c),
        );
      }

  closes_right : (rules : List RewriteRule) → Sound rules → ConvertsEach rules → {units : ℕ} (ending : Ending) → Closes equations.arities greater rules units ending
      → IsRightEnding equations greater ending
  closes_right rules sound convert ending (no_peak_left peaks n listed f) =
      closed_right rules sound convert peaks listed (finds_right rules sound (map sides peaks) (sides_sound rules sound peaks listed) (Passed n) f)
  closes_right rules sound convert ending (one_more peaks r n listed f rest) =
      let h : IsSoundRule equations greater r = finds_right rules sound (map sides peaks) (sides_sound rules sound peaks listed) (Added r n) f in
      closes_right (rules ++ r ∷ []) (one_more_sound equations greater order rules r sound h) (λ e i. more_converted rules r (convert e i)) ending rest
  closes_right rules sound convert ending (peak_ends peaks why listed f) =
      finds_right rules sound (map sides peaks) (sides_sound rules sound peaks listed) (Ended why) f
  closes_right rules sound convert ending (peaks_large fault listed) = tt

  pub completes_right : (budget : ℕ) (ending : Ending) → Completes equations greater budget ending → IsRightEnding equations greater ending
  completes_right budget ending (equations_end why t) =
      takes_right [] (no_rules_sound equations greater order) equations.rules equation_sound (Err why) t
  completes_right budget ending (peaks_close rules n end t c) =
      let taken : AreTaken [] equations.rules rules = takes_right [] (no_rules_sound equations greater order) equations.rules equation_sound (Ok (rules, n)) t in
      closes_right rules taken.sound taken.each ending c
