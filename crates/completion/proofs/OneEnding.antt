-- A run of completion has one ending.
use Rattle.std.proofs.Common.{◌≡◌, ◌≢◌, ℕ, suc, ◌⊎◌, inl, inr, refl, sym, ap, subst, arith, ◌∙◌, List, [], ◌∷◌, ◌++◌, map, Result, Ok, Err}
use Rattle.trs_defs.specs.Tree.{Tree}
use Rattle.trs_defs.specs.Member.{In, in_first, in_rest}
use Rattle.trs_defs.specs.System.{RewriteRule, System, IsSystem}
use Rattle.rewrite_core.specs.PlacedPeak.{PlacedPeak}
use Rattle.crit_pairs.specs.PeakList.{ListsPeaks}
use Rattle.crit_pairs.specs.declared.faults.PeakFault.{PeakFault}
use Rattle.crit_pairs.proofs.ListedOnce.{one_list, list_or_fault}
use Rattle.completion.specs.ReductionOrder.{IsReductionOrder}
use Rattle.completion.specs.declared.unfinished.Unfinished.{Unfinished}
use Rattle.completion.specs.Normalizing.{Normalizes}
use Rattle.completion.specs.Orienting.{IsOriented, IsUnoriented, Fits}
use Rattle.completion.specs.Endings.{Ending, Done, Unorientable, Spent, Limit, with_rules}
use Rattle.completion.specs.CompletionRun.{sides, ending_of, Outcome, Passed, Added, Ended, Treats, left_stops, right_stops, equal_forms, no_order, no_unit, new_rule, no_room, Takes, all_taken, take_passed, take_added, take_ended, Finds, none_found, passed_over, found_rule, found_end, Closes, no_peak_left, one_more, peak_ends, peaks_large, Completes, equations_end, peaks_close}
use Rattle.completion.proofs.SoundRules.{IsSoundPair, IsSoundRule, AreSound, form_run, sound_system, no_rules_sound, one_more_sound, sound_forms}
use Rattle.completion.proofs.RightEndings.{IsTakenUp, outcome_right, equation_sound, AreTaken, takes_right, sides_sound, finds_right}
use Rattle.completion.proofs.OneForm.{form_once}
use Rattle.completion.proofs.OneRule.{one_variant, oriented_once}

-- equal answers have equal parts
of_forms : {s t : Tree} {m n : ℕ} → ◌≡◌ {A = Result (Tree × ℕ) Unfinished} (Ok (s, m)) (Ok (t, n)) → (s ≡ t) × (m ≡ n)
of_forms {s} {t} {m} {n} e = let p : ◌≡◌ {A = Tree × ℕ} (s, m) (t, n) = cc (e) in (ap (λ (q : Tree × ℕ). q.0) p, ap (λ (q : Tree × ℕ). q.1) p)

of_answers : {rs qs : List RewriteRule} {m n : ℕ} → ◌≡◌ {A = Result (List RewriteRule × ℕ) Ending} (Ok (rs, m)) (Ok (qs, n)) → (rs ≡ qs) × (m ≡ n)
of_answers {rs} {qs} {m} {n} e =
    let p : ◌≡◌ {A = List RewriteRule × ℕ} (rs, m) (qs, n) = cc (e) in (ap (λ (q : List RewriteRule × ℕ). q.0) p, ap (λ (q : List RewriteRule × ℕ). q.1) p)

module _ (equations : System) (valid : IsSystem equations) (greater : Tree → Tree → Type 0) (order : IsReductionOrder equations.arities greater) where
  abbrev Sound : List RewriteRule → Type 0
  Sound rules = AreSound equations greater rules

  -- ---- a pair

  -- what becomes of two normal forms, with so many units
  data Compares (rules : List RewriteRule) (s t : Tree) (n : ℕ) : Outcome → Type 0 where
    equal : s ≡ t → Compares rules s t n (Passed n)
    unordered : (u v : Tree) → s ≢ t → IsUnoriented greater s t u v → Compares rules s t n (Ended (Unorientable u v))
    unpaid : n ≡ 0 → s ≢ t → (greater s t ⊎ greater t s) → Compares rules s t n (Ended Spent)
    fitting : (k : ℕ) (r : RewriteRule) → n ≡ suc k → s ≢ t → IsOriented greater s t r → Fits equations.arities rules r → Compares rules s t n (Added r k)
    unfitting : (k : ℕ) (r : RewriteRule) → n ≡ suc k → s ≢ t → IsOriented greater s t r → (Fits equations.arities rules r → ⊥)
        → Compares rules s t n (Ended Limit)

  data Reading (rules : List RewriteRule) (units : ℕ) (pair : RewriteRule) : Outcome → Type 0 where
    no_left : (why : Unfinished) → Normalizes rules units pair.left (Err why) → Reading rules units pair (Ended (ending_of why))
    no_right : (s : Tree) (m : ℕ) (why : Unfinished) → Normalizes rules units pair.left (Ok (s, m)) → Normalizes rules m pair.right (Err why)
        → Reading rules units pair (Ended (ending_of why))
    compared : (s t : Tree) (m n : ℕ) {o : Outcome} → Normalizes rules units pair.left (Ok (s, m)) → Normalizes rules m pair.right (Ok (t, n))
        → Compares rules s t n o → Reading rules units pair o

  reading : (rules : List RewriteRule) (units : ℕ) (pair : RewriteRule) (o : Outcome) → Treats equations.arities greater rules units pair o → Reading rules units pair o
  reading rules units pair o (left_stops why a) = no_left why a
  reading rules units pair o (right_stops s m why a b) = no_right s m why a b
  reading rules units pair o (equal_forms s m n a b) = compared s s m n a b (equal refl)
  reading rules units pair o (no_order s t u v m n a b differ none) = compared s t m n a b (unordered u v differ none)
  reading rules units pair o (no_unit s t m a b differ g) = compared s t m 0 a b (unpaid refl differ g)
  reading rules units pair o (new_rule s t m n r a b differ g fits) = compared s t m (suc n) a b (fitting n r refl differ g fits)
  reading rules units pair o (no_room s t m n r a b differ g none) = compared s t m (suc n) a b (unfitting n r refl differ g none)

  unordered_once : (s t u v w x : Tree) → IsUnoriented greater s t u v → IsUnoriented greater s t w x → (u ≡ w) × (v ≡ x)
  unordered_once s t u v w x a b = one_variant s t u v w x a.variants b.variants a.counted b.counted

  not_ordered : (s t u v : Tree) → IsUnoriented greater s t u v → (greater s t ⊎ greater t s) → ⊥
  not_ordered s t u v none (inl g) = none.not_left g
  not_ordered s t u v none (inr g) = none.not_right g

  ordered : (s t : Tree) (r : RewriteRule) → IsOriented greater s t r → greater s t ⊎ greater t s
  ordered s t r (inl o) = inl o.0
  ordered s t r (inr o) = inr o.0

  same_added : {r q : RewriteRule} {k j : ℕ} → r ≡ q → k ≡ j → Added r k ≡ Added q j
  same_added e h = cc (e, h)

  same_unordered : {u v w x : Tree} → u ≡ w → v ≡ x → Ended (Unorientable u v) ≡ Ended (Unorientable w x)
  same_unordered e h = cc (e, h)

  module _ (rules : List RewriteRule) (s t : Tree) (n : ℕ) (sound : IsSoundPair equations (record { left = s; right = t })) where
    compares_once : (a b : Outcome) → Compares rules s t n a → Compares rules s t n b → a ≡ b
    compares_once a b (equal e) (equal e') = refl
    compares_once a b (equal e) (unordered u v d none) = absurd (d e)
    compares_once a b (equal e) (unpaid z d g) = absurd (d e)
    compares_once a b (equal e) (fitting k r z d o fits) = absurd (d e)
    compares_once a b (equal e) (unfitting k r z d o none) = absurd (d e)
    compares_once a b (unordered u v d none) (equal e) = absurd (d e)
    compares_once a b (unordered u v d none) (unordered w x d' other) = let (first, second) = unordered_once s t u v w x none other in same_unordered first second
    compares_once a b (unordered u v d none) (unpaid z d' g) = absurd (not_ordered s t u v none g)
    compares_once a b (unordered u v d none) (fitting k r z d' o fits) = absurd (not_ordered s t u v none (ordered s t r o))
    compares_once a b (unordered u v d none) (unfitting k r z d' o misfit) = absurd (not_ordered s t u v none (ordered s t r o))
    compares_once a b (unpaid z d g) (equal e) = absurd (d e)
    compares_once a b (unpaid z d g) (unordered u v d' none) = absurd (not_ordered s t u v none g)
    compares_once a b (unpaid z d g) (unpaid z' d' g') = refl
    compares_once a b (unpaid z d g) (fitting k r z' d' o fits) = absurd (omega (arith, z, z'))
    compares_once a b (unpaid z d g) (unfitting k r z' d' o none) = absurd (omega (arith, z, z'))
    compares_once a b (fitting k r z d o fits) (equal e) = absurd (d e)
    compares_once a b (fitting k r z d o fits) (unordered u v d' none) = absurd (not_ordered s t u v none (ordered s t r o))
    compares_once a b (fitting k r z d o fits) (unpaid z' d' g) = absurd (omega (arith, z, z'))
    compares_once a b (fitting k r z d o fits) (fitting j q z' d' o' fits') =
        let less : k ≡ j = omega (arith, z, z') in
        same_added (oriented_once equations greater order s t r q sound o o') less
    compares_once a b (fitting k r z d o fits) (unfitting j q z' d' o' none) =
        absurd (none (subst (Fits equations.arities rules) (oriented_once equations greater order s t r q sound o o') fits))
    compares_once a b (unfitting k r z d o none) (equal e) = absurd (d e)
    compares_once a b (unfitting k r z d o none) (unordered u v d' other) = absurd (not_ordered s t u v other (ordered s t r o))
    compares_once a b (unfitting k r z d o none) (unpaid z' d' g) = absurd (omega (arith, z, z'))
    compares_once a b (unfitting k r z d o none) (fitting j q z' d' o' fits) =
        absurd (none (subst (Fits equations.arities rules) (sym (oriented_once equations greater order s t r q sound o o')) fits))
    compares_once a b (unfitting k r z d o none) (unfitting j q z' d' o' misfit) = refl

  module _ (rules : List RewriteRule) (sound : Sound rules) where
    once : (units : ℕ) (t : Tree) (a b : Result (Tree × ℕ) Unfinished) → Normalizes rules units t a → Normalizes rules units t b → a ≡ b
    once = form_once (with_rules equations rules) (sound_system equations greater order rules sound)

    same_end : {why other : Unfinished} → ◌≡◌ {A = Result (Tree × ℕ) Unfinished} (Err why) (Err other) → Ended (ending_of why) ≡ Ended (ending_of other)
    same_end {why} {other} e = let h : why ≡ other = cc (e) in ap (λ y. Ended (ending_of y)) h

    clash : {why : Unfinished} {s : Tree} {m : ℕ} → ◌≡◌ {A = Result (Tree × ℕ) Unfinished} (Err why) (Ok (s, m)) → ⊥
    clash e = absurd cc

    module _ (units : ℕ) (pair : RewriteRule) (h : IsSoundPair equations pair) where
      readings_once : (a b : Outcome) → Reading rules units pair a → Reading rules units pair b → a ≡ b
      readings_once a b (no_left why x) (no_left other y) = same_end (once units pair.left (Err why) (Err other) x y)
      readings_once a b (no_left why x) (no_right s m other y z) = absurd (clash (once units pair.left (Err why) (Ok (s, m)) x y))
      readings_once a b (no_left why x) (compared s t m n y z c) = absurd (clash (once units pair.left (Err why) (Ok (s, m)) x y))
      readings_once a b (no_right s m why x y) (no_left other z) = absurd (clash (once units pair.left (Err other) (Ok (s, m)) z x))
      readings_once a b (no_right s m why x y) (no_right s' m' other x' y') =
          let e = once units pair.left (Ok (s', m')) (Ok (s, m)) x' x in
          let less : m' ≡ m = (of_forms e).1 in
          let P : ℕ → Type 0 = λ k. Normalizes rules k pair.right (Err other) in
          same_end (once m pair.right (Err why) (Err other) y (subst P less y'))
      readings_once a b (no_right s m why x y) (compared s' t m' n x' y' c) =
          let e = once units pair.left (Ok (s', m')) (Ok (s, m)) x' x in
          let less : m' ≡ m = (of_forms e).1 in
          let P : ℕ → Type 0 = λ k. Normalizes rules k pair.right (Ok (t, n)) in
          absurd (clash (once m pair.right (Err why) (Ok (t, n)) y (subst P less y')))
      readings_once a b (compared s t m n x y c) (no_left why z) = absurd (clash (once units pair.left (Err why) (Ok (s, m)) z x))
      readings_once a b (compared s t m n x y c) (no_right s' m' why x' y') =
          let e = once units pair.left (Ok (s', m')) (Ok (s, m)) x' x in
          let less : m' ≡ m = (of_forms e).1 in
          let P : ℕ → Type 0 = λ k. Normalizes rules k pair.right (Err why) in
          absurd (clash (once m pair.right (Err why) (Ok (t, n)) (subst P less y') y))
      readings_once a b (compared s t m n x y c) (compared s' t' m' n' x' y' c') =
          let e = once units pair.left (Ok (s', m')) (Ok (s, m)) x' x in
          let first : s' ≡ s = (of_forms e).0 in
          let less : m' ≡ m = (of_forms e).1 in
          let P : ℕ → Type 0 = λ k. Normalizes rules k pair.right (Ok (t', n')) in
          let k = once m pair.right (Ok (t', n')) (Ok (t, n)) (subst P less y') y in
          let second : t' ≡ t = (of_forms k).0 in
          let rest : n' ≡ n = (of_forms k).1 in
          let A : Tree → Type 0 = λ z. Compares rules z t' n' b in
          let B : Tree → Type 0 = λ z. Compares rules s z n' b in
          let C : ℕ → Type 0 = λ z. Compares rules s t z b in
          compares_once rules s t n (sound_forms equations greater order rules sound pair s t h (form_run x) (form_run y)) a b c
          (subst C rest (subst B second (subst A first c')))

      treats_once : (a b : Outcome) → Treats equations.arities greater rules units pair a → Treats equations.arities greater rules units pair b → a ≡ b
      treats_once a b x y = readings_once a b (reading rules units pair a x) (reading rules units pair b y)

  -- ---- the equations

  abbrev Answer : Type 0
  Answer = Result (List RewriteRule × ℕ) Ending

  abbrev AfterTaken : List RewriteRule → List RewriteRule → Answer → Outcome → Type 0
  AfterTaken rules es a (Passed n) = Takes equations.arities greater rules n es a
  AfterTaken rules es a (Added r n) = Takes equations.arities greater (rules ++ r ∷ []) n es a
  AfterTaken rules es a (Ended why) = a ≡ Err why

  opened : (rules : List RewriteRule) (units : ℕ) (e : RewriteRule) (es : List RewriteRule) (a : Answer) → Takes equations.arities greater rules units (e ∷ es) a
      → (o : Outcome) × Treats equations.arities greater rules units e o × AfterTaken rules es a o
  opened rules units e es a (take_passed {n = n} t ts) = (Passed n, t, ts)
  opened rules units e es a (take_added {n = n} {r = r} t ts) = (Added r n, t, ts)
  opened rules units e es a (take_ended {why = why} t) = (Ended why, t, refl)

  nothing_taken : (rules : List RewriteRule) (units : ℕ) (a : Answer) → Takes equations.arities greater rules units [] a → a ≡ Ok (rules, units)
  nothing_taken rules units a all_taken = refl

  -- after the first equation, where the others have one answer
  after_taken : (rules : List RewriteRule) → Sound rules → (units : ℕ) (e : RewriteRule) (es : List RewriteRule) → IsSoundPair equations e → (a b : Answer)
      → ((others : List RewriteRule) → Sound others → (n : ℕ) → Takes equations.arities greater others n es a → Takes equations.arities greater others n es b → a ≡ b)
      → (o : Outcome) → Treats equations.arities greater rules units e o → AfterTaken rules es a o → AfterTaken rules es b o → a ≡ b
  after_taken rules sound units e es h a b later (Passed n) t u v = later rules sound n u v
  after_taken rules sound units e es h a b later (Added r n) t u v =
      let new : IsTakenUp equations greater rules e r = outcome_right equations valid greater order rules sound units e h (Added r n) t in
      later (rules ++ r ∷ []) (one_more_sound equations greater order rules r sound new.sound) n u v
  after_taken rules sound units e es h a b later (Ended why) t u v = u ∙ sym v

  takes_once : (es : List RewriteRule) → ((e : RewriteRule) → In e es → IsSoundPair equations e) → (rules : List RewriteRule) → Sound rules → (units : ℕ) (a b : Answer)
      → Takes equations.arities greater rules units es a → Takes equations.arities greater rules units es b → a ≡ b
  takes_once [] each rules sound units a b x y = nothing_taken rules units a x ∙ sym (nothing_taken rules units b y)
  takes_once (e ∷ es) each rules sound units a b x y =
      let (o, t, rest) = opened rules units e es a x in
      let (o2, t2, rest2) = opened rules units e es b y in
      let same : o2 ≡ o = treats_once rules sound units e (each e in_first) o2 o t2 t in
      after_taken rules sound units e es (each e in_first) a b (λ others h n u v. takes_once es (λ f i. each f (in_rest i)) others h n a b u v)
      o t rest (subst (AfterTaken rules es b) same rest2)

  -- ---- the peaks

  abbrev AfterFound : List RewriteRule → List RewriteRule → Outcome → Outcome → Type 0
  AfterFound rules ps a (Passed n) = Finds equations.arities greater rules n ps a
  AfterFound rules ps a (Added r n) = a ≡ Added r n
  AfterFound rules ps a (Ended why) = a ≡ Ended why

  opened_find : (rules : List RewriteRule) (units : ℕ) (p : RewriteRule) (ps : List RewriteRule) (a : Outcome) → Finds equations.arities greater rules units (p ∷ ps) a
      → (o : Outcome) × Treats equations.arities greater rules units p o × AfterFound rules ps a o
  opened_find rules units p ps a (passed_over {n = n} t ts) = (Passed n, t, ts)
  opened_find rules units p ps a (found_rule {n = n} {r = r} t) = (Added r n, t, refl)
  opened_find rules units p ps a (found_end {why = why} t) = (Ended why, t, refl)

  nothing_found : (rules : List RewriteRule) (units : ℕ) (a : Outcome) → Finds equations.arities greater rules units [] a → a ≡ Passed units
  nothing_found rules units a none_found = refl

  after_found : (rules : List RewriteRule) (ps : List RewriteRule) (a b : Outcome)
      → ((n : ℕ) → Finds equations.arities greater rules n ps a → Finds equations.arities greater rules n ps b → a ≡ b)
      → (o : Outcome) → AfterFound rules ps a o → AfterFound rules ps b o → a ≡ b
  after_found rules ps a b later (Passed n) u v = later n u v
  after_found rules ps a b later (Added r n) u v = u ∙ sym v
  after_found rules ps a b later (Ended why) u v = u ∙ sym v

  module _ (rules : List RewriteRule) (sound : Sound rules) where
    finds_once : (ps : List RewriteRule) → ((p : RewriteRule) → In p ps → IsSoundPair equations p) → (units : ℕ) (a b : Outcome)
        → Finds equations.arities greater rules units ps a → Finds equations.arities greater rules units ps b → a ≡ b
    finds_once [] each units a b x y = nothing_found rules units a x ∙ sym (nothing_found rules units b y)
    finds_once (p ∷ ps) each units a b x y =
        let (o, t, rest) = opened_find rules units p ps a x in
        let (o2, t2, rest2) = opened_find rules units p ps b y in
        let same : o2 ≡ o = treats_once rules sound units p (each p in_first) o2 o t2 t in
        after_found rules ps a b (λ n u v. finds_once ps (λ q i. each q (in_rest i)) n a b u v) o rest (subst (AfterFound rules ps b) same rest2)

  abbrev AfterPeaks : List RewriteRule → Ending → Outcome → Type 0
  AfterPeaks rules end (Passed n) = end ≡ Done rules
  AfterPeaks rules end (Added r n) = Closes equations.arities greater (rules ++ r ∷ []) n end
  AfterPeaks rules end (Ended why) = end ≡ why

  abbrev Listed : List RewriteRule → ℕ → Ending → Result (List PlacedPeak) PeakFault → Type 0
  Listed rules units end (Ok peaks) = (o : Outcome) × Finds equations.arities greater rules units (map sides peaks) o × AfterPeaks rules end o
  Listed rules units end (Err why) = end ≡ Limit

  opened_close : (rules : List RewriteRule) (units : ℕ) (end : Ending) → Closes equations.arities greater rules units end
      → (l : Result (List PlacedPeak) PeakFault) × ListsPeaks rules l × Listed rules units end l
  opened_close rules units end (no_peak_left peaks n l f) = (Ok peaks, l, (Passed n, f, refl))
  opened_close rules units end (one_more peaks r n l f rest) = (Ok peaks, l, (Added r n, f, rest))
  opened_close rules units end (peak_ends peaks why l f) = (Ok peaks, l, (Ended why, f, refl))
  opened_close rules units end (peaks_large why l) = (Err why, l, refl)

  -- the other ending, where these are the peaks
  at_list : (rules : List RewriteRule) → Sound rules → (units : ℕ) (end : Ending) → Closes equations.arities greater rules units end
      → (l : Result (List PlacedPeak) PeakFault) → ListsPeaks rules l → Listed rules units end l
  at_list rules sound units end c l listed = go l listed (opened_close rules units end c)
    where
      is : IsSystem (with_rules equations rules)
      is = sound_system equations greater order rules sound

      go : (l : Result (List PlacedPeak) PeakFault) → ListsPeaks rules l
          → (k : Result (List PlacedPeak) PeakFault) × ListsPeaks rules k × Listed rules units end k → Listed rules units end l
      go (Ok peaks) h (Ok others, k, rest) =
          subst (λ ps. Listed rules units end (Ok ps)) (one_list (with_rules equations rules) is others peaks k h) rest
      go (Ok peaks) h (Err why, k, rest) = absurd (list_or_fault (with_rules equations rules) is peaks why h k)
      go (Err why) h (Ok peaks, k, rest) = absurd (list_or_fault (with_rules equations rules) is peaks why k h)
      go (Err why) h (Err other, k, rest) = rest

  at_found : (rules : List RewriteRule) → Sound rules → (units : ℕ) (end : Ending) → Closes equations.arities greater rules units end
      → (peaks : List PlacedPeak) → ListsPeaks rules (Ok peaks) → (o : Outcome) → Finds equations.arities greater rules units (map sides peaks) o
      → AfterPeaks rules end o
  at_found rules sound units end c peaks listed o f =
      let (x, g, h) = at_list rules sound units end c (Ok peaks) listed in
      subst (AfterPeaks rules end)
      (finds_once rules sound (map sides peaks) (sides_sound equations valid greater order rules sound peaks listed) units x o g f) h

  closes_once : (rules : List RewriteRule) → Sound rules → (units : ℕ) (a b : Ending) → Closes equations.arities greater rules units a
      → Closes equations.arities greater rules units b → a ≡ b
  closes_once rules sound units a b (no_peak_left peaks n l f) c = sym (at_found rules sound units b c peaks l (Passed n) f)
  closes_once rules sound units a b (one_more peaks r n l f rest) c =
      let new : IsSoundRule equations greater r =
      finds_right equations valid greater order rules sound (map sides peaks) (sides_sound equations valid greater order rules sound peaks l) (Added r n) f in
      closes_once (rules ++ r ∷ []) (one_more_sound equations greater order rules r sound new) n a b rest (at_found rules sound units b c peaks l (Added r n) f)
  closes_once rules sound units a b (peak_ends peaks why l f) c = sym (at_found rules sound units b c peaks l (Ended why) f)
  closes_once rules sound units a b (peaks_large why l) c = sym (at_list rules sound units b c (Err why) l)

  -- ---- the run

  all_once : (budget : ℕ) (a b : Answer) → Takes equations.arities greater [] budget equations.rules a → Takes equations.arities greater [] budget equations.rules b → a ≡ b
  all_once budget a b x y = takes_once equations.rules (equation_sound equations valid greater order) [] (no_rules_sound equations greater order) budget a b x y

  pub completes_once : (budget : ℕ) (a b : Ending) → Completes equations greater budget a → Completes equations greater budget b → a ≡ b
  completes_once budget a b (equations_end why t) (equations_end other u) = let e = all_once budget (Err a) (Err b) t u in cc (e)
  completes_once budget a b (equations_end why t) (peaks_close rules n end u c) = let e = all_once budget (Err a) (Ok (rules, n)) t u in absurd cc
  completes_once budget a b (peaks_close rules n end t c) (equations_end why u) = let e = all_once budget (Err b) (Ok (rules, n)) u t in absurd cc
  completes_once budget a b (peaks_close rules n end t c) (peaks_close others m other u d) =
      let e = all_once budget (Ok (others, m)) (Ok (rules, n)) u t in
      let same : others ≡ rules = (of_answers e).0 in
      let less : m ≡ n = (of_answers e).1 in
      let P : List RewriteRule → Type 0 = λ rs. Closes equations.arities greater rs m b in
      let Q : ℕ → Type 0 = λ k. Closes equations.arities greater rules k b in
      let taken : AreTaken equations valid greater order [] equations.rules rules =
      takes_right equations valid greater order [] (no_rules_sound equations greater order) equations.rules (equation_sound equations valid greater order) (Ok (rules, n)) t in
      closes_once rules taken.sound n a b c (subst Q less (subst P same d))
