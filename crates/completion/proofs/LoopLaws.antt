-- What the loops of completion keep: what is left answers as the whole.
use Rattle.std.proofs.Common.{◌≡◌, ◌<◌, ◌≤◌, ℕ, ◌+◌, refl, sym, ap, subst, arith, map, drop, List, [], ◌∷◌, ◌++◌, Some, Result, Ok, Err, IfOk, length, get_or, slice_get}
use Rattle.std.proofs.lemmas.Option.{slice_get_read}
use Rattle.std.proofs.lemmas.List.Elements.{All-nil}
use Rattle.trs_defs.specs.Tree.{Tree}
use Rattle.trs_defs.specs.Member.{In, in_first, in_rest}
use Rattle.trs_defs.specs.Size.{size_of}
use Rattle.trs_core.specs.SystemLimits.{IsWithinLimits, IsShallow, nodes_of}
use Rattle.trs_defs.proofs.ArgumentLists.{cell}
use Rattle.trs_defs.specs.System.{RewriteRule, System, IsSystem}
use Rattle.trs_defs.proofs.Members.{in_of_get, in_map}
use Rattle.completion.specs.declared.endings.Completion.{Completion}
use Rattle.completion.specs.declared.endings.Completion.TheVariants as completion
use Rattle.completion.specs.declared.treating.Outcome.TheVariants as outcome
use Rattle.completion.specs.Endings.{Ending, Done, Limit, with_rules, IsRightEnding}
use Rattle.completion.specs.ReductionOrder.{IsReductionOrder}
use Rattle.trs_core.specs.declared.memory.OutOfMemory.{OutOfMemory}
use Rattle.completion.proofs.RightEndings.{completes_right}
use Rattle.completion.specs.declared.unfinished.Unfinished.{Unfinished}
use Rattle.completion.specs.declared.unfinished.Unfinished.TheVariants.{NoUnit, TooLarge}
use Rattle.completion.specs.CompletionRun.{sides, ending_of, Outcome, Passed, Added, Ended, Treats, left_stops, right_stops, no_order, no_unit, no_room, Takes, all_taken, take_passed, take_added, take_ended, Finds, none_found, passed_over, found_rule, found_end, Closes, no_peak_left, one_more, peak_ends, peaks_large, Completes, peaks_close}
use Rattle.completion.specs.Answers.{plain_ending, HasArities}
use Rattle.completion.specs.Treating.{whole, IsOutcome}
use Rattle.completion.specs.Taking.{IsTermOver, ArePairsOver, Looks, at_peaks, past_limit}
use Rattle.rewrite_core.specs.PlacedPeak.{PlacedPeak}
use Rattle.completion.proofs.TreatLaws.{found_fewer, found_fits, added_fits}

-- the pair of the peak that is read is one of the pairs
pub read_pair : (arities : List ℕ) (peaks : List PlacedPeak) (i : ℕ) (p : PlacedPeak) → ArePairsOver arities (map sides peaks) → i < length peaks → p ≡ get_or peaks i p
    → IsTermOver arities p.left × IsTermOver arities p.right
read_pair arities peaks i p h below is = h (sides p) (in_map sides (in_of_get peaks i p (slice_get_read peaks (length peaks) i p refl below is)))

-- the pairs that are left at a peak
pub next_pairs : (peaks : List PlacedPeak) (i : ℕ) (p : PlacedPeak) → i < length peaks → p ≡ get_or peaks i p
    → map sides (drop i peaks) ≡ sides p ∷ map sides (drop (i + 1) peaks)
next_pairs peaks i p below is = ap (map sides) (cell peaks i p below is)

stop_no_rules : (made : List RewriteRule) (why : Unfinished) → ending_of why ≡ Done made → ⊥
stop_no_rules made NoUnit e = absurd cc
stop_no_rules made TooLarge e = absurd cc

module _ (greater : Tree → Tree → Type 0) (system : System) where
  -- the first of all pairs that is not passed over is the first of these
  abbrev pub FindsOn : List RewriteRule → ℕ → ℕ → List RewriteRule → Type 0
  FindsOn all units left rest =
      (t : Outcome) → Finds system.arities greater system.rules left rest t → Finds system.arities greater system.rules units all t

  module _ (all : List RewriteRule) (units left : ℕ) (rest : List RewriteRule) (p : RewriteRule) (more : List RewriteRule) (is : rest ≡ p ∷ more)
      (on : FindsOn all units left rest) where
    abbrev At : Outcome → List RewriteRule → Type 0
    At t xs = Finds system.arities greater system.rules left xs t

    pub find_next : (n : ℕ) → Treats system.arities greater system.rules left p (Passed n) → FindsOn all units n more
    find_next n t made h = on made (subst (At made) (sym is) (passed_over t h))

    pub find_rule : (r : RewriteRule) (n : ℕ) → IsOutcome (Treats system.arities greater system.rules left p) (outcome.Added r n)
        → IsOutcome (Finds system.arities greater system.rules units all) (outcome.Added r n)
    find_rule r n t = on (Added r n) (subst (At (Added r n)) (sym is) (found_rule t))

    pub find_end : (c : Completion) → IsOutcome (Treats system.arities greater system.rules left p) (outcome.Ended c)
        → IsOutcome (Finds system.arities greater system.rules units all) (outcome.Ended c)
    find_end c t = on (Ended (plain_ending c)) (subst (At (Ended (plain_ending c))) (sym is) (found_end t))

  pub find_none : (all : List RewriteRule) (units left : ℕ) (rest : List RewriteRule) → rest ≡ [] → FindsOn all units left rest
      → Finds system.arities greater system.rules units all (Passed left)
  find_none all units left rest is on =
      let P : List RewriteRule → Type 0 = λ xs. Finds system.arities greater system.rules left xs (Passed left) in
      on (Passed left) (subst P (sym is) none_found)

-- ---- the equations

-- the rest of the equations answers as all of them
pub record IsTaking (greater : Tree → Tree → Type 0) (equations : System) (budget : ℕ) (system : System) (left : ℕ) (rest : List RewriteRule) : Type 0 where
  pub arities : system.arities ≡ equations.arities
  pub limits : IsWithinLimits system
  pub on : (answer : Result (List RewriteRule × ℕ) Ending) → Takes equations.arities greater system.rules left rest answer
      → Takes equations.arities greater [] budget equations.rules answer

module _ (greater : Tree → Tree → Type 0) (equations : System) (budget : ℕ) where
  abbrev Taking : List RewriteRule → ℕ → Result (List RewriteRule × ℕ) Ending → List RewriteRule → Type 0
  Taking rules left answer es = Takes equations.arities greater rules left es answer

  pub take_begins : IsWithinLimits equations → (system : System) (rest : List RewriteRule) → system ≡ with_rules equations [] → rest ≡ equations.rules
      → IsTaking greater equations budget system budget rest
  take_begins limits system rest e same =
      let P : System → Type 0 = λ s. IsTaking greater equations budget s budget rest in
      subst P (sym e) (record {
        arities = refl;
        limits = record { symbols = limits.symbols; rules = omega arith; nodes = omega arith; shallow = All-nil IsShallow };
        on = λ answer h. subst (Taking [] budget answer) same h;
      })

  module _ (system : System) (left : ℕ) (rest : List RewriteRule) (e : RewriteRule) (more : List RewriteRule) (is : rest ≡ e ∷ more)
      (pair : RewriteRule) (same : pair ≡ e) (h : IsTaking greater equations budget system left rest) where
    at_equation : (t : Outcome) → Treats system.arities greater system.rules left pair t → Treats equations.arities greater system.rules left e t
    at_equation t made =
        let A : List ℕ → Type 0 = λ table. Treats table greater system.rules left pair t in
        let B : RewriteRule → Type 0 = λ p. Treats equations.arities greater system.rules left p t in
        subst B same (subst A h.arities made)

    pub take_next : (n : ℕ) → Treats system.arities greater system.rules left pair (Passed n) → IsTaking greater equations budget system n more
    take_next n t = record {
      arities = h.arities;
      limits = h.limits;
      on = λ answer k. h.on answer (subst (Taking system.rules left answer) (sym is) (take_passed (at_equation (Passed n) t) k));
    }

    pub take_more : (r : RewriteRule) (n : ℕ) → IsOutcome (Treats system.arities greater system.rules left pair) (outcome.Added r n)
        → IsTaking greater equations budget (whole system (r ∷ [])) n more
    take_more r n t = record {
      arities = h.arities;
      limits = (added_fits t).limits;
      on = λ answer k. h.on answer (subst (Taking system.rules left answer) (sym is) (take_added (at_equation (Added r n) t) k));
    }

    pub take_stops : (c : Completion) → IsOutcome (Treats system.arities greater system.rules left pair) (outcome.Ended c)
        → Takes equations.arities greater [] budget equations.rules (Err (plain_ending c))
    take_stops c t = h.on (Err (plain_ending c)) (subst (Taking system.rules left (Err (plain_ending c))) (sym is) (take_ended (at_equation (Ended (plain_ending c)) t)))

  pub take_all : (system : System) (left : ℕ) (rest : List RewriteRule) → rest ≡ [] → IsTaking greater equations budget system left rest
      → (system.arities ≡ equations.arities) × Takes equations.arities greater [] budget equations.rules (Ok (system.rules, left))
  take_all system left rest is h =
      (h.arities, h.on (Ok (system.rules, left)) (subst (Taking system.rules left (Ok (system.rules, left))) (sym is) all_taken))

-- ---- the peaks

-- the peaks of these rules answer as those of the first ones
pub record IsClosing (greater : Tree → Tree → Type 0) (start : System) (units : ℕ) (system : System) (left : ℕ) : Type 0 where
  pub arities : system.arities ≡ start.arities
  pub on : (ending : Ending) → Closes start.arities greater system.rules left ending → Closes start.arities greater start.rules units ending

module _ (greater : Tree → Tree → Type 0) (start : System) (units : ℕ) where
  pub close_begins : IsClosing greater start units start units
  close_begins = record { arities = refl; on = λ ending k. k }

  module _ (system : System) (left : ℕ) (h : IsClosing greater start units system left) where
    abbrev Looked : Outcome → Type 0
    Looked made = Looks system.arities greater system.rules left made

    -- at the arity table of the first rules
    at_start : (peaks : List PlacedPeak) (made : Outcome) → Finds system.arities greater system.rules left (map sides peaks) made
        → Finds start.arities greater system.rules left (map sides peaks) made
    at_start peaks made f = let F : List ℕ → Type 0 = λ table. Finds table greater system.rules left (map sides peaks) made in subst F h.arities f

    passed_all : (made : Outcome) (n : ℕ) → made ≡ Passed n → Looked made → Closes start.arities greater system.rules left (Done system.rules)
    passed_all made n e (at_peaks peaks listed f) = no_peak_left peaks n listed (at_start peaks (Passed n) (subst (Finds system.arities greater system.rules left (map sides peaks)) e f))
    passed_all made n e (past_limit fault large) = absurd cc

    added_one : (made : Outcome) (r : RewriteRule) (n : ℕ) → made ≡ Added r n → Looked made → (ending : Ending)
        → Closes start.arities greater (system.rules ++ r ∷ []) n ending → Closes start.arities greater system.rules left ending
    added_one made r n e (at_peaks peaks listed f) ending k =
        one_more peaks r n listed (at_start peaks (Added r n) (subst (Finds system.arities greater system.rules left (map sides peaks)) e f)) k
    added_one made r n e (past_limit fault large) ending k = absurd cc

    ended_there : (made : Outcome) (why : Ending) → made ≡ Ended why → Looked made → Closes start.arities greater system.rules left why
    ended_there made why e (at_peaks peaks listed f) =
        peak_ends peaks why listed (at_start peaks (Ended why) (subst (Finds system.arities greater system.rules left (map sides peaks)) e f))
    ended_there made why e (past_limit fault large) = let same : Limit ≡ why = cc (e) in subst (Closes start.arities greater system.rules left) same (peaks_large fault large)

    pub close_done : (n : ℕ) → Looked (Passed n) → Closes start.arities greater start.rules units (Done system.rules)
    close_done n l = h.on (Done system.rules) (passed_all (Passed n) n refl l)

    pub close_more : (next : System) (r : RewriteRule) (n : ℕ) → next ≡ whole system (r ∷ []) → IsOutcome Looked (outcome.Added r n)
        → IsClosing greater start units next n
    close_more next r n e l =
        let P : System → Type 0 = λ s. IsClosing greater start units s n in
        subst P (sym e) (record { arities = h.arities; on = λ ending k. h.on ending (added_one (Added r n) r n refl l ending k) })

    pub close_end : (c : Completion) → IsOutcome Looked (outcome.Ended c) → Closes start.arities greater start.rules units (plain_ending c)
    close_end c l = h.on (plain_ending c) (ended_there (Ended (plain_ending c)) (plain_ending c) refl l)

  looked_fewer : (system : System) (left : ℕ) (made : Outcome) (r : RewriteRule) (n : ℕ) → made ≡ Added r n → Looks system.arities greater system.rules left made → n < left
  looked_fewer system left made r n e (at_peaks peaks listed f) = found_fewer (subst (Finds system.arities greater system.rules left (map sides peaks)) e f)
  looked_fewer system left made r n e (past_limit fault large) = absurd cc

  pub close_smaller : (system : System) (left : ℕ) (r : RewriteRule) (n : ℕ)
      → IsOutcome (Looks system.arities greater system.rules left) (outcome.Added r n) → n < left
  close_smaller system left r n l = looked_fewer system left (Added r n) r n refl l

looked_limits : (greater : Tree → Tree → Type 0) (system : System) (left : ℕ) (made : Outcome) (r : RewriteRule) (n : ℕ) → made ≡ Added r n
    → Looks system.arities greater system.rules left made → IsWithinLimits (whole system (r ∷ []))
looked_limits greater system left made r n e (at_peaks peaks listed f) = (found_fits (subst (Finds system.arities greater system.rules left (map sides peaks)) e f)).limits
looked_limits greater system left made r n e (past_limit fault large) = absurd cc

-- a new rule from a peak keeps the limits
pub close_limits : (greater : Tree → Tree → Type 0) (system : System) (left : ℕ) (r : RewriteRule) (n : ℕ)
    → IsOutcome (Looks system.arities greater system.rules left) (outcome.Added r n) → IsWithinLimits (whole system (r ∷ []))
close_limits greater system left r n l = looked_limits greater system left (Added r n) r n refl l

-- the whole run
pub run_of : (equations : System) (greater : Tree → Tree → Type 0) (budget : ℕ) (system : System) (units : ℕ) (ending : Ending)
    → (system.arities ≡ equations.arities) × Takes equations.arities greater [] budget equations.rules (Ok (system.rules, units))
    → Closes system.arities greater system.rules units ending → Completes equations greater budget ending
run_of equations greater budget system units ending (e, t) c =
    let A : List ℕ → Type 0 = λ table. Closes table greater system.rules units ending in
    peaks_close system.rules units ending t (subst A e c)

-- ---- for the answers

-- a side of a rule has no more nodes than all sides together
nodes_within : (rules : List RewriteRule) (p : RewriteRule) → In p rules → size_of p.left + size_of p.right ≤ nodes_of rules
nodes_within rules p (in_first {x = q} {xs = qs}) = omega arith
nodes_within rules p (in_rest {x = q} {y = r} {xs = qs} i) = let h : size_of p.left + size_of p.right ≤ nodes_of qs = nodes_within qs p i in omega (arith, h)

pub equation_over : (system equations : System) (items : List RewriteRule) (i : ℕ) (p : RewriteRule) → IsSystem equations → IsWithinLimits equations
    → items ≡ equations.rules → system.arities ≡ equations.arities → i < length items → p ≡ get_or items i p
    → IsTermOver system.arities p.left × IsTermOver system.arities p.right
equation_over system equations items i p valid limits same arities below is =
    let E : List RewriteRule → Type 0 = λ xs. slice_get xs i ≡ Some p in
    let there : slice_get equations.rules i ≡ Some p = subst E same (slice_get_read items (length items) i p refl below is) in
    let rule = valid.each i p there in
    let few : size_of p.left + size_of p.right ≤ nodes_of equations.rules = nodes_within equations.rules p (in_of_get equations.rules i p there) in
    let all : nodes_of equations.rules ≤ 65536 = limits.nodes in
    let W : List ℕ → Type 0 = λ table. IsTermOver table p.left × IsTermOver table p.right in
    subst W (sym arities)
    (record { well_formed = rule.left_well_formed; small = omega (arith, few, all) }, record { well_formed = rule.right_well_formed; small = omega (arith, few, all) })

pub same_taking : (greater : Tree → Tree → Type 0) (equations : System) (budget : ℕ) (system other : System) (left more : ℕ) (rest : List RewriteRule)
    → other ≡ system → more ≡ left → IsTaking greater equations budget system left rest → IsTaking greater equations budget other more rest
same_taking greater equations budget system other left more rest e e' h =
    let S : System → Type 0 = λ s. IsTaking greater equations budget s more rest in
    let N : ℕ → Type 0 = λ n. IsTaking greater equations budget system n rest in
    subst S (sym e) (subst N (sym e') h)

module _ (equations : System) (greater : Tree → Tree → Type 0) (budget : ℕ) where
  abbrev Runs : Completion → Type 0
  Runs c = Completes equations greater budget (plain_ending c)

  pub runs_if_ok : (system : System) (units : ℕ) (answer : Result Completion OutOfMemory)
      → (system.arities ≡ equations.arities) × Takes equations.arities greater [] budget equations.rules (Ok (system.rules, units))
      → IfOk answer (λ c. Closes system.arities greater system.rules units (plain_ending c)) → IfOk answer Runs
  runs_if_ok system units (Ok c) t h = run_of equations greater budget system units (plain_ending c) t h
  runs_if_ok system units (Err e) t h = tt

  pub right_if_ok : IsSystem equations → IsReductionOrder equations.arities greater → (answer : Result Completion OutOfMemory)
      → IfOk answer Runs → IfOk answer (λ c. IsRightEnding equations greater (plain_ending c))
  right_if_ok valid order (Ok c) h = completes_right equations valid greater order budget (plain_ending c) h
  right_if_ok valid order (Err e) h = tt

-- ---- the arity table of the answer

-- an equation ends no run with rules
treats_no_rules : {arities : List ℕ} {greater : Tree → Tree → Type 0} {rules : List RewriteRule} {units : ℕ} {pair : RewriteRule} (made : List RewriteRule)
    → (end : Ending) → end ≡ Done made → Treats arities greater rules units pair (Ended end) → ⊥
treats_no_rules made end e (left_stops why n) = stop_no_rules made why e
treats_no_rules made end e (right_stops s m why a n) = stop_no_rules made why e
treats_no_rules made end e (no_order s t u v m n a b differ none) = absurd cc
treats_no_rules made end e (no_unit s t m a b differ o) = absurd cc
treats_no_rules made end e (no_room s t m n r a b differ o none) = absurd cc

takes_no_rules : {arities : List ℕ} {greater : Tree → Tree → Type 0} {rules es : List RewriteRule} {units : ℕ} (made : List RewriteRule) (end : Ending) → end ≡ Done made
    → Takes arities greater rules units es (Err end) → ⊥
takes_no_rules made end e (take_passed t ts) = takes_no_rules made end e ts
takes_no_rules made end e (take_added t ts) = takes_no_rules made end e ts
takes_no_rules made end e (take_ended t) = treats_no_rules made end e t

no_rules_arities : (arities : List ℕ) (c : Completion) → ((made : List RewriteRule) → plain_ending c ≡ Done made → ⊥) → HasArities arities c
no_rules_arities arities (completion.Done system) none = absurd (none system.rules refl)
no_rules_arities arities (completion.Unorientable s t) none = tt
no_rules_arities arities completion.Spent none = tt
no_rules_arities arities completion.Limit none = tt

finds_no_rules : {arities : List ℕ} {greater : Tree → Tree → Type 0} {rules ps : List RewriteRule} {units : ℕ} (made : List RewriteRule) (o : Outcome)
    → o ≡ Ended (Done made) → Finds arities greater rules units ps o → ⊥
finds_no_rules made o e none_found = absurd cc
finds_no_rules made o e (passed_over t rest) = finds_no_rules made o e rest
finds_no_rules made o e (found_rule t) = absurd cc
finds_no_rules made o e (found_end {why = why} t) = let h : why ≡ Done made = cc (e) in treats_no_rules made why h t

looks_no_rules : {arities : List ℕ} {greater : Tree → Tree → Type 0} {rules : List RewriteRule} {units : ℕ} (made : List RewriteRule) (o : Outcome)
    → o ≡ Ended (Done made) → Looks arities greater rules units o → ⊥
looks_no_rules made o e (at_peaks peaks listed f) = finds_no_rules made o e f
looks_no_rules made o e (past_limit fault large) = absurd cc

pub looked_arities : (greater : Tree → Tree → Type 0) (system : System) (left : ℕ) (c : Completion)
    → IsOutcome (Looks system.arities greater system.rules left) (outcome.Ended c) → (arities : List ℕ) → HasArities arities c
looked_arities greater system left c l arities = no_rules_arities arities c (λ made e. looks_no_rules made (Ended (plain_ending c)) (ap Ended e) l)

pub taken_arities : (equations : System) (greater : Tree → Tree → Type 0) (budget : ℕ) (c : Completion)
    → Takes equations.arities greater [] budget equations.rules (Err (plain_ending c)) → HasArities equations.arities c
taken_arities equations greater budget c t = no_rules_arities equations.arities c (λ made e. takes_no_rules made (plain_ending c) e t)

pub closed_arities : (arities others : List ℕ) → others ≡ arities → (answer : Result Completion OutOfMemory) → IfOk answer (HasArities others) → IfOk answer (HasArities arities)
closed_arities arities others e (Ok c) h = subst (λ table. HasArities table c) e h
closed_arities arities others e (Err why) h = tt
