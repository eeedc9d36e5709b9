-- What the search over the constraints answers is so of the search over the paths.
use Rattle.std.specs.Prelude.{◌≡◌, ◌<◌, ◌≤◌, ℕ, true, false, not, eqb, List, [], ◌∷◌, All, Ok, Err, Result, Some, None, IsTrue, IfOk, length, slice_get, get_or, refl}
use Rattle.std.specs.Global.{Vec}
use Rattle.std.proofs.Common.{ap, sym, ◌∙◌, subst, arith}
use Rattle.std.proofs.lemmas.Bool.Decides.{nat_tests}
use Rattle.std.proofs.lemmas.Option.{slice_get_within, slice_get-get_or}
use Rattle.std.proofs.lemmas.Bool.{and_parts, not-true, not-false}
use Rattle.trs_defs.specs.Member.{In}
use Rattle.trs_defs.specs.System.{System, IsSystem, RewriteRule}
use Rattle.trs_defs.proofs.Members.{get_of_in, in_of_get}
use Rattle.assign_search.specs.Puzzle.{Puzzle, any_below, solution_of, is_solution, count_of}
use Rattle.assign_search.specs.Searched.{IsAnswer}
use Rattle.assign_search.specs.declared.search.Search.{Search}
use Rattle.assign_search.specs.declared.search.Search.TheVariants.{Found, NotThere, Spent, Stopped}
use Rattle.assign_search.proofs.Refuting.{any_below_each}
use Rattle.assign_search.proofs.Laws.{found_solves}
use Rattle.term_pool.specs.Listed.{Listed}
use Rattle.rewrite_core.specs.PlacedPeak.{PlacedPeak}
use Rattle.rewrite_core.specs.PathsOfJoin.{PathsOfJoin}
use Rattle.join_find.specs.crit_pairs.PeakList.{ListsPeaks}
use Rattle.join_find.specs.First.{Along, along_end, along_item}
use Rattle.join_find.specs.StrongRow.{AreLinear}
use Rattle.join_find.specs.Answers.{IsFinding}
use Rattle.join_find.proofs.Firsts.{along_from, along_to}
use Rattle.join_find.proofs.NewmanLaw.{along_length}
use Rattle.path_lists.proofs.PathsOnce.{path_lists_once}
use Rattle.label_find.specs.declared.side_rules.SideRules.{SideRules}
use Rattle.label_find.specs.declared.constraint.PeakConstraint.{PeakConstraint}
use Rattle.label_find.specs.declared.label.Labelled.{Labelled}
use Rattle.label_find.specs.LabelRow.{PeakPaths, ArePathsOf, CanClose, IsLabelSearch, HasSearch, IsFirstClosing, FindsLabel}
use Rattle.label_find.specs.LabelAnswers.{IsLabelling, IsLabelledBy}
use Rattle.label_find.specs.ConstraintPuzzle.{is_met, uses_rule, label_puzzle, KeepsRules, SaysIn, IsConstraintFor}
use Rattle.label_find.specs.Closing.{CanAllBeClosed, IsJoinBy}
use Rattle.label_find.proofs.ConstraintReads.{at_this}
use Rattle.label_find.proofs.Numbers.{peak_numbers, used_below, few_peaks}

-- ---- the paths of the peaks

-- they, and what the constraints say of them
pub record WithPaths (rules : List RewriteRule) (sides : List SideRules) (peaks : List PlacedPeak) (ds : List PeakConstraint) : Type 0 where
  pub paths : List PeakPaths
  pub are_paths : Along (ArePathsOf rules) peaks paths
  pub says : Along (SaysIn sides) paths ds

pub with_paths : (rules : List RewriteRule) (sides : List SideRules) {peaks : List PlacedPeak} {ds : List PeakConstraint} → Along (IsConstraintFor rules sides) peaks ds → WithPaths rules sides peaks ds
with_paths rules sides along_end = record { paths = []; are_paths = along_end; says = along_end }
with_paths rules sides (along_item h rest) =
    let later = with_paths rules sides rest in
    record { paths = h.paths ∷ later.paths; are_paths = along_item h.are_paths later.are_paths; says = along_item h.says later.says }

-- ---- the constraints

pub is_label_search : (rules : List RewriteRule) (sides : List SideRules) {paths : List PeakPaths} {ds : List PeakConstraint} → Along (SaysIn sides) paths ds
    → IsLabelSearch rules paths (label_puzzle (length rules) sides ds)
is_label_search rules sides {paths = paths} {ds = ds} says = record {
  slots = refl;
  ranks = λ k. refl;
  constraints = along_length says;
  uses = λ c k p at. (let (d, there, h) = along_from says c p at in at_this (uses_rule sides k) ds c d there ∙ h.says.used k);
  truth = λ c ranks p at. (let (d, there, h) = along_from says c p at in let same = at_this (is_met sides ranks) ds c d there in let met = h.says.met ranks in
      (λ t. met.0 (sym same ∙ t), λ k. same ∙ met.1 k));
}

module _ (rules : List RewriteRule) (sides : List SideRules) (peaks : List PlacedPeak) (critical : ListsPeaks rules (Ok peaks)) where
  keeps_rules : (peak : PlacedPeak) → In peak peaks → (d : PeakConstraint) → IsConstraintFor rules sides peak d → KeepsRules (length rules) sides d
  keeps_rules peak there d h =
      let numbers = peak_numbers rules peaks critical peak there in
      record {
        there = h.says.there;
        below = λ k t. used_below rules peak h.paths numbers h.are_paths k (sym (h.says.says.used k) ∙ t);
        lists = h.says.says.lists;
      }

  module _ (ds : List PeakConstraint) (along : Along (IsConstraintFor rules sides) peaks ds) where
    pub all_keep : All (KeepsRules (length rules) sides) ds
    all_keep k d below =
        let there : slice_get ds k ≡ Some (get_or ds k d) = slice_get-get_or ds k d below in
        let (peak, at, h) = along_to along k (get_or ds k d) there in
        keeps_rules peak (in_of_get peaks k peak at) (get_or ds k d) h

    pub few_constraints : length ds ≤ 4194304
    few_constraints = let few = few_peaks rules peaks critical in let same = along_length along in omega (arith, few, same)

-- ---- the answers

abbrev pub has_search : (rules : List RewriteRule) (sides : List SideRules) (peaks : List PlacedPeak) (ds : List PeakConstraint) → AreLinear rules → WithPaths rules sides peaks ds → HasSearch rules peaks
has_search rules sides peaks ds linear h = record {
  linear = linear;
  paths = h.paths;
  are_paths = h.are_paths;
  search = label_puzzle (length rules) sides ds;
  is_search = is_label_search rules sides h.says;
}

eqb_true : (m n : ℕ) → eqb m n ≡ true → m ≡ n
eqb_true m n h = grind (arith, nat_tests)

-- a solution has a value for each slot, and no constraint is false
pub solution_parts : (z : Puzzle) (p : List ℕ) → is_solution z p ≡ true → (length p ≡ z.slots) × (any_below (λ c. not (z.truth c p)) z.constraints ≡ false)
unfolding is_solution
solution_parts z p h =
    let both = and_parts (eqb (length p) z.slots) (not (any_below (λ c. not (z.truth c p)) z.constraints)) h in
    (eqb_true (length p) z.slots both.0, not-true (any_below (λ c. not (z.truth c p)) z.constraints) both.1)

true_at : (z : Puzzle) (p : List ℕ) → solution_of z ≡ Some p → (c : ℕ) → c < z.constraints → IsTrue (z.truth c p)
true_at z p e c below =
    let parts = solution_parts z p (found_solves z p e).0 in
    not-false (z.truth c p) (any_below_each (λ d. not (z.truth d p)) z.constraints c parts.1 below)

same_paths : (system : System) → IsSystem system → (peak : PlacedPeak) (p q : PeakPaths) → ArePathsOf system.rules peak p → ArePathsOf system.rules peak q → p ≡ q
same_paths system valid peak p q h k =
    let lefts = path_lists_once system valid peak.left p.lefts q.lefts h.from_left k.from_left in
    let rights = path_lists_once system valid peak.right p.rights q.rights h.from_right k.from_right in
    let peaks = h.is ∙ sym k.is in
    ap (λ (x : PlacedPeak). record { peak = x; lefts = p.lefts; rights = p.rights }) peaks
    ∙ (ap (λ (x : List Listed). record { peak = q.peak; lefts = x; rights = p.rights }) lefts ∙ ap (λ (x : List Listed). record { peak = q.peak; lefts = q.lefts; rights = x }) rights)

-- ranks that solve the search close each peak
pub can_all_be_closed : (system : System) → IsSystem system → (sides : List SideRules) (peaks : List PlacedPeak) (ds : List PeakConstraint) (ranks : List ℕ) → WithPaths system.rules sides peaks ds
    → solution_of (label_puzzle (length system.rules) sides ds) ≡ Some ranks → CanAllBeClosed system.rules ranks peaks
can_all_be_closed system valid sides peaks ds ranks h e peak there = record { by_paths = λ q are. go q are (get_of_in there) }
  where
    go : (q : PeakPaths) → ArePathsOf system.rules peak q → (i : ℕ) × (slice_get peaks i ≡ Some peak) → CanClose ranks q
    go q are (i, at) =
        let (p, at_p, p_are) = along_from h.are_paths i peak at in
        let search = is_label_search system.rules sides h.says in
        let below = slice_get_within h.paths i p at_p in
        let counted = search.constraints in
        let met = true_at (label_puzzle (length system.rules) sides ds) ranks e i (omega (arith, below, counted)) in
        subst (λ (x : PeakPaths). CanClose ranks x) (same_paths system valid peak p q p_are are) ((search.truth i ranks p at_p).0 met)

pub closings_along : (system : System) → IsSystem system → (ranks : List ℕ) {peaks : List PlacedPeak} {paths : List PeakPaths} {joins : List PathsOfJoin} → Along (ArePathsOf system.rules) peaks paths
    → Along (IsJoinBy system.rules ranks) peaks joins → Along (IsFirstClosing ranks) paths joins
closings_along system valid ranks along_end along_end = along_end
closings_along system valid ranks (along_item {a = peak} {b = p} h rest) (along_item {b = join} k later) =
    along_item (subst (λ (x : PeakPaths). IsFirstClosing ranks x join) (same_paths system valid peak k.paths p k.are_paths h) k.closing) (closings_along system valid ranks rest later)

-- what the search answers, by its cases
module _ (n m : ℕ) (sides : List SideRules) (ds : List PeakConstraint) (budget : ℕ) (rose : Type 0) (answer : Search (Vec ℕ)) (same : n ≡ m) (h : IsAnswer (λ (v : Vec ℕ). v.items) (label_puzzle n sides ds) budget rose answer) where
  pub first_of : (a : Vec ℕ) → answer ≡ Found a → (solution_of (label_puzzle m sides ds) ≡ Some a.items) × (count_of (label_puzzle m sides ds) < budget)
  first_of a is =
      let P : ℕ → Search (Vec ℕ) → Type 0 = λ k x. IsAnswer (λ (v : Vec ℕ). v.items) (label_puzzle k sides ds) budget rose x in
      subst (λ (k : ℕ). P k (Found a)) same (subst (P n) is h)

  pub none_of : answer ≡ NotThere → (solution_of (label_puzzle m sides ds) ≡ None) × (count_of (label_puzzle m sides ds) < budget)
  none_of is =
      let P : ℕ → Search (Vec ℕ) → Type 0 = λ k x. IsAnswer (λ (v : Vec ℕ). v.items) (label_puzzle k sides ds) budget rose x in
      subst (λ (k : ℕ). P k NotThere) same (subst (P n) is h)

  pub spent_of : answer ≡ Spent → budget ≤ count_of (label_puzzle m sides ds)
  spent_of is =
      let P : ℕ → Search (Vec ℕ) → Type 0 = λ k x. IsAnswer (λ (v : Vec ℕ). v.items) (label_puzzle k sides ds) budget rose x in
      subst (λ (k : ℕ). P k Spent) same (subst (P n) is h)

pub labelling_found : {E : Type 0} (system : System) → IsSystem system → (sides : List SideRules) (peaks : List PlacedPeak) (ds : List PeakConstraint) (budget : ℕ) (ranks : List ℕ) (rose more : Type 0) (answer : Result (Search Labelled) E)
    → AreLinear system.rules → WithPaths system.rules sides peaks ds → solution_of (label_puzzle (length system.rules) sides ds) ≡ Some ranks → count_of (label_puzzle (length system.rules) sides ds) < budget → (rose → more)
    → IfOk answer (IsFinding (IsLabelledBy system.rules peaks ranks) ⊥ rose) → IfOk answer (IsLabelling system.rules peaks budget more)
labelling_found system valid sides peaks ds budget ranks rose more (Ok (Found a)) linear h first few later found =
    let P : List ℕ → Type 0 = λ rs. FindsLabel system.rules peaks budget rs a.joins.items in
    subst P (sym found.ranks_are) (record {
      over = has_search system.rules sides peaks ds linear h;
      first = first;
      few = few;
      closings = closings_along system valid ranks h.are_paths found.joined;
    })
labelling_found system valid sides peaks ds budget ranks rose more (Ok NotThere) linear h first few later none = absurd none
labelling_found system valid sides peaks ds budget ranks rose more (Ok Spent) linear h first few later none = absurd none
labelling_found system valid sides peaks ds budget ranks rose more (Ok Stopped) linear h first few later stopped = later stopped
labelling_found system valid sides peaks ds budget ranks rose more (Err e) linear h first few later none = tt

-- where the count of stops rose from some time on, it rose from an earlier time on
pub rose_before : {E : Type 0} (rules : List RewriteRule) (peaks : List PlacedPeak) (budget : ℕ) (rose earlier : Type 0) (answer : Result (Search Labelled) E) → (rose → earlier)
    → IfOk answer (IsLabelling rules peaks budget rose) → IfOk answer (IsLabelling rules peaks budget earlier)
rose_before rules peaks budget rose earlier (Ok (Found a)) before h = h
rose_before rules peaks budget rose earlier (Ok NotThere) before h = h
rose_before rules peaks budget rose earlier (Ok Spent) before h = h
rose_before rules peaks budget rose earlier (Ok Stopped) before h = before h
rose_before rules peaks budget rose earlier (Err e) before h = h
