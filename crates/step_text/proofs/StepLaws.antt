-- Steps that are read are well-made, and printed ones are read again.
use Rattle.std.proofs.Common.{◌≡◌, ℕ, ◌≤◌, ◌-◌, ◌^◌, List, [], ◌∷◌, Ok, codes, refl, ap, subst, ◌∙◌, arith}
use Rattle.sexp_core.specs.Items.{Items}
use Rattle.trs_defs.specs.Path.{PlacedRule}
use Rattle.names_text.specs.Named.{NamedSystem, IsNamed}
use Rattle.cert_step.specs.ProofStep.{ProofStep, dp, graph, subterm, poly, lpo, kbo, usable_poly, loop, newman, parallel, strong, label, fork, confluence, ProofNodeStep, IsWellMade}
use Rattle.text_reading.specs.Reading.{Read, ◌<*>◌, ended, keyword, done}
use Rattle.text_reading.specs.Numbers.{number}
use Rattle.text_reading.proofs.Made.{Makes, applied, ok_same, made_part, made_done, made_list, made_by_word, made_number, made_any}
use Rattle.text_reading.proofs.Again.{Spells, spells_part, spells_done, spells_list, spells_form, spells_keyword, spells_number}
use Rattle.path_text.specs.Sharing.{Sharing, paths_weight, behind_paths}
use Rattle.std.specs.List.{AllByRecursion}
use Rattle.rewrite_core.specs.PathsOfJoin.{PathsOfJoin}
use Rattle.peak_text.specs.closed_pairs.StronglyClosed.{FourPaths}
use Rattle.path_text.specs.Paths.{paths_in}
use Rattle.path_text.specs.Ranges.{IsPlacedInRange, AreDefinedInRange}
use Rattle.peak_text.specs.TwoPaths.{paths_of_two}
use Rattle.peak_text.specs.FourPaths.{paths_of_four}
use Rattle.peak_text.specs.Ranges.{AreTwoInRange, AreFourInRange}
use Rattle.path_text.specs.Carrying.{Carries}
use Rattle.path_text.proofs.InTurn.{ended_read}
use Rattle.step_text.specs.Ranges.{HasNumbersInRange, IsReadMethod, IsReadStep, IsWellMadeInRange}
use Rattle.step_text.specs.DpText.{dp_parts}
use Rattle.step_text.specs.GraphText.{graph_parts, graph_step}
use Rattle.step_text.specs.SubtermText.{subterm_parts, subterm_step}
use Rattle.step_text.specs.PolyText.{poly_parts, poly_step}
use Rattle.step_text.specs.LpoText.{lpo_parts, lpo_step}
use Rattle.step_text.specs.KboText.{kbo_parts, kbo_step}
use Rattle.step_text.specs.UsableText.{usable_parts, usable_step}
use Rattle.step_text.specs.LoopText.{loop_parts, loop_step}
use Rattle.step_text.specs.NewmanText.{newman_parts, newman_step}
use Rattle.step_text.specs.ParallelText.{parallel_parts, parallel_step}
use Rattle.step_text.specs.StrongText.{strong_parts, strong_step}
use Rattle.step_text.specs.LabelText.{label_parts, label_step}
use Rattle.step_text.specs.ForkText.{fork_parts, fork_step}
use Rattle.step_text.specs.ConfluenceText.{confluence_parts}
use Rattle.step_text.specs.Steps.{forms, method, method_item, paths_of_method, node_step, step, paths_of_step, step_item, method_text, step_renumbered}
use Rattle.step_text.proofs.DpLaws.{dp_made, dp_again}
use Rattle.step_text.proofs.GraphLaws.{graph_made, graph_again}
use Rattle.step_text.proofs.SubtermLaws.{subterm_made, subterm_again}
use Rattle.step_text.proofs.PolyLaws.{poly_made, poly_again}
use Rattle.step_text.proofs.LpoLaws.{lpo_made, lpo_again}
use Rattle.step_text.proofs.KboLaws.{kbo_made, kbo_again}
use Rattle.step_text.proofs.UsableLaws.{usable_made, usable_again}
use Rattle.step_text.proofs.LoopLaws.{loop_made, loop_again}
use Rattle.step_text.proofs.NewmanLaws.{newman_made, newman_again}
use Rattle.step_text.proofs.ParallelLaws.{parallel_made, parallel_again}
use Rattle.step_text.proofs.StrongLaws.{strong_made, strong_again}
use Rattle.step_text.proofs.LabelLaws.{label_made, label_again}
use Rattle.step_text.proofs.ForkLaws.{fork_made, fork_again}
use Rattle.step_text.proofs.ConfluenceLaws.{confluence_made, confluence_again}

method_made : (named : NamedSystem) → IsNamed named → (sharing : Sharing) → AreDefinedInRange sharing → Makes (method named sharing) (IsReadMethod named.system)
method_made named is sharing defined =
    let few = is.valid.within_limits.symbols in
    made_by_word (forms named sharing) (IsReadMethod named.system) (
      dp_made named.system,
      (
        graph_made named.system,
        (
          subterm_made named,
          (
            poly_made named few,
            (
              lpo_made named few,
              (
                kbo_made named few,
                (
                  usable_made named few,
                  (
                    loop_made named is.counts sharing defined,
                    (
                      newman_made named.system sharing defined,
                      (parallel_made named.system, (strong_made named.system sharing defined, (label_made named.system sharing defined, (fork_made named is.counts sharing defined, (confluence_made named.system, tt))))),
                    ),
                  ),
                ),
              ),
            ),
          ),
        ),
      ),
    )

pub step_made : (named : NamedSystem) → IsNamed named → (sharing : Sharing) → AreDefinedInRange sharing → Makes (step named sharing) (IsReadStep named.system)
step_made named is sharing defined x v e =
    let (h, k, (node, le, (s, made, same))) =
    made_list _ _ node_step
    (made_part (keyword (codes "step")) _ (λ _. Unit {0}) _ (made_any (keyword (codes "step")))
    (made_part (number (2 ^ 63 - 1)) _ (λ n. n ≤ (2 ^ 63 - 1)) _ (made_number (2 ^ 63 - 1))
    (made_part (method named sharing) done (IsReadMethod named.system) (λ f w. f ≡ w) (method_made named is sharing defined) made_done)))
    x v e
    in
    subst (IsReadStep named.system) same
    (record { made = record { well_made = made.0; node = omega (arith, le); numbers = made.1 }; in_order = ap (node_step h node) made.2 })

method_again : (named : NamedSystem) → IsNamed named → (names : List (List PlacedRule)) (sharing : Sharing) (s : ProofStep) → IsWellMade named.system s → HasNumbersInRange s
    → Carries sharing names (paths_weight (paths_of_method s)) → Spells (method named sharing) 1024 (method_item named names s) (method_text s).in_order
method_again named is names sharing dp made numbers c =
    spells_form (forms named sharing) dp_parts (codes "dp") dp refl (λ at. refl) dp_again
method_again named is names sharing (graph items) made numbers c =
    spells_form (forms named sharing) graph_parts (codes "graph") graph_step refl (λ at. refl) (graph_again items made numbers)
method_again named is names sharing (subterm projection) made numbers c =
    spells_form (forms named sharing) (subterm_parts named) (codes "subterm") subterm_step refl (λ at. refl) (subterm_again named is projection made numbers)
method_again named is names sharing (poly entries) made numbers c =
    spells_form (forms named sharing) (poly_parts named) (codes "poly") poly_step refl (λ at. refl) (poly_again named is entries made)
method_again named is names sharing (lpo entries) made numbers c =
    spells_form (forms named sharing) (lpo_parts named) (codes "lpo") lpo_step refl (λ at. refl) (lpo_again named is entries made numbers)
method_again named is names sharing (kbo entries) made numbers c =
    spells_form (forms named sharing) (kbo_parts named) (codes "kbo") kbo_step refl (λ at. refl) (kbo_again named is entries made)
method_again named is names sharing (usable_poly entries) made numbers c =
    spells_form (forms named sharing) (usable_parts named) (codes "usable-poly") usable_step refl (λ at. refl) (usable_again named is entries made)
method_again named is names sharing (loop start path place) made numbers c =
    spells_form (forms named sharing) (loop_parts named sharing) (codes "loop") loop_step refl (λ at. refl) (loop_again named is names sharing start path place made numbers.0 numbers.1 c)
method_again named is names sharing (newman items) made numbers c =
    spells_form (forms named sharing) (newman_parts sharing) (codes "newman") newman_step refl (λ at. refl) (newman_again names sharing items numbers c)
method_again named is names sharing (parallel items) made numbers c =
    spells_form (forms named sharing) parallel_parts (codes "parallel") parallel_step refl (λ at. refl) (parallel_again items numbers)
method_again named is names sharing (strong items) made numbers c =
    spells_form (forms named sharing) (strong_parts sharing) (codes "strong") strong_step refl (λ at. refl) (strong_again names sharing items numbers c)
method_again named is names sharing (label ranks items) made numbers c =
    spells_form (forms named sharing) (label_parts sharing) (codes "label") label_step refl (λ at. refl) (label_again names sharing ranks items made numbers c)
method_again named is names sharing (fork start left right test) made numbers c =
    spells_form (forms named sharing) (fork_parts named sharing) (codes "fork") fork_step refl (λ at. refl)
    (fork_again named is names sharing start left right test made numbers.0 numbers.1 c)
method_again named is names sharing confluence made numbers c =
    spells_form (forms named sharing) confluence_parts (codes "confluence") confluence refl (λ at. refl) confluence_again

pub step_again : (named : NamedSystem) → IsNamed named → (names : List (List PlacedRule)) (sharing : Sharing) (s : ProofNodeStep) → IsWellMadeInRange named.system s
    → Carries sharing names (paths_weight (paths_of_step s)) → Spells (step named sharing) 1025 (step_item named names s) (step_renumbered s)
step_again named is names sharing s h c =
    spells_list node_step
    (spells_part 1024 node_step (spells_keyword (codes "step") refl)
    (spells_part 1024 (node_step tt) (spells_number (2 ^ 63 - 1) s.node (omega (arith, h.node)) (omega (arith, h.node)))
    (spells_part 1024 (node_step tt s.node) (method_again named is names sharing s.step h.well_made h.numbers c) (spells_done (step_renumbered s)) (omega arith) (omega arith))
    (omega arith) (omega arith)) (omega arith) (omega arith))

-- ---- what the paths of a step leave

-- a step that is numbered anew has the same paths
pub same_paths : (s : ProofNodeStep) → paths_of_step (step_renumbered s) ≡ paths_of_step s
same_paths s = by_method s.step
  where
    by_method : (m : ProofStep) → paths_of_method (method_text m).in_order ≡ paths_of_method m
    by_method dp = refl
    by_method (graph items) = refl
    by_method (subterm projection) = refl
    by_method (poly entries) = refl
    by_method (lpo entries) = refl
    by_method (kbo entries) = refl
    by_method (usable_poly entries) = refl
    by_method (loop start path place) = refl
    by_method (newman items) = refl
    by_method (parallel items) = refl
    by_method (strong items) = refl
    by_method (label ranks items) = refl
    by_method (fork start left right test) = refl
    by_method confluence = refl

pub step_left : (s t : Sharing) (h : Read (Unit {0})) (n : Read ℕ) (m : Read ProofStep) (more : Items) (v : ProofNodeStep)
    → ((x : ProofStep) → m ≡ Ok x → t ≡ behind_paths s (paths_of_method x)) → ended (Ok node_step <*> h <*> n <*> m) more ≡ Ok v → t ≡ behind_paths s (paths_of_step v)
step_left s t h n m more v left e =
    let c = applied (Ok node_step <*> h <*> n) m v (ended_read (Ok node_step <*> h <*> n <*> m) more v e) in
    let b = applied (Ok node_step <*> h) n c.make c.is_make in
    let a = applied (Ok node_step) h b.make b.is_make in
    let same : node_step a.value b.value c.value ≡ v =
    ap (λ (f : Unit {0} → ℕ → ProofStep → ProofNodeStep). f a.value b.value c.value) (ok_same node_step a.make a.is_make)
    ∙ ap (λ (f : ℕ → ProofStep → ProofNodeStep). f b.value c.value) a.made
    ∙ ap (λ (f : ProofStep → ProofNodeStep). f c.value) b.made ∙ c.made in
    left c.value c.is_value ∙ ap (λ (w : ProofNodeStep). behind_paths s (paths_of_step w)) same

-- ---- the numbers in its paths

two_in_range : (joins : List PathsOfJoin) → AllByRecursion AreTwoInRange joins → AllByRecursion (AllByRecursion IsPlacedInRange) (paths_in paths_of_two joins)
two_in_range [] h = tt
two_in_range (j ∷ joins) h = (h.0.0, (h.0.1, two_in_range joins h.1))

four_in_range : (fours : List FourPaths) → AllByRecursion AreFourInRange fours → AllByRecursion (AllByRecursion IsPlacedInRange) (paths_in paths_of_four fours)
four_in_range [] h = tt
four_in_range (f ∷ fours) h = (h.0.left_u, (h.0.right_u, (h.0.right_v, (h.0.left_v, four_in_range fours h.1))))

pub step_paths_in_range : (s : ProofStep) → HasNumbersInRange s → AllByRecursion (AllByRecursion IsPlacedInRange) (paths_of_method s)
step_paths_in_range dp h = tt
step_paths_in_range (graph items) h = tt
step_paths_in_range (subterm projection) h = tt
step_paths_in_range (poly entries) h = tt
step_paths_in_range (lpo entries) h = tt
step_paths_in_range (kbo entries) h = tt
step_paths_in_range (usable_poly entries) h = tt
step_paths_in_range (loop start path place) h = (h.0, tt)
step_paths_in_range (newman items) h = two_in_range items h
step_paths_in_range (parallel items) h = tt
step_paths_in_range (strong items) h = four_in_range items h
step_paths_in_range (label ranks items) h = two_in_range items h
step_paths_in_range (fork start left right test) h = (h.0, (h.1, tt))
step_paths_in_range confluence h = tt
