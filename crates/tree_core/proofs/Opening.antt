-- The tree of a question that has no history.
use Rattle.std.proofs.Common.{◌≡◌, ◌≢◌, ℕ, zero, suc, ◌<◌, ◌≤◌, ◌+◌, true, false, eqb, eq-eqb, ne_eqb, cond, List, [], ◌∷◌, map, length, Some, None, slice_get, refl, sym, ap, ◌∙◌, subst, arith}
use Rattle.std.proofs.lemmas.List.{length-map}
use Rattle.std.proofs.lemmas.Option.{slice_get_within}
use native.Mathlib.Decide.{ℕ_discrete}
use mathlib.Core.Logic.{dite}
use Rattle.trs_defs.specs.System.{System}
use Rattle.trs_core.specs.Valid.{IsValid}
use Rattle.tree_state.specs.cert_step.ProofProblem as problem
use Rattle.tree_state.specs.cert_step.ProofProblem.{ProofProblem}
use Rattle.tree_state.specs.strategies.Kinds.{strategies_for}
use Rattle.tree_state.specs.declared.goal_state.GoalState.{GoalState}
use Rattle.tree_state.specs.tree_definitions.declared.mark.Mark.{Mark}
use Rattle.tree_state.specs.tree_definitions.declared.mark.Mark.TheVariants.{Idle, Running, Failed}
use Rattle.tree_state.specs.tree_definitions.declared.question.Question.{Question}
use Rattle.tree_state.specs.tree_definitions.Questions.{roots, goal_count}
use Rattle.tree_state.specs.tree_definitions.States.{TreeNode, Decided, new_node, roots_from, opening}
use Rattle.tree_state.specs.tree_definitions.History.{HistoryEntry, IsGiven}
use Rattle.tree_state.specs.tree_definitions.Verdicts.{IsClosed, IsLost}
use Rattle.tree_state.specs.Parts.{Parts, IsOpening, fresh_goals}
use Rattle.tree_core.specs.Invariant.{IsShaped, IsTold, IsTree, opens}
use Rattle.tree_state.proofs.tree_definitions.Lookups.{map_cases}
use Rattle.tree_state.proofs.tree_definitions.Roots.{root_count, root_below, root_there, root_within, roots_well_made}
use Rattle.tree_state.specs.strategies.TaskBounds.{pairs_in}
use Rattle.tree_state.proofs.FirstRoots.{length_fresh}
use Rattle.tree_core.proofs.Won.{closed_decided}
use Rattle.tree_core.proofs.Bounding.{bounded_opening}

root_cases : (h : ℕ) (ps : List ProofProblem) (k : ℕ) (y : TreeNode) → slice_get (roots_from h ps) k ≡ Some y → (p : ProofProblem) × (slice_get ps k ≡ Some p) × (y ≡ new_node (h + k) p)
root_cases h [] k y there = absurd cc
root_cases h (q ∷ ps) zero y there = let same : new_node h q ≡ y = cc in let e : h ≡ h + 0 = omega arith in (q, refl, sym same ∙ ap (λ n. new_node n q) e)
root_cases h (q ∷ ps) (suc k) y there =
    let r = root_cases (h + 1) ps k y there in
    let e : h + 1 + k ≡ h + suc k = omega arith in
    (r.0, r.1, r.2 ∙ ap (λ n. new_node n r.0) e)

pub idle_marks : (p : ProofProblem) (place : ℕ) (mark : Mark) → slice_get (map (λ _. Idle) (strategies_for p)) place ≡ Some mark → mark ≡ Idle
idle_marks p place mark there = (map_cases (λ _. Idle) (strategies_for p) place mark there).2

pub some_strategy : (p : ProofProblem) → slice_get (map (λ _. Idle) (strategies_for p)) 0 ≡ Some Idle
some_strategy problem.sn = refl
some_strategy (problem.dp pairs) = refl
some_strategy problem.loop = refl
some_strategy problem.cr = refl
some_strategy problem.cr_newman = refl
some_strategy problem.fork = refl
some_strategy problem.unr = refl
some_strategy problem.unr_newman = refl
some_strategy problem.split = refl

opens_before : (g h : ℕ) (ps : List ProofProblem) → g < h → opens g (roots_from h ps) ≡ 0
opens_before g h [] lt = refl
opens_before g h (p ∷ ps) lt =
    let no : eqb h g ≡ false = ne_eqb h g (λ e. omega (arith, e, lt)) in
    let rest = opens_before g (h + 1) ps (omega (arith, lt)) in
    let zero_one : ◌≡◌ {A = ℕ} (cond (eqb h g) 1 0) 0 = rw no refl in
    omega (arith, rest, zero_one)

opens_one : (g h : ℕ) (ps : List ProofProblem) → h ≤ g → g < h + length ps → opens g (roots_from h ps) ≡ 1
opens_one g h [] le lt = absurd (omega (arith, le, lt))
opens_one g h (p ∷ ps) le lt = dite (ℕ_discrete h g)
    (λ e.
    let yes : eqb h g ≡ true = eq-eqb h g e in
    let rest = opens_before g (h + 1) ps (omega (arith, e)) in
    let one : ◌≡◌ {A = ℕ} (cond (eqb h g) 1 0) 1 = rw yes refl in
    omega (arith, rest, one))
    (λ ne.
    let other : h ≢ g = λ e. ne e in
    let no : eqb h g ≡ false = ne_eqb h g other in
    let rest = opens_one g (h + 1) ps (omega (arith, le, other)) (omega (arith, lt)) in
    let none : ◌≡◌ {A = ℕ} (cond (eqb h g) 1 0) 0 = rw no refl in
    omega (arith, rest, none))

fresh_is : (ps : List ProofProblem) (k : ℕ) (goal : GoalState) → slice_get (fresh_goals ps) k ≡ Some goal → goal ≡ record { open_nodes = 1; is_lost = false }
fresh_is [] k goal there = absurd cc
fresh_is (p ∷ ps) zero goal there = cc
fresh_is (p ∷ ps) (suc k) goal there = fresh_is ps k goal there

module _ (system : System) (budget : ℕ) (question : Question) where
  abbrev nodes : List TreeNode
  nodes = roots_from 0 (roots question)

  node_is : (k : ℕ) (y : TreeNode) → slice_get nodes k ≡ Some y → (q : ProofProblem) × (slice_get (roots question) k ≡ Some q) × (y ≡ new_node k q)
  node_is k y there =
      let r = root_cases 0 (roots question) k y there in
      let e : 0 + k ≡ k = omega arith in
      (r.0, r.1, r.2 ∙ ap (λ n. new_node n r.0) e)

  undecided : (k : ℕ) (y : TreeNode) (d : Decided) → slice_get nodes k ≡ Some y → y.decision ≡ Some d → ⊥
  undecided k y d there dec = let r = node_is k y there in let none : y.decision ≡ None = ap (λ (x : TreeNode). x.decision) r.2 in absurd cc

  mark_is : (k : ℕ) (y : TreeNode) (place : ℕ) (mark : Mark) → slice_get nodes k ≡ Some y → slice_get y.marks place ≡ Some mark → mark ≡ Idle
  mark_is k y place mark there at =
      let r = node_is k y there in
      idle_marks r.0 place mark (subst (λ (x : TreeNode). slice_get x.marks place ≡ Some mark) r.2 at)

  not_stuck : (g : ℕ) → IsLost nodes g → ⊥
  not_stuck g h =
      let r = node_is h.n h.node h.there in
      let idle = subst (λ (x : TreeNode). slice_get x.marks 0 ≡ Some Idle) (sym r.2) (some_strategy r.0) in
      let f = h.stuck.failed 0 Idle idle in
      let e = f.1 in absurd cc

  not_won : (g : ℕ) → g < goal_count question → IsClosed nodes g → ⊥
  not_won g lt c =
      let q = root_below question g lt in
      let there = root_there 0 (roots question) g q.0 q.1 in
      let d = closed_decided nodes g c (new_node (0 + g) q.0) there in
      undecided g (new_node (0 + g) q.0) d.0 there d.1

  opening_shape : IsShaped (goal_count question) (opening question)
  opening_shape = record {
    root = λ g lt.
        let q = root_below question g lt in
        record { node = new_node (0 + g) q.0; there = root_there 0 (roots question) g q.0 q.1; goal_is = omega arith };
    range = λ n y there. let r = node_is n y there in rw r.2 (root_within question n r.0 r.1);
    fits = λ n y there. let r = node_is n y there in rw r.2 (length-map (strategies_for r.0) (λ _. Idle));
    later = λ m y d there dec c child. absurd (undecided m y d there dec);
    runs = λ number t there run. absurd cc;
    held = λ n place h. let e = mark_is n h.node place Running h.there h.mark in absurd cc;
  }

  opening_told : IsTold [] []
  opening_told = record {
    told_is = λ k t there. absurd cc;
    none = λ k le. refl;
    seats = λ k t there. absurd cc;
    owned = λ t seat some. refl;
  }

  pub opening_tree : (p : Parts) → IsValid system → IsOpening question p → IsTree question system budget p
  opening_tree p valid is = record {
    valid = valid;
    replays = rw (is.history, is.state) refl;
    legal = rw is.state (record {
      decided = λ n y d there dec. absurd (undecided n y d there dec);
      failed = λ n place y failure there f. let e = mark_is n y place (Failed failure) there f in absurd cc;
      born = λ n y le there. let r = node_is n y there in let lt = root_within question n r.0 r.1 in absurd (omega (arith, le, lt));
      once = λ n m k a b. absurd (undecided m a.parent a.d a.there a.decided);
      named = λ i t there run. absurd cc;
      alone = λ i j t u a b ru rv sn sp. absurd cc;
    });
    well_made = rw is.state (λ n y there. let r = node_is n y there in rw r.2 (roots_well_made system question n r.0 r.1));
    rooted = rw is.state (λ g q at. record { node = new_node (0 + g) q; there = root_there 0 (roots question) g q at; goal_is = omega arith; problem_is = refl });
    shaped = rw is.state opening_shape;
    counted = record {
      length_is = rw is.goals (length_fresh (roots question) ∙ root_count question);
      each = rw (is.goals, is.state) (λ g goal there.
          let f = fresh_is (roots question) g goal there in
          let lt = slice_get_within (fresh_goals (roots question)) g goal there in
          let one = opens_one g 0 (roots question) (omega arith) (omega (arith, lt, length_fresh (roots question))) in
          rw f (record { open_is = sym one; lost = λ e. absurd cc; not_lost = λ l. absurd (not_stuck g l) }));
      winner = rw is.state (λ g e. absurd cc);
      no_winner = rw is.state (λ none g lt c. not_won g lt c);
      only = rw is.state (λ g lt c. absurd (not_won g lt c));
      running = rw (is.running, is.state) refl;
      room = rw is.running (omega arith);
      cursor = rw is.cursor (omega arith);
      passed = λ going k y lt there. absurd (let z = is.cursor in omega (arith, lt, z));
    };
    is_told = rw (is.history, is.state) opening_told;
    bounded = bounded_opening question (pairs_in system) p is;
    given = λ seat number problem strategy h. elim (subst (λ (es : List HistoryEntry). IsGiven es seat number problem strategy) is.history h) [ ];
  }
