-- What a claim answers.
use Rattle.std.proofs.Common.{◌≡◌, ℕ, ◌<◌, ◌≤◌, false, [], ◌∷◌, length, Some, None, slice_get, refl, sym, subst, arith}
use native.Mathlib.Decide.{dec_le}
use mathlib.Core.Logic.{dite}
use Rattle.trs_defs.specs.System.{System}
use Rattle.trs_defs.specs.Member.{In}
use Rattle.trs_defs.proofs.Members.{in_of_get}
use Rattle.tree_state.specs.cert_step.ProofProblem.{ProofProblem, problem_of, IsWellMadeProblem}
use Rattle.tree_state.specs.cert_step.declared.problem.Problem.{Problem}
use Rattle.tree_state.specs.strategies.declared.strategy.Strategy.{Strategy}
use Rattle.tree_state.specs.strategies.Kinds.{strategies_for}
use Rattle.tree_state.specs.tree_definitions.declared.question.Question.{Question}
use Rattle.tree_state.specs.tree_definitions.States.{TreeNode}
use Rattle.tree_state.specs.Parts.{Parts, free_place, is_done_by, claimed_parts}
use Rattle.tree_state.specs.tree_definitions.Trees.{ProofTree}
use Rattle.tree_state.specs.tree_definitions.Replies.{IsTask, IsAgain, IsRunnable}
use Rattle.tree_core.specs.Invariant.{IsTree}
use Rattle.tree_core.proofs.Claiming.{claims, claim_runs, not_done, none_is_free, again}
use Rattle.tree_core.proofs.Trees.{tree_of}

module _ (question : Question) (system : System) (budget : ℕ) (p : Parts) (tree : IsTree question system budget p) where
  -- the cursor has passed nodes of which nothing can be claimed
  pub moved_tree : (going : is_done_by p ≡ false) (r : ℕ) → r ≤ length p.state.nodes
      → ((k : ℕ) (x : TreeNode) → p.cursor ≤ k → k < r → slice_get p.state.nodes k ≡ Some x → free_place p.goals x ≡ None)
      → IsTree question system budget (record p { cursor = r })
  moved_tree going r within passed = record {
    valid = tree.valid;
    replays = tree.replays;
    legal = tree.legal;
    well_made = tree.well_made;
    rooted = tree.rooted;
    shaped = tree.shaped;
    counted = record {
      length_is = tree.counted.length_is;
      each = tree.counted.each;
      winner = tree.counted.winner;
      no_winner = tree.counted.no_winner;
      only = tree.counted.only;
      running = tree.counted.running;
      room = tree.counted.room;
      cursor = within;
      passed = λ same k x lt here. dite (dec_le p.cursor k) (λ le. passed k x le lt here) (λ small. tree.counted.passed going k x (omega (arith, small)) here);
    };
    is_told = tree.is_told;
    given = tree.given;
    bounded = record { within = tree.bounded.within };
  }

  -- there is more room
  pub roomy_tree : (room : ℕ) → p.room ≤ room → IsTree question system budget (record p { room = room })
  roomy_tree room le = record {
    valid = tree.valid;
    replays = tree.replays;
    legal = tree.legal;
    well_made = tree.well_made;
    rooted = tree.rooted;
    shaped = tree.shaped;
    counted = record {
      length_is = tree.counted.length_is;
      each = tree.counted.each;
      winner = tree.counted.winner;
      no_winner = tree.counted.no_winner;
      only = tree.counted.only;
      running = tree.counted.running;
      room = omega (arith, tree.counted.room, le);
      cursor = tree.counted.cursor;
      passed = tree.counted.passed;
    };
    is_told = tree.is_told;
    given = tree.given;
    bounded = record { within = tree.bounded.within };
  }

  -- there is room for more nodes
  pub node_roomy_tree : (room : ℕ) → IsTree question system budget (record p { node_room = room })
  node_roomy_tree room = record {
    valid = tree.valid;
    replays = tree.replays;
    legal = tree.legal;
    well_made = tree.well_made;
    rooted = tree.rooted;
    shaped = tree.shaped;
    counted = record {
      length_is = tree.counted.length_is;
      each = tree.counted.each;
      winner = tree.counted.winner;
      no_winner = tree.counted.no_winner;
      only = tree.counted.only;
      running = tree.counted.running;
      room = tree.counted.room;
      cursor = tree.counted.cursor;
      passed = tree.counted.passed;
    };
    is_told = tree.is_told;
    given = tree.given;
    bounded = record { within = tree.bounded.within };
  }

  -- a task for a strategy of a node can be run
  pub is_runnable : (n : ℕ) (node : TreeNode) → slice_get p.state.nodes n ≡ Some node → (number place : ℕ) (pr : Problem) (strategy : Strategy) (now : ProofTree)
      → tree_of question system budget p ≡ now → node.problem ≡ problem_of pr → slice_get (strategies_for node.problem) place ≡ Some strategy
      → IsRunnable now.system (record { ticket = number; problem = pr; strategy = strategy })
  is_runnable n node there number place pr strategy now is pr_is strategy_is =
      subst (λ (t : ProofTree). IsRunnable t.system (record { ticket = number; problem = pr; strategy = strategy })) is
      (record {
        problem = subst (IsWellMadeProblem system) pr_is (tree.well_made n node there);
        kind = subst (λ (q : ProofProblem). In strategy (strategies_for q)) pr_is (in_of_get (strategies_for node.problem) place strategy strategy_is);
      })

  pub is_again : (going : is_done_by p ≡ false) → ((k : ℕ) (x : TreeNode) → slice_get p.state.nodes k ≡ Some x → free_place p.goals x ≡ None)
      → IsAgain (tree_of question system budget p)
  is_again going none =
      let a = again question system budget p tree going none in
      record { going = not_done question system budget p tree going; none = none_is_free question system budget p tree going none; ticket = a.0; runs = a.1 }

  module _ (going : is_done_by p ≡ false) (n place : ℕ) (node : TreeNode) (there : slice_get p.state.nodes n ≡ Some node) (free : free_place p.goals node ≡ Some place)
      (low : p.cursor ≤ n) (passed : (k : ℕ) (x : TreeNode) → p.cursor ≤ k → k < n → slice_get p.state.nodes k ≡ Some x → free_place p.goals x ≡ None) (seat : ℕ) where
    -- the answer names the ticket and the task for which it was given
    pub is_task : (q : Parts) (room number : ℕ) (pr : Problem) (strategy : Strategy) (now : ProofTree) → tree_of question system budget p ≡ now
        → q ≡ record (claimed_parts p seat n place (problem_of pr) strategy node) { room = room } → number ≡ length p.state.tickets → node.problem ≡ problem_of pr
        → slice_get (strategies_for node.problem) place ≡ Some strategy
        → IsTask now seat (tree_of question system budget q) (record { ticket = number; problem = pr; strategy = strategy })
    is_task q room number pr strategy now is q_is number_is pr_is strategy_is =
        subst (λ (t : ProofTree). IsTask t seat (tree_of question system budget q) (record { ticket = number; problem = pr; strategy = strategy })) is
        (subst (λ (x : Parts). IsTask (tree_of question system budget p) seat (tree_of question system budget x) (record { ticket = number; problem = pr; strategy = strategy })) (sym q_is)
        (subst (λ (k : ℕ). IsTask (tree_of question system budget p) seat (tree_of question system budget (record (claimed_parts p seat n place (problem_of pr) strategy node) { room = room }))
        (record { ticket = k; problem = pr; strategy = strategy })) (sym number_is)
        (record {
          adds = record { follows = claims question system budget p tree going n place node there free low passed seat room (problem_of pr) strategy pr_is strategy_is; tree = refl };
          runs = claim_runs question system budget p tree going n place node there free low passed seat room (problem_of pr) strategy pr_is strategy_is;
        })))
