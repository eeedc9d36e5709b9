-- What the flags of a board say.
use Rattle.std.proofs.Common.{◌≡◌, inl, inr, ℕ, zero, suc, ◌<◌, Bool, true, false, ◌||◌, ◌&&◌, List, [], ◌∷◌, Option, Some, None, slice_get, refl, arith}
use Rattle.std.specs.Option.{is_some}
use Rattle.std.specs.List.{list_all}
use Rattle.std.proofs.lemmas.Bool.{and_parts, or_cases, or_left, or_right}
use Rattle.std.proofs.lemmas.Option.{slice_get_within}
use Rattle.tree_state.specs.declared.goal_state.GoalState.{GoalState}
use Rattle.tree_state.specs.tree_definitions.States.{TreeNode}
use Rattle.tree_state.specs.tree_definitions.Verdicts.{IsLost, AllLost, HasVerdict, IsDone}
use Rattle.tree_state.specs.tree_definitions.Events.{IsOver, decided, lost, done}
use Rattle.tree_state.specs.Parts.{Parts, lost_at, is_lost_in, all_lost, has_verdict_by, is_done_by, is_over_by}
use Rattle.tree_core.specs.Invariant.{AreCounted}
use Rattle.trs_defs.proofs.ListItems.{item_there}

pub not_true : (b : Bool) → (b ≡ true → ⊥) → b ≡ false
not_true true h = absurd (h refl)
not_true false h = refl

pub true_false : (b : Bool) → b ≡ true → b ≡ false → ⊥
true_false b e f = cc

pub all_at : {A : Type 0} (f : A → Bool) (xs : List A) → list_all f xs ≡ true → (k : ℕ) (x : A) → slice_get xs k ≡ Some x → f x ≡ true
all_at f [] e k x there = absurd cc
all_at f (y ∷ xs) e zero x there = let same : y ≡ x = cc in rw (← same) (and_parts (f y) (list_all f xs) e).0
all_at f (y ∷ xs) e (suc k) x there = all_at f xs (and_parts (f y) (list_all f xs) e).1 k x there

pub all_true : {A : Type 0} (f : A → Bool) (xs : List A) → ((k : ℕ) (x : A) → slice_get xs k ≡ Some x → f x ≡ true) → list_all f xs ≡ true
all_true f [] h = refl
all_true f (y ∷ xs) h = rw (h 0 y refl) (all_true f xs (λ k x there. h (suc k) x there))

pub some_not : {A : Type 0} (f : A → Bool) (xs : List A) → list_all f xs ≡ false → (k : ℕ) × (x : A) × (slice_get xs k ≡ Some x) × (f x ≡ false)
some_not {A = A} f [] e = absurd cc
some_not {A = A} f (y ∷ xs) e = go (f y) refl e (some_not f xs)
  where
    go : (b : Bool) → f y ≡ b → (b && list_all f xs) ≡ false → (list_all f xs ≡ false → (k : ℕ) × (x : A) × (slice_get xs k ≡ Some x) × (f x ≡ false))
        → (k : ℕ) × (x : A) × (slice_get (y ∷ xs) k ≡ Some x) × (f x ≡ false)
    go true is rest more = let m = more rest in (suc m.0, m.1, m.2, m.3)
    go false is rest more = (0, y, refl, is)

pub some_of : {A : Type 0} (o : Option A) → is_some o ≡ true → (x : A) × (o ≡ Some x)
some_of None e = absurd cc
some_of (Some x) e = (x, refl)

pub is_some_of : {A : Type 0} (o : Option A) (x : A) → o ≡ Some x → is_some o ≡ true
is_some_of o x e = rw e refl

module _ (goals : ℕ) (p : Parts) (c : AreCounted goals p) where
  lost_by : (g : ℕ) (o : Option GoalState) → slice_get p.goals g ≡ o → lost_at o ≡ true → IsLost p.state.nodes g
  lost_by g None there e = absurd cc
  lost_by g (Some goal) there e = (c.each g goal there).lost e

  pub lost_is : (g : ℕ) → is_lost_in p.goals g ≡ true → IsLost p.state.nodes g
  lost_is g e = lost_by g (slice_get p.goals g) refl e

  pub is_lost : (g : ℕ) → g < goals → IsLost p.state.nodes g → is_lost_in p.goals g ≡ true
  is_lost g lt h =
      let there = item_there p.goals g (omega (arith, lt, c.length_is)) in
      let flag = (c.each g there.0 there.1).not_lost h in
      rw there.1 flag

  pub all_lost_is : all_lost p.goals ≡ true → AllLost goals p.state.nodes
  all_lost_is e g lt =
      let there = item_there p.goals g (omega (arith, lt, c.length_is)) in
      (c.each g there.0 there.1).lost (all_at (λ (x : GoalState). x.is_lost) p.goals e g there.0 there.1)

  pub are_all_lost : AllLost goals p.state.nodes → all_lost p.goals ≡ true
  are_all_lost h = all_true (λ (x : GoalState). x.is_lost) p.goals (λ k x there.
      let within = slice_get_within p.goals k x there in
      (c.each k x there).not_lost (h k (omega (arith, within, c.length_is))))

  pub verdict_is : has_verdict_by p ≡ true → HasVerdict goals p.state
  verdict_is e = elim (or_cases (is_some p.state.winner) (all_lost p.goals) e) [ inl w ↦ inl (some_of p.state.winner w) | inr w ↦ inr (all_lost_is w) ]

  pub lost_verdict : p.state.winner ≡ None → has_verdict_by p ≡ true → AllLost goals p.state.nodes
  lost_verdict none e = elim (or_cases (is_some p.state.winner) (all_lost p.goals) e) [ inl w ↦ let x = some_of p.state.winner w in absurd cc | inr w ↦ all_lost_is w ]

  pub no_verdict : has_verdict_by p ≡ false → (g : ℕ) × (g < goals) × (IsLost p.state.nodes g → ⊥)
  no_verdict e =
      let flag : all_lost p.goals ≡ false = not_true (all_lost p.goals) (λ t. true_false (has_verdict_by p) (or_right (is_some p.state.winner) (all_lost p.goals) t) e) in
      let x = some_not (λ (y : GoalState). y.is_lost) p.goals flag in
      let within = slice_get_within p.goals x.0 x.1 x.2 in
      (x.0, omega (arith, within, c.length_is), λ l. true_false x.1.is_lost ((c.each x.0 x.1 x.2).not_lost l) x.3)

  pub has_verdict : HasVerdict goals p.state → has_verdict_by p ≡ true
  has_verdict (inl w) = or_left (is_some p.state.winner) (all_lost p.goals) (is_some_of p.state.winner w.0 w.1)
  has_verdict (inr w) = or_right (is_some p.state.winner) (all_lost p.goals) (are_all_lost w)

  pub done_is : is_done_by p ≡ true → IsDone goals p.state
  done_is e = elim (or_cases (has_verdict_by p) p.state.is_aborted e) [ inl w ↦ inl (verdict_is w) | inr w ↦ inr w ]

  pub is_done : IsDone goals p.state → is_done_by p ≡ true
  is_done (inl w) = or_left (has_verdict_by p) p.state.is_aborted (has_verdict w)
  is_done (inr w) = or_right (has_verdict_by p) p.state.is_aborted w

  pub over_is : (node : TreeNode) → is_over_by p node ≡ true → IsOver goals p.state node
  over_is node e =
      elim (or_cases (is_some node.decision || is_lost_in p.goals node.goal) (is_done_by p) e) [
        | inl w ↦ elim (or_cases (is_some node.decision) (is_lost_in p.goals node.goal) w) [ inl d ↦ let x = some_of node.decision d in decided x.0 x.1 | inr l ↦ lost (lost_is node.goal l) ]
        | inr w ↦ done (done_is w)
      ]

  pub is_over : (node : TreeNode) → node.goal < goals → IsOver goals p.state node → is_over_by p node ≡ true
  is_over node lt (decided d e) =
      or_left (is_some node.decision || is_lost_in p.goals node.goal) (is_done_by p) (or_left (is_some node.decision) (is_lost_in p.goals node.goal) (is_some_of node.decision d e))
  is_over node lt (lost h) =
      or_left (is_some node.decision || is_lost_in p.goals node.goal) (is_done_by p) (or_right (is_some node.decision) (is_lost_in p.goals node.goal) (is_lost node.goal lt h))
  is_over node lt (done h) = or_right (is_some node.decision || is_lost_in p.goals node.goal) (is_done_by p) (is_done h)
