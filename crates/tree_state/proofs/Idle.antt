-- The first idle mark of a node.
use Rattle.std.proofs.Common.{◌≡◌, ℕ, zero, suc, ◌<◌, ◌+◌, Bool, true, false, ◌||◌, cond, List, [], ◌∷◌, set, position, Option, Some, None, slice_get, refl, sym, ap, ◌∙◌, subst, arith}
use Rattle.std.specs.Option.{is_some}
use Rattle.std.specs.List.{position_from}
use Rattle.std.proofs.lemmas.Iterator.Adapters.{position_from-zero}
use Rattle.tree_state.specs.declared.goal_state.GoalState.{GoalState}
use Rattle.tree_definitions.specs.declared.mark.Mark.{Mark}
use Rattle.tree_definitions.specs.declared.mark.Mark.TheVariants.{Idle, Running, Failed}
use Rattle.tree_definitions.specs.Marks.{is_idle}
use Rattle.tree_definitions.specs.States.{TreeNode, Decided}
use Rattle.tree_state.specs.Parts.{free_place, is_lost_in}

pub record IsFirstAt {A : Type 0} (p : A → Bool) (xs : List A) (k : ℕ) : Type 0 where
  pub x : A
  pub there : slice_get xs k ≡ Some x
  pub passes : p x ≡ true
  pub first : (m : ℕ) (y : A) → m < k → slice_get xs m ≡ Some y → p y ≡ false

first_later : {A : Type 0} (p : A → Bool) (x : A) (xs : List A) (k : ℕ) → p x ≡ false → ((m : ℕ) (y : A) → m < k → slice_get xs m ≡ Some y → p y ≡ false)
    → (m : ℕ) (y : A) → m < suc k → slice_get (x ∷ xs) m ≡ Some y → p y ≡ false
first_later p x xs k is h zero y lt t = let same_x : x ≡ y = cc in rw (← same_x) is
first_later p x xs k is h (suc m) y lt t = h m y (omega (arith, lt)) t

from_some : {A : Type 0} (p : A → Bool) (xs : List A) (i j : ℕ) → position_from p i xs ≡ Some j → (k : ℕ) × (j ≡ i + k) × IsFirstAt p xs k
from_some p [] i j e = absurd cc
from_some {A = A} p (x ∷ xs) i j e = go (p x) refl e (from_some p xs (i + 1) j)
  where
    go : (b : Bool) → p x ≡ b → cond b (Some i) (position_from p (i + 1) xs) ≡ Some j → (position_from p (i + 1) xs ≡ Some j → (k : ℕ) × (j ≡ i + 1 + k) × IsFirstAt p xs k)
        → (k : ℕ) × (j ≡ i + k) × IsFirstAt p (x ∷ xs) k
    go true is same rest = let here : i ≡ j = cc in (0, omega (arith, here), record { x = x; there = refl; passes = is; first = λ m y lt t. absurd (omega (arith, lt)) })
    go false is same rest =
        let r = rest same in
        (suc r.0, omega (arith, r.1), record { x = r.2.x; there = r.2.there; passes = r.2.passes; first = first_later p x xs r.0 is r.2.first })

from_none : {A : Type 0} (p : A → Bool) (xs : List A) (i : ℕ) → position_from p i xs ≡ None → (m : ℕ) (y : A) → slice_get xs m ≡ Some y → p y ≡ false
from_none p [] i e m y t = absurd cc
from_none {A = A} p (x ∷ xs) i e m y t = go (p x) refl e (from_none p xs (i + 1)) m y t
  where
    go : (b : Bool) → p x ≡ b → cond b (Some i) (position_from p (i + 1) xs) ≡ None → (position_from p (i + 1) xs ≡ None → (m : ℕ) (y : A) → slice_get xs m ≡ Some y → p y ≡ false)
        → (m : ℕ) (y : A) → slice_get (x ∷ xs) m ≡ Some y → p y ≡ false
    go true is same rest m y t = absurd cc
    go false is same rest zero y t = let same_x : x ≡ y = cc in rw (← same_x) is
    go false is same rest (suc m) y t = rest same m y t

from_set : {A : Type 0} (p : A → Bool) (xs : List A) (i n : ℕ) (old new : A) → slice_get xs n ≡ Some old → p old ≡ false → p new ≡ false
    → position_from p i (set xs n new) ≡ position_from p i xs
from_set p [] i n old new t o w = refl
from_set p (x ∷ xs) i zero old new t o w = let same : x ≡ old = cc in rw (same, o, w) refl
from_set p (x ∷ xs) i (suc n) old new t o w = ap (λ r. cond (p x) (Some i) r) (from_set p xs (i + 1) n old new t o w)

pub first_position : {A : Type 0} (p : A → Bool) (xs : List A) (k : ℕ) → position p xs ≡ Some k → IsFirstAt p xs k
first_position p xs k e =
    let r = from_some p xs 0 k (sym (position_from-zero p xs) ∙ e) in
    let same : r.0 ≡ k = omega (arith, r.1) in
    subst (IsFirstAt p xs) same r.2

pub no_position : {A : Type 0} (p : A → Bool) (xs : List A) → position p xs ≡ None → (m : ℕ) (y : A) → slice_get xs m ≡ Some y → p y ≡ false
no_position p xs e = from_none p xs 0 (sym (position_from-zero p xs) ∙ e)

first_idle : (marks : List Mark) (k : ℕ) → position is_idle marks ≡ Some k → IsFirstAt is_idle marks k
first_idle marks k e = first_position is_idle marks k e

none_idle : (marks : List Mark) → position is_idle marks ≡ None → (m : ℕ) (y : Mark) → slice_get marks m ≡ Some y → is_idle y ≡ false
none_idle marks e = no_position is_idle marks e

pub position_set : (marks : List Mark) (n : ℕ) (old new : Mark) → slice_get marks n ≡ Some old → is_idle old ≡ false → is_idle new ≡ false
    → position is_idle (set marks n new) ≡ position is_idle marks
position_set marks n old new t o w = position_from-zero is_idle (set marks n new) ∙ from_set is_idle marks 0 n old new t o w ∙ sym (position_from-zero is_idle marks)

pub idle_is : (m : Mark) → is_idle m ≡ true → m ≡ Idle
idle_is Idle e = refl
idle_is Running e = absurd cc
idle_is (Failed failure) e = absurd cc

pub not_idle : (m : Mark) → is_idle m ≡ false → m ≡ Idle → ⊥
not_idle m e f = let g : is_idle m ≡ true = rw f refl in absurd cc

-- what a node is whose strategy can be claimed
pub record IsOpenAt (goals : List GoalState) (node : TreeNode) (place : ℕ) : Type 0 where
  pub is_open : node.decision ≡ None
  pub not_lost : is_lost_in goals node.goal ≡ false
  pub first : IsFirstAt is_idle node.marks place

pub open_at : (goals : List GoalState) (node : TreeNode) (place : ℕ) → free_place goals node ≡ Some place → IsOpenAt goals node place
open_at goals node place e = go node.decision refl (is_lost_in goals node.goal) refl e
  where
    go : (d : Option Decided) → node.decision ≡ d → (b : Bool) → is_lost_in goals node.goal ≡ b → cond (is_some d || b) None (position is_idle node.marks) ≡ Some place → IsOpenAt goals node place
    go None d false b e = record { is_open = d; not_lost = b; first = first_idle node.marks place e }
    go None d true b e = absurd cc
    go (Some x) d b f e = absurd cc

-- of a node that is open and of a goal that is not lost, no strategy is idle where none can be claimed
pub none_free : (goals : List GoalState) (node : TreeNode) → free_place goals node ≡ None → node.decision ≡ None → is_lost_in goals node.goal ≡ false
    → (m : ℕ) (y : Mark) → slice_get node.marks m ≡ Some y → is_idle y ≡ false
none_free goals node e is_open not_lost = none_idle node.marks (sym position_is ∙ e)
  where
    position_is : free_place goals node ≡ position is_idle node.marks
    position_is = rw (is_open, not_lost) refl
