-- A loop over the items of a list, each of which is checked and gives a value.
use Rattle.std.specs.Prelude.{◌≡◌, ◌<◌, ℕ, ◌+◌, List, [], ◌∷◌, ◌++◌, length, drop, get_or, slice_get, Some, Result, Ok, Err}
use Rattle.std.proofs.Common.{refl, sym, ap, subst, ◌∙◌, append_assoc}
use Rattle.std.proofs.lemmas.List.{append-nil, drop_more}
use Rattle.rewrite_core.specs.declared.checks.refusals.StepRefused.{StepRefused}
use Rattle.rewrite_core.specs.declared.checks.refusals.CheckFault.{CheckFault}
use Rattle.rewrite_core.specs.declared.checks.refusals.CheckFault.TheVariants.{Refused, OutOfMemory}
use Rattle.rewrite_core.specs.Check.{Check, Refuses, returned, stops, goes_on, collect}
-- what crates above cite from here
pub use Rattle.trs_defs.proofs.ListItems.{next_item}

-- what is left of a list, from an item on that is read
pub next_read : {A : Type 0} (xs : List A) (i : ℕ) (x d : A) → i < length xs → x ≡ get_or xs i d → drop i xs ≡ x ∷ drop (i + 1) xs
next_read xs i x d below is = drop_more xs i d below ∙ ap (λ y. y ∷ drop (i + 1) xs) (sym is)

-- the answer with these values before it
abbrev pub with_before : {B : Type 0} → List B → Result (List B) StepRefused → Result (List B) StepRefused
with_before ys (Ok zs) = Ok (ys ++ zs)
with_before ys (Err why) = Err why

module _ {A B : Type 0} (check : ℕ → A → Check B) (xs : List A) where
  -- the items before number i gave these values: the whole is answered as the rest is
  abbrev pub Collected : ℕ → List B → Type 0
  Collected i ys = (answer : Result (List B) StepRefused) → collect check i (drop i xs) answer → collect check 0 xs (with_before ys answer)

  pub none_collected : Collected 0 []
  none_collected (Ok zs) h = h
  none_collected (Err why) h = h

  one_before : (i : ℕ) (x : A) (y : B) → slice_get xs i ≡ Some x → check i x (Ok y) → (answer : Result (List B) StepRefused)
      → collect check (i + 1) (drop (i + 1) xs) answer → collect check i (drop i xs) (with_before (y ∷ []) answer)
  one_before i x y e h (Ok zs) k = rw (next_item xs i x e) (goes_on y _ h (goes_on zs _ k returned))
  one_before i x y e h (Err why) k = rw (next_item xs i x e) (goes_on y _ h (stops why k))

  both_before : (ys : List B) (y : B) (answer : Result (List B) StepRefused) → with_before ys (with_before (y ∷ []) answer) ≡ with_before (ys ++ y ∷ []) answer
  both_before ys y (Ok zs) = ap (λ l. Ok l) (sym (append_assoc ys (y ∷ []) zs))
  both_before ys y (Err why) = refl

  pub one_more_collected : (i : ℕ) (x : A) (y : B) (ys new : List B) → slice_get xs i ≡ Some x → check i x (Ok y) → new ≡ ys ++ y ∷ [] → Collected i ys → Collected (i + 1) new
  one_more_collected i x y ys new e h grown before answer k =
      subst (λ l. collect check 0 xs (with_before l answer)) (sym grown)
      (subst (λ a. collect check 0 xs a) (both_before ys y answer) (before (with_before (y ∷ []) answer) (one_before i x y e h answer k)))

  pub item_stops : (i : ℕ) (x : A) (ys : List B) (fault : CheckFault) → slice_get xs i ≡ Some x → Refuses (check i x) fault → Collected i ys → Refuses (collect check 0 xs) fault
  item_stops i x ys (Refused why) e h before = before (Err why) (rw (next_item xs i x e) (stops why h))
  item_stops i x ys OutOfMemory e h before = tt

  pub all_collected : (i : ℕ) (ys : List B) → drop i xs ≡ [] → Collected i ys → collect check 0 xs (Ok ys)
  all_collected i ys e before = subst (λ l. collect check 0 xs (Ok l)) (append-nil ys) (before (Ok []) (rw e returned))
