-- Components are put out one after another.
use Rattle.std.specs.Prelude.{◌≡◌, ◌<◌, ◌≤◌, ℕ, ◌+◌, ◌==◌, Bool, true, false, cond, List, [], ◌∷◌, ◌++◌, length, replicate, Option, Some, slice_get, refl}
use Rattle.std.proofs.Common.{zero, suc, inl, inr, append_assoc, sym, ap, subst, arith, ◌∙◌}
use Rattle.std.proofs.lemmas.List.{append-nil}
use Rattle.std.proofs.lemmas.Bool.{eqb-true, eq-eqb}
use Rattle.std.proofs.lemmas.Option.{same_Some, slice_get_within}
use native.Mathlib.Decide.{ℕ_discrete}
use Rattle.trs_defs.specs.Member.{In}
use Rattle.trs_defs.proofs.Members.{in_or, no_in}
use Rattle.trs_defs.specs.Run.{Stay}
use Rattle.trs_defs.proofs.Runs.{then}
use Rattle.trs_defs.proofs.ListItems.{item_there}
use Rattle.dp_core.specs.Flags.{unset}
use Rattle.dp_graph.specs.Leaders.{AreMutual, AreLeaders}
use Rattle.dp_graph.specs.PutOut.{IsBlocked, IsUndoneLeader, IsNextReady, Finishes, ArePutOut, all_done, put_out, PutsOut}
use Rattle.dp_graph.proofs.ListPlaces.{at_repeat, length_repeat}

some_not_both : {o : Option Bool} → o ≡ Some true → o ≡ Some false → ⊥
some_not_both e d = let h : true ≡ false = same_Some true false (sym e ∙ d) in absurd cc

-- ---- leaders

module _ (rows : List (List ℕ)) (leaders : List ℕ) (are : AreLeaders rows leaders) where
  -- a leader leads itself
  pub leads_itself : (i l : ℕ) → slice_get leaders i ≡ Some l → slice_get leaders l ≡ Some l
  leads_itself i l h =
      let is = are.each i l h in
      let low : l ≤ i = is.least i (Stay, Stay) in
      let at = item_there leaders l (let w = slice_get_within leaders i l h in omega (arith, w, low)) in
      let other = are.each l at.0 at.1 in
      let below : at.0 ≤ l = other.least l (Stay, Stay) in
      let above : l ≤ at.0 = is.least at.0 (then is.connected.0 other.connected.0, then other.connected.1 is.connected.1) in
      let same : at.0 ≡ l = omega (arith, below, above) in
      at.1 ∙ ap (λ z. Some z) same

  -- places that are connected have one leader
  pub one_leader : (i j k l : ℕ) → slice_get leaders i ≡ Some k → slice_get leaders j ≡ Some l → AreMutual rows i j → k ≡ l
  one_leader i j k l h g m =
      let a = are.each i k h in
      let b = are.each j l g in
      let low : k ≤ l = a.least l (then m.0 b.connected.0, then b.connected.1 m.1) in
      let high : l ≤ k = b.least k (then m.1 a.connected.0, then a.connected.1 m.0) in
      omega (arith, low, high)

  pub led_mutual : (i j l : ℕ) → slice_get leaders i ≡ Some l → slice_get leaders j ≡ Some l → AreMutual rows i j
  led_mutual i j l h g =
      let a = (are.each i l h).connected in
      let b = (are.each j l g).connected in
      (then a.0 b.1, then b.0 a.1)

-- ---- some leader is ready, while one is left

-- places of one leader are done together
abbrev pub DoneTogether : List ℕ → List Bool → Type 0
DoneTogether leaders done = (i l : ℕ) → slice_get leaders i ≡ Some l → slice_get done i ≡ slice_get done l

module _ (rows : List (List ℕ)) (leaders : List ℕ) (are : AreLeaders rows leaders) (done : List Bool) (size : length done ≡ length leaders) (together : DoneTogether leaders done)
    (none : (v : ℕ) → IsUndoneLeader leaders done v → IsBlocked rows leaders done v) where
  -- a leader that is blocked is so by one of a lower rank
  climb : (n l : ℕ) → are.ranked.rank l < n → IsUndoneLeader leaders done l → ⊥
  climb zero l lt undone = omega (arith, lt)
  climb (suc n) l lt undone =
      let b = none l undone in
      let at = leads_itself rows leaders are b.from b.leader b.of_other in
      let rises = are.ranked.rises b.from b.to b.leader l b.follows b.of_other b.of_this b.differ in
      climb n b.leader (omega (arith, rises, lt)) (at, sym (together b.from b.leader b.of_other) ∙ b.undone)

  pub none_undone : (i : ℕ) → slice_get done i ≡ Some false → ⊥
  none_undone i e =
      let l = item_there leaders i (let w = slice_get_within done i false e in omega (arith, w, size)) in
      climb (are.ranked.rank l.0 + 1) l.0 (omega arith) (leads_itself rows leaders are i l.0 l.1, sym (together i l.0 l.1) ∙ e)

-- ---- the places of a leader are done

pub finished : ℕ → List ℕ → List Bool → List Bool
finished v [] done = done
finished v (l ∷ leaders) [] = []
finished v (l ∷ leaders) (d ∷ done) = cond (l == v) true d ∷ finished v leaders done

finished_length : (v : ℕ) (leaders : List ℕ) (done : List Bool) → length (finished v leaders done) ≡ length done
unfolding finished
finished_length v [] done = refl
finished_length v (l ∷ leaders) [] = refl
finished_length v (l ∷ leaders) (d ∷ done) = ap suc (finished_length v leaders done)

finished_led : (v : ℕ) (leaders : List ℕ) (done : List Bool) (w : ℕ) → length done ≡ length leaders → slice_get leaders w ≡ Some v → slice_get (finished v leaders done) w ≡ Some true
unfolding finished
finished_led v [] done w e at = absurd cc
finished_led v (l ∷ leaders) [] w e at = absurd (omega (arith, e))
finished_led v (l ∷ leaders) (d ∷ done) zero e at = ap (λ b. Some (cond b true d)) (eq-eqb l v (same_Some l v at))
finished_led v (l ∷ leaders) (d ∷ done) (suc w) e at = finished_led v leaders done w (omega (arith, e)) at

other_flag : (b d : Bool) → (b ≡ true → ⊥) → Some (cond b true d) ≡ Some d
other_flag true d h = absurd (h refl)
other_flag false d h = refl

finished_others : (v : ℕ) (leaders : List ℕ) (done : List Bool) (w : ℕ) → (slice_get leaders w ≡ Some v → ⊥) → slice_get (finished v leaders done) w ≡ slice_get done w
unfolding finished
finished_others v [] done w h = refl
finished_others v (l ∷ leaders) [] w h = refl
finished_others v (l ∷ leaders) (d ∷ done) zero h = other_flag (l == v) d (λ e. h (ap (λ z. Some z) (eqb-true l v e)))
finished_others v (l ∷ leaders) (d ∷ done) (suc w) h = finished_others v leaders done w h

pub finishes_all : (v : ℕ) (leaders : List ℕ) (done : List Bool) → length done ≡ length leaders → Finishes v leaders done (finished v leaders done)
finishes_all v leaders done size = record {
  count = finished_length v leaders done;
  led = λ w e. finished_led v leaders done w size e;
  others = λ w h. finished_others v leaders done w h;
}

-- ---- one after another

pub still_together : (rows : List (List ℕ)) (leaders : List ℕ) → AreLeaders rows leaders → (v : ℕ) (done new : List Bool) → slice_get leaders v ≡ Some v → Finishes v leaders done new
    → DoneTogether leaders done → DoneTogether leaders new
still_together rows leaders are v done new at finishes together i l h = go (ℕ_discrete l v)
  where
    go : Dec (l ≡ v) → slice_get new i ≡ slice_get new l
    go (yes e) = finishes.led i (h ∙ ap (λ z. Some z) e) ∙ sym (subst (λ z. slice_get new z ≡ Some true) (sym e) (finishes.led v at))
    go (no other) =
        let first : slice_get new i ≡ slice_get done i = finishes.others i (λ g. other (same_Some l v (sym h ∙ g))) in
        let second : slice_get new l ≡ slice_get done l = finishes.others l (λ g. other (same_Some l v (sym (leads_itself rows leaders are i l h) ∙ g))) in
        first ∙ (together i l h ∙ sym second)

pub together_at_first : (rows : List (List ℕ)) (leaders : List ℕ) → AreLeaders rows leaders → (done : List Bool) (n : ℕ) → n ≡ length leaders → done ≡ replicate n false → DoneTogether leaders done
together_at_first rows leaders are done n e is i l h =
    let all : (k : ℕ) → k < length leaders → slice_get done k ≡ Some false = (λ k lt. subst (λ z. slice_get z k ≡ Some false) (sym is) (at_repeat n k false (omega (arith, lt, e)))) in
    all i (slice_get_within leaders i l h) ∙ sym (all l (slice_get_within leaders l l (leads_itself rows leaders are i l h)))

pub size_at_first : (done : List Bool) (n m : ℕ) → n ≡ m → done ≡ replicate n false → length done ≡ m
size_at_first done n m e is = ap length is ∙ (length_repeat n false ∙ e)

-- the leaders before are put out: the whole is put out as the rest is
abbrev pub PutOutSoFar : ℕ → List (List ℕ) → List ℕ → List Bool → List ℕ → Type 0
PutOutSoFar pairs rows leaders done order = (rest : List ℕ) → ArePutOut pairs rows leaders done rest → PutsOut pairs rows leaders (order ++ rest)

pub none_put_out : (pairs : ℕ) (rows : List (List ℕ)) (leaders : List ℕ) (done : List Bool) (n : ℕ) (order : List ℕ) → n ≡ length leaders → done ≡ replicate n false → order ≡ []
    → PutOutSoFar pairs rows leaders done order
none_put_out pairs rows leaders done n order e is none rest h =
    subst (λ z. PutsOut pairs rows leaders (z ++ rest)) (sym none)
    (subst (λ z. ArePutOut pairs rows leaders z rest) (is ∙ ap (λ z. replicate z false) e) h)

pub one_more_put_out : (pairs : ℕ) (rows : List (List ℕ)) (leaders : List ℕ) (done next : List Bool) (order new : List ℕ) (v : ℕ) → IsNextReady pairs rows leaders done (Some v)
    → Finishes v leaders done next → new ≡ order ++ v ∷ [] → PutOutSoFar pairs rows leaders done order → PutOutSoFar pairs rows leaders next new
one_more_put_out pairs rows leaders done next order new v ready finishes grown before rest h =
    subst (PutsOut pairs rows leaders) (sym (ap (λ z. z ++ rest) grown ∙ append_assoc order (v ∷ []) rest)) (before (v ∷ rest) (put_out v next ready finishes h))

pub all_put_out : (pairs : ℕ) (rows : List (List ℕ)) (leaders : List ℕ) (done : List Bool) (order : List ℕ) → ((i : ℕ) → slice_get done i ≡ Some false → ⊥)
    → PutOutSoFar pairs rows leaders done order → PutsOut pairs rows leaders order
all_put_out pairs rows leaders done order none before = subst (PutsOut pairs rows leaders) (append-nil order) (before [] (all_done none))

-- each leader that is put out leads itself
pub put_out_lead : (pairs : ℕ) (rows : List (List ℕ)) (leaders : List ℕ) (done : List Bool) (order : List ℕ) → ArePutOut pairs rows leaders done order → (v : ℕ) → In v order
    → slice_get leaders v ≡ Some v
put_out_lead pairs rows leaders done _ (all_done none) u i = absurd (no_in i)
put_out_lead pairs rows leaders done _ (put_out {vs = vs} v new ready finishes rest) u i = elim (in_or i) [
  | inl e ↦ subst (λ z. slice_get leaders z ≡ Some z) (sym e) ready.0.0
  | inr j ↦ put_out_lead pairs rows leaders new vs rest u j
]

fewer_unset : (done new : List Bool) (v : ℕ) → length new ≡ length done → ((k : ℕ) → slice_get done k ≡ Some true → slice_get new k ≡ Some true) → slice_get done v ≡ Some false
    → slice_get new v ≡ Some true → unset new < unset done
fewer_unset [] new v e h at to = absurd cc
fewer_unset (d ∷ done) [] v e h at to = absurd cc
fewer_unset (true ∷ done) (n ∷ new) zero e h at to = absurd cc
fewer_unset (false ∷ done) (false ∷ new) zero e h at to = absurd cc
fewer_unset (false ∷ done) (true ∷ new) zero e h at to = let r = not_more_unset done new (omega (arith, e)) (λ k. h (suc k)) in omega (arith, r)
  where
    not_more_unset : (done new : List Bool) → length new ≡ length done → ((k : ℕ) → slice_get done k ≡ Some true → slice_get new k ≡ Some true) → unset new ≤ unset done
    not_more_unset [] [] e h = omega arith
    not_more_unset [] (n ∷ new) e h = absurd (omega (arith, e))
    not_more_unset (d ∷ done) [] e h = absurd (omega (arith, e))
    not_more_unset (true ∷ done) (true ∷ new) e h = not_more_unset done new (omega (arith, e)) (λ k. h (suc k))
    not_more_unset (true ∷ done) (false ∷ new) e h = absurd (some_not_both (h zero refl) refl)
    not_more_unset (false ∷ done) (true ∷ new) e h = let r = not_more_unset done new (omega (arith, e)) (λ k. h (suc k)) in omega (arith, r)
    not_more_unset (false ∷ done) (false ∷ new) e h = let r = not_more_unset done new (omega (arith, e)) (λ k. h (suc k)) in omega (arith, r)
fewer_unset (true ∷ done) (true ∷ new) (suc v) e h at to = fewer_unset done new v (omega (arith, e)) (λ k. h (suc k)) at to
fewer_unset (true ∷ done) (false ∷ new) (suc v) e h at to = absurd (some_not_both (h zero refl) refl)
fewer_unset (false ∷ done) (true ∷ new) (suc v) e h at to = let r = fewer_unset done new v (omega (arith, e)) (λ k. h (suc k)) at to in omega (arith, r)
fewer_unset (false ∷ done) (false ∷ new) (suc v) e h at to = let r = fewer_unset done new v (omega (arith, e)) (λ k. h (suc k)) at to in omega (arith, r)

pub fewer_left : (leaders : List ℕ) (v : ℕ) (done new : List Bool) → length done ≡ length leaders → IsUndoneLeader leaders done v → Finishes v leaders done new → unset new < unset done
fewer_left leaders v done new size undone finishes =
    fewer_unset done new v finishes.count
    (λ k e.
    let l = item_there leaders k (let w = slice_get_within done k true e in omega (arith, w, size)) in
    elim (ℕ_discrete l.0 v) [
      | yes same ↦ finishes.led k (l.1 ∙ ap (λ z. Some z) same)
      | no other ↦ finishes.others k (λ g. other (same_Some l.0 v (sym l.1 ∙ g))) ∙ e
    ])
    undone.1 (finishes.led v undone.0)
