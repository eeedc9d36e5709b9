-- Places of variables that stand at their slots.
use Rattle.std.specs.Prelude.{if◌then◌else◌}
use Rattle.std.proofs.Common.{◌≡◌, ◌⊎◌, inl, inr, ℕ, zero, suc, ◌+◌, ◌-◌, ◌*◌, ◌<◌, ◌≤◌, Bool, true, false, ltb, List, [], ◌∷◌, ◌++◌, length, set, Option, Some, None, get_or, slice_get, refl, ap, sym, ◌∙◌, subst, arith}
use Rattle.std.proofs.lemmas.Bool.{ltb-false, lt-ltb, le-ltb}
use Rattle.std.proofs.lemmas.Option.{same_Some, slice_get_read}
use Rattle.trs_defs.specs.Tree.{Tree}
use Rattle.trs_defs.proofs.ListItems.{item_of_more, kept_item}
use Rattle.trs_core.specs.View.{tree}
use Rattle.crit_pairs.specs.declared.binding_table.Binding.{Binding}
use Rattle.crit_pairs.specs.Meeting.{bound_term}
use Rattle.crit_pairs.specs.Slots.{slot_of, bound_variable, named_variable, ArePlaced, KeepsOthers}
use Rattle.crit_pairs.proofs.Bindings.{bound_at, bound_here}

-- ---- slots

pub first_slot : (v : ℕ) → v < 65536 → slot_of v ≡ v * 2
first_slot v h = rw (lt-ltb v 65536 h) refl

pub apart_slot : (v : ℕ) → 65536 ≤ v → slot_of v ≡ (v - 65536) * 2 + 1
apart_slot v h = rw (le-ltb v 65536 h) refl

-- variables with one slot are the same
pub same_slot : (v w : ℕ) → slot_of v ≡ slot_of w → v ≡ w
same_slot v w e = both (ltb v 65536) (ltb w 65536) refl refl e
  where
    both : (a b : Bool) → ltb v 65536 ≡ a → ltb w 65536 ≡ b
        → (if a then v * 2 else (v - 65536) * 2 + 1) ≡ (if b then w * 2 else (w - 65536) * 2 + 1) → v ≡ w
    both true true x y e = omega (arith, e)
    both true false x y e = absurd (omega (arith, e))
    both false true x y e = absurd (omega (arith, e))
    both false false x y e = omega (arith, e, ltb-false v 65536 x, ltb-false w 65536 y)

-- ---- a place that is noted

set_here : (xs : List ℕ) (i x : ℕ) → i < length xs → slice_get (set xs i x) i ≡ Some x
set_here [] i x h = absurd (omega (arith, h))
set_here (y ∷ xs) zero x h = refl
set_here (y ∷ xs) (suc i) x h = set_here xs i x (omega (arith, h))

set_elsewhere : (xs : List ℕ) (i x j y : ℕ) → slice_get xs j ≡ Some y → (j ≡ i → ⊥) → slice_get (set xs i x) j ≡ Some y
set_elsewhere [] i x j y e ne = absurd cc
set_elsewhere (z ∷ xs) zero x zero y e ne = absurd (ne refl)
set_elsewhere (z ∷ xs) zero x (suc j) y e ne = e
set_elsewhere (z ∷ xs) (suc i) x zero y e ne = e
set_elsewhere (z ∷ xs) (suc i) x (suc j) y e ne = set_elsewhere xs i x j y e (λ h. ne (omega (arith, h)))

pub noted_here : (xs new : List ℕ) (i x : ℕ) → new ≡ set xs i x → i < length xs → slice_get new i ≡ Some x
noted_here xs new i x is h = subst (λ z. slice_get z i ≡ Some x) (sym is) (set_here xs i x h)

-- the list is made longer first, and then the place is noted
pub keeps_others : (old more longer new : List ℕ) (i x : ℕ) → longer ≡ old ++ more → new ≡ set longer i x → KeepsOthers i old new
keeps_others old more longer new i x grown is = record {
  kept = λ s k e ne.
      let there : slice_get longer s ≡ Some k = subst (λ z. slice_get z s ≡ Some k) (sym grown) (kept_item old more s k e) in
      subst (λ z. slice_get z s ≡ Some k) (sym is) (set_elsewhere longer i x s k there ne);
}

pub keeps_all : (slot : ℕ) (places : List ℕ) → KeepsOthers slot places places
keeps_all slot places = record { kept = λ s k e ne. e }

-- ---- what is read

pub item_read : {X : Type 0} (xs ys : List X) (i j : ℕ) (x : X) → xs ≡ ys → i ≡ j → i < length xs → x ≡ get_or xs i x → slice_get ys j ≡ Some x
item_read {X} xs ys i j x same one h e =
    let P : List X → Type 0 = λ zs. slice_get zs j ≡ Some x in
    let Q : ℕ → Type 0 = λ n. slice_get xs n ≡ Some x in
    subst P same (subst Q one (slice_get_read xs (length xs) i x refl h e))

-- ---- bindings

pub none_placed : {X : Type 0} (variable : X → ℕ) (places : List ℕ) (items : List X) → items ≡ [] → ArePlaced variable places items
none_placed {X} variable places items none = record { placed = λ k x at. absurd (empty k x (subst (λ z. slice_get z k ≡ Some x) none at)) }
  where
    empty : (k : ℕ) (x : X) → slice_get {X = X} [] k ≡ Some x → ⊥
    empty k x e = absurd cc

-- a place that is noted for a variable that is not bound
pub still_placed : (places now : List ℕ) (bs : List Binding) (v : ℕ) → ArePlaced bound_variable places bs → KeepsOthers (slot_of v) places now → bound_term bs v ≡ None → ArePlaced bound_variable now bs
still_placed places now bs v h keeps none = record {
  placed = λ k b at. keeps.kept (slot_of b.variable) k (h.placed k b at) (λ e. bound_here bs v k b at (same_slot b.variable v e) none);
}

-- one binding more, whose place is noted
pub one_placed : (places : List ℕ) (bs new : List Binding) (b : Binding) → ArePlaced bound_variable places bs → slice_get places (slot_of b.variable) ≡ Some (length bs) → new ≡ bs ++ b ∷ []
    → ArePlaced bound_variable places new
one_placed places bs new b h here is = record {
  placed = λ k x at. elim (item_of_more bs b x k (subst (λ z. slice_get z k ≡ Some x) is at)) as (λ _. slice_get places (slot_of x.variable) ≡ Some k) [
    | inl old ↦ h.placed k x old
    | inr last ↦ rw (last.0, last.1) here
  ];
}

bound_or_not : (o : Option Tree) → (o ≡ None) ⊎ ((t : Tree) × (o ≡ Some t))
bound_or_not None = inl refl
bound_or_not (Some t) = inr (t, refl)

-- a variable whose slot tells of no binding of it is not bound
pub not_placed : (places : List ℕ) (bs : List Binding) (v : ℕ) → ArePlaced bound_variable places bs
    → ((k : ℕ) (b : Binding) → slice_get places (slot_of v) ≡ Some k → slice_get bs k ≡ Some b → b.variable ≡ v → ⊥) → None ≡ bound_term bs v
not_placed places bs v h none = elim (bound_or_not (bound_term bs v)) as (λ _. None ≡ bound_term bs v) [
  | inl e ↦ sym e
  | inr w ↦
      let (k, b, at, is, _) = bound_at bs v w.0 w.1 in
      absurd (none k b (subst (λ z. slice_get places (slot_of z) ≡ Some k) is (h.placed k b at)) at is)
]

-- the slot tells of the binding
pub placed_at : (places : List ℕ) (bs : List Binding) (v k : ℕ) (b : Binding) → ArePlaced bound_variable places bs → slice_get places (slot_of v) ≡ Some k → slice_get bs k ≡ Some b
    → b.variable ≡ v → Some (tree b.term.now) ≡ bound_term bs v
placed_at places bs v k b h at here is = elim (bound_or_not (bound_term bs v)) as (λ _. Some (tree b.term.now) ≡ bound_term bs v) [
  | inl e ↦ absurd (bound_here bs v k b here is e)
  | inr w ↦
      let (i, a, there, same, t) = bound_at bs v w.0 w.1 in
      let noted : slice_get places (slot_of v) ≡ Some i = subst (λ z. slice_get places (slot_of z) ≡ Some i) same (h.placed i a there) in
      let one_place : i ≡ k = same_Some i k (sym noted ∙ at) in
      let one_binding : a ≡ b = same_Some a b (sym there ∙ (ap (slice_get bs) one_place ∙ here)) in
      ap (λ z. Some (tree z.term.now)) (sym one_binding) ∙ (ap (λ z. Some z) t ∙ sym w.1)
]

-- ---- names

-- a number that is noted for a variable that has no name
pub still_named : (places now names : List ℕ) (v : ℕ) → ArePlaced named_variable places names → KeepsOthers (slot_of v) places now → ((k : ℕ) → slice_get names k ≡ Some v → ⊥) → ArePlaced named_variable now names
still_named places now names v h keeps none = record {
  placed = λ k w at. keeps.kept (slot_of w) k (h.placed k w at) (λ e. none k (subst (λ z. slice_get names k ≡ Some z) (same_slot w v e) at));
}

-- one name more, whose number is noted
one_named : (places names new : List ℕ) (v : ℕ) → ArePlaced named_variable places names → slice_get places (slot_of v) ≡ Some (length names) → new ≡ names ++ v ∷ [] → ArePlaced named_variable places new
one_named places names new v h here is = record {
  placed = λ k w at. elim (item_of_more names v w k (subst (λ z. slice_get z k ≡ Some w) is at)) as (λ _. slice_get places (slot_of w) ≡ Some k) [
    | inl old ↦ h.placed k w old
    | inr last ↦ rw (last.0, last.1) here
  ];
}

pub one_named_if : (pushed : Bool) (places names new : List ℕ) (v : ℕ) → ArePlaced named_variable places names → slice_get places (slot_of v) ≡ Some (length names)
    → new ≡ (if pushed then names ++ v ∷ [] else names) → ArePlaced named_variable places new
one_named_if true places names new v h here is = one_named places names new v h here is
one_named_if false places names new v h here is = subst (ArePlaced named_variable places) (sym is) h
