-- What stands round a subterm, as a function from terms to terms that keeps steps; and steps at positions.
use Rattle.std.specs.Prelude.{◌≡◌, ℕ, List, [], ◌∷◌, Option, Some, None, slice_get, slice_set, refl}
use Rattle.std.specs.Option.{option_and_then}
use Rattle.std.proofs.Common.{zero, suc, ap, ◌∙◌}
use Rattle.trs_defs.specs.Tree.{Tree, Trees, var, app, nil, cons, trees, items, trees_items}
use Rattle.trs_defs.specs.Position.{argument_at, subterm_at, with_argument, replaced_at}
use Rattle.trs_defs.specs.Step.{Inside, InsideOne, here, deep, first, later}

-- the list with one item set, for an argument list
set_item : Trees → ℕ → Tree → Trees
set_item ts i u = trees (slice_set (items ts) i u)

set_item_same : (ts : Trees) (i : ℕ) (a : Tree) → slice_get (items ts) i ≡ Some a → set_item ts i a ≡ ts
unfolding set_item
set_item_same nil i a e = refl
set_item_same (cons t ts) zero a e = cc (trees_items ts)
set_item_same (cons t ts) (suc i) a e = ap (cons t) (set_item_same ts i a e)

inside_item : (R : Tree → Tree → Type 0) (ts : Trees) (i : ℕ) (old a b : Tree) → slice_get (items ts) i ≡ Some old → Inside R a b
    → InsideOne R (set_item ts i a) (set_item ts i b)
unfolding set_item
inside_item R nil i old a b e step = absurd cc
inside_item R (cons t ts) zero old a b e step = first step
inside_item R (cons t ts) (suc i) old a b e step = later (inside_item R ts i old a b e step)

-- the function keeps the steps of a relation
pub record Keeps (R : Tree → Tree → Type 0) (k : Tree → Tree) : Type 0 where
  pub step : (a b : Tree) → R a b → R (k a) (k b)

-- k is what stands round the subterm t of c at the position p
pub record IsContext (R : Tree → Tree → Type 0) (p : List ℕ) (c t : Tree) (k : Tree → Tree) : Type 0 where
  pub filled : k t ≡ c
  pub keeps : Keeps (Inside R) k
  pub replaced : (u : Tree) → replaced_at p c u ≡ Some (k u)

-- what stands round the argument a of c at a place
record IsArgument (R : Tree → Tree → Type 0) (c : Tree) (place : ℕ) (a : Tree) : Type 0 where
  same : with_argument c place a ≡ c
  keeps : Keeps (Inside R) (with_argument c place)

argument_context : (R : Tree → Tree → Type 0) (c : Tree) (place : ℕ) (a : Tree) → argument_at c place ≡ Some a → IsArgument R c place a
unfolding set_item
argument_context R (var n) place a e = absurd cc
argument_context R (app f ts) zero a e = absurd cc
argument_context R (app f ts) (suc i) a e = record {
  same = ap (app f) (set_item_same ts i a e);
  keeps = record { step = λ x y s. deep (inside_item R ts i a x y e s) };
}

pub context_at : (R : Tree → Tree → Type 0) (p : List ℕ) (c t : Tree) → subterm_at p c ≡ Some t → (k : Tree → Tree) × IsContext R p c t k
context_at R [] c t e = (λ u. u, record { filled = cc; keeps = record { step = λ a b s. s }; replaced = λ u. refl })
context_at R (place ∷ p) c t e = go (argument_at c place) refl e (λ a. context_at R p a t)
  where
    go : (o : Option Tree) → argument_at c place ≡ o → option_and_then (subterm_at p) o ≡ Some t
        → ((a : Tree) → subterm_at p a ≡ Some t → (k : Tree → Tree) × IsContext R p a t k)
        → (k : Tree → Tree) × IsContext R (place ∷ p) c t k
    go None is h rest = absurd cc
    go (Some a) is h rest =
        let below = rest a h in
        let top : IsArgument R c place a = argument_context R c place a is in (
          λ u. with_argument c place (below.0 u),
          record {
            filled = ap (with_argument c place) below.1.filled ∙ top.same;
            keeps = record { step = λ x y s. top.keeps.step _ _ (below.1.keeps.step x y s) };
            replaced = λ u. rw (is, below.1.replaced u) refl;
          },
        )

-- What stands at a position, put there again, changes nothing.
pub replaced_by_itself : (p : List ℕ) (t part : Tree) → subterm_at p t ≡ Some part → replaced_at p t part ≡ Some t
replaced_by_itself p t part at =
    let k = context_at (λ a b. a ≡ b) p t part at in
    k.1.replaced part ∙ ap Some k.1.filled

-- Where a subterm is, any term can be put.
pub replaced_somehow : (p : List ℕ) (t part new : Tree) → subterm_at p t ≡ Some part → (u : Tree) × (replaced_at p t new ≡ Some u)
replaced_somehow p t part new at =
    let k = context_at (λ a b. a ≡ b) p t part at in
    (k.0 new, k.1.replaced new)

-- a step inside the subterm at a position is a step inside the term
pub inside_at : (R : Tree → Tree → Type 0) (p : List ℕ) (c t u d : Tree) → subterm_at p c ≡ Some t → replaced_at p c u ≡ Some d → Inside R t u → Inside R c d
inside_at R p c t u d at with step =
    let k = context_at R p c t at in
    let to : k.0 u ≡ d = cc (k.1.replaced u) in
    rw (← k.1.filled, ← to) (k.1.keeps.step t u step)

-- R relates the subterm of t at some position to what stands there in u, and the terms are else the same
pub record IsAtPlace (R : Tree → Tree → Type 0) (t u : Tree) : Type 0 where
  pub place : List ℕ
  pub old : Tree
  pub new : Tree
  pub from : subterm_at place t ≡ Some old
  pub related : R old new
  pub to : replaced_at place t new ≡ Some u

record IsAtItem (R : Tree → Tree → Type 0) (ts us : Trees) : Type 0 where
  index : ℕ
  old : Tree
  new : Tree
  there : slice_get (items ts) index ≡ Some old
  changed : us ≡ trees (slice_set (items ts) index new)
  below : IsAtPlace R old new

module _ (R : Tree → Tree → Type 0) where
  mutual
    -- What R does inside a term, it does at some position.
    pub place_of_inside : {t u : Tree} → Inside R t u → IsAtPlace R t u
    place_of_inside (here {s = t} {t = u} step) = record { place = []; old = t; new = u; from = refl; related = step; to = refl }
    place_of_inside (deep one) =
        let h = item_of_inside one in
        record {
          place = suc h.index ∷ h.below.place;
          old = h.below.old;
          new = h.below.new;
          from = rw h.there h.below.from;
          related = h.below.related;
          to = rw (h.there, h.below.to) (cc h.changed);
        }

    item_of_inside : {ts us : Trees} → InsideOne R ts us → IsAtItem R ts us
    item_of_inside (first {s = t} {t = u} {ts = ts} s) =
        record { index = 0; old = t; new = u; there = refl; changed = cc (trees_items ts); below = place_of_inside s }
    item_of_inside (later {t = t} one) =
        let h = item_of_inside one in
        record { index = suc h.index; old = h.old; new = h.new; there = h.there; changed = ap (cons t) h.changed; below = h.below }
