-- The subterms of a well-formed term are well-formed, and its positions have no place past the arities.
use Rattle.std.specs.Prelude.{◌≡◌, ℕ, ◌<◌, List, [], ◌∷◌, All, Option, Some, None, slice_get, unwrap_or, refl}
use Rattle.std.specs.Option.{option_and_then}
use Rattle.std.proofs.Common.{zero, suc, subst, ap, sym, ◌∙◌, get_or, arith}
use Rattle.std.proofs.lemmas.Option.{slice_get_within, unwrap_or-slice_get}
use Rattle.std.proofs.lemmas.List.Elements.{All-nil, All-cons}
use Rattle.trs_defs.specs.Tree.{Tree, Trees, var, app, nil, cons, items, count}
use Rattle.trs_defs.specs.WellFormed.{IsWellFormed, AreWellFormed}
use Rattle.trs_defs.specs.Position.{argument_at, subterm_at}

-- item number i of an argument list is there, and well-formed
record IsItem (arities : List ℕ) (ts : Trees) (i : ℕ) (a : Tree) : Type 0 where
  well_formed : IsWellFormed arities a
  within : i < count ts

item_there : (arities : List ℕ) (ts : Trees) (i : ℕ) (a : Tree) → AreWellFormed arities ts → slice_get (items ts) i ≡ Some a → IsItem arities ts i a
item_there arities nil i a h e = absurd cc
item_there arities (cons t ts) zero a h e =
    let same : t ≡ a = cc in
    record { well_formed = subst (IsWellFormed arities) same h.0; within = omega arith }
item_there arities (cons t ts) (suc i) a h e =
    let rest = item_there arities ts i a h.1 e in
    record { well_formed = rest.well_formed; within = omega arith }

arity_below : (arities : List ℕ) (f n most : ℕ) → All (λ a. a < most) arities → slice_get arities f ≡ Some n → n < most
arity_below arities f n most h e =
    let small = h f 0 (slice_get_within arities f n e) in
    let same : get_or arities f 0 ≡ n = sym (unwrap_or-slice_get arities f 0) ∙ ap (λ o. unwrap_or o 0) e in
    omega arith

-- an argument of a well-formed term, at a place that is no larger than its symbol's arity
record IsArgumentOf (arities : List ℕ) (place : ℕ) (a : Tree) : Type 0 where
  well_formed : IsWellFormed arities a
  positive : 0 < place
  small : (most : ℕ) → All (λ n. n < most) arities → place < most

argument_there : (arities : List ℕ) (t : Tree) (place : ℕ) (a : Tree) → IsWellFormed arities t → argument_at t place ≡ Some a → IsArgumentOf arities place a
argument_there arities (var n) place a h e = absurd cc
argument_there arities (app f ts) zero a h e = absurd cc
argument_there arities (app f ts) (suc i) a h e =
    let item = item_there arities ts i a h.1 e in
    record {
      well_formed = item.well_formed;
      positive = omega arith;
      small = λ most below. let arity = arity_below arities f (count ts) most below h.0 in omega arith;
    }

-- a subterm of a well-formed term, by its position
pub record IsSubtermOf (arities : List ℕ) (p : List ℕ) (part : Tree) : Type 0 where
  pub well_formed : IsWellFormed arities part
  pub places : (most : ℕ) → All (λ n. n < most) arities → All (λ n. (0 < n) × (n < most)) p

pub subterm_there : (arities : List ℕ) (p : List ℕ) (t part : Tree) → IsWellFormed arities t → subterm_at p t ≡ Some part → IsSubtermOf arities p part
subterm_there arities [] t part h e =
    let same : t ≡ part = cc in
    record { well_formed = subst (IsWellFormed arities) same h; places = λ most below. All-nil (λ n. (0 < n) × (n < most)) }
subterm_there arities (place ∷ p) t part h e = go (argument_at t place) (λ a. argument_there arities t place a h) e (λ a. subterm_there arities p a part)
  where
    go : (o : Option Tree) → ((a : Tree) → o ≡ Some a → IsArgumentOf arities place a) → option_and_then (subterm_at p) o ≡ Some part
        → ((a : Tree) → IsWellFormed arities a → subterm_at p a ≡ Some part → IsSubtermOf arities p part) → IsSubtermOf arities (place ∷ p) part
    go None there at rest = absurd cc
    go (Some a) there at rest =
        let argument = there a refl in
        let below = rest a argument.well_formed at in
        record {
          well_formed = below.well_formed;
          places = λ most small. All-cons (λ n. (0 < n) × (n < most)) place p (argument.positive, argument.small most small) (below.places most small);
        }
