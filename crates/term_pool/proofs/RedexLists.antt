-- Lists of redexes: which they have, and in which order.
use Rattle.std.proofs.Common.{◌≡◌, ℕ, ◌+◌, ◌⊎◌, inl, inr, List, [], ◌∷◌, ◌++◌, map, Option, Some, None, slice_get, zero, suc, refl, sym, subst, ap, arith}
use Rattle.std.specs.Option.{option_and_then}
use Rattle.trs_defs.specs.Member.{In, in_first, in_rest}
use Rattle.trs_defs.proofs.Members.{in_left, in_right, in_either}
use Rattle.trs_defs.specs.Tree.{Tree, Trees, var, app, nil, cons, items}
use Rattle.trs_defs.specs.Substitution.{IsInstance}
use Rattle.trs_defs.specs.Position.{subterm_at}
use Rattle.trs_defs.specs.System.{RewriteRule}
use Rattle.trs_defs.specs.Path.{PlacedRule}
use Rattle.term_pool.specs.Redexes.{HasRedexes, IsRedexAt, ComesBefore, Ascend, below, AreRootRedexes, AreRedexes, AreRedexesOfAll, Grows}

in_below : (p : List ℕ) (s : PlacedRule) (ss : List PlacedRule) → In s ss → In (below p s) (map (below p) ss)
in_below p s [] h = elim h [ ]
in_below p s (s' ∷ ss) in_first = in_first
in_below p s (u ∷ ss) (in_rest h) = in_rest (in_below p s ss h)

-- an item of a list that is put below a place
from_below : (p : List ℕ) (s : PlacedRule) (ss : List PlacedRule) → In s (map (below p) ss) → (u : PlacedRule) × In u ss × (s ≡ below p u)
from_below p s [] h = elim h [ ]
from_below p s (u ∷ ss) in_first = (u, in_first, refl)
from_below p s (u ∷ ss) (in_rest h) = let found = from_below p s ss h in (found.0, in_rest found.1, found.2)

-- at the root: the place is empty, the number is one from k on, and the rule there has t for an instance
record IsRootRedex (rules : List RewriteRule) (k : ℕ) (t : Tree) (s : PlacedRule) : Type 0 where
  here : s.place ≡ []
  index : ℕ
  number : s.rule ≡ k + index
  rule : RewriteRule
  numbered : slice_get rules index ≡ Some rule
  instance : IsInstance rule.left t

record_later : (rule : RewriteRule) (rules : List RewriteRule) (k : ℕ) (t : Tree) (s : PlacedRule) → IsRootRedex rules (k + 1) t s → IsRootRedex (rule ∷ rules) k t s
record_later rule rules k t s r =
    record { here = r.here; index = suc r.index; number = omega (arith, r.number); rule = r.rule; numbered = r.numbered; instance = r.instance }

-- a list by its first rule
abbrev IsStep : RewriteRule → ℕ → Tree → List PlacedRule → List PlacedRule → Type 0
IsStep rule k t rest ss = (IsInstance rule.left t × (ss ≡ record { place = []; rule = k } ∷ rest)) ⊎ ((IsInstance rule.left t → ⊥) × (ss ≡ rest))

root_first : (rule : RewriteRule) (rules : List RewriteRule) (k : ℕ) (t : Tree) (rest : List PlacedRule) (s : PlacedRule)
    → ((s : PlacedRule) → In s rest → IsRootRedex rules (k + 1) t s) → IsInstance rule.left t → In s (record { place = []; rule = k } ∷ rest) → IsRootRedex (rule ∷ rules) k t s
root_first rule rules k t rest s h inst in_first = record { here = refl; index = 0; number = omega arith; rule = rule; numbered = refl; instance = inst }
root_first rule rules k t rest s h inst (in_rest is) = record_later rule rules k t s (h s is)

root_either : (rule : RewriteRule) (rules : List RewriteRule) (k : ℕ) (t : Tree) (rest ss : List PlacedRule) (s : PlacedRule)
    → ((s : PlacedRule) → In s rest → IsRootRedex rules (k + 1) t s) → IsStep rule k t rest ss → In s ss → IsRootRedex (rule ∷ rules) k t s
root_either rule rules k t rest ss s h (inl c) is = root_first rule rules k t rest s h c.0 (subst (λ l. In s l) c.1 is)
root_either rule rules k t rest ss s h (inr c) is = record_later rule rules k t s (h s (subst (λ l. In s l) c.1 is))

root_only : (rules : List RewriteRule) (k : ℕ) (t : Tree) (ss : List PlacedRule) → AreRootRedexes rules k t ss → (s : PlacedRule) → In s ss → IsRootRedex rules k t s
root_only [] k t ss h s is = let none : In s [] = subst (λ l. In s l) h is in elim none [ ]
root_only (rule ∷ rules) k t ss h s is = root_either rule rules k t h.0 ss s (λ u. root_only rules (k + 1) t h.0 h.1 u) h.2 is

root_kept : (rule : RewriteRule) (k : ℕ) (t : Tree) (rest ss : List PlacedRule) (s : PlacedRule) → IsStep rule k t rest ss → In s rest → In s ss
root_kept rule k t rest ss s (inl c) is = rw c.1 (in_rest is)
root_kept rule k t rest ss s (inr c) is = rw c.1 is

root_here : (rule : RewriteRule) (k : ℕ) (t : Tree) (rest ss : List PlacedRule) → IsStep rule k t rest ss → IsInstance rule.left t → In (record { place = []; rule = k }) ss
root_here rule k t rest ss (inl c) inst = rw c.1 in_first
root_here rule k t rest ss (inr c) inst = absurd (c.0 inst)

root_all : (rules : List RewriteRule) (k : ℕ) (t : Tree) (ss : List PlacedRule) → AreRootRedexes rules k t ss
    → (i : ℕ) (rule : RewriteRule) → slice_get rules i ≡ Some rule → IsInstance rule.left t → In (record { place = []; rule = k + i }) ss
root_all [] k t ss h i rule is inst = absurd cc
root_all (first ∷ rules) k t ss h zero rule is inst =
    let e : k + 0 ≡ k = omega arith in
    let same : first ≡ rule = cc in
    rw e (root_here first k t h.0 ss h.2 (rw same inst))
root_all (first ∷ rules) k t ss h (suc i) rule is inst =
    let e : k + suc i ≡ (k + 1) + i = omega arith in
    root_kept first k t h.0 ss (record { place = []; rule = k + suc i }) h.2 (rw e (root_all rules (k + 1) t h.0 h.1 i rule is inst))

-- a redex in an argument of a list that is counted from a place on
record IsInnerRedex (rules : List RewriteRule) (place : ℕ) (ts : Trees) (s : PlacedRule) : Type 0 where
  index : ℕ
  deeper : PlacedRule
  is : s ≡ below ((place + index) ∷ []) deeper
  argument : Tree
  there : slice_get (items ts) index ≡ Some argument
  redex : IsRedexAt rules argument deeper

inner_first : (rules : List RewriteRule) (place : ℕ) (t : Tree) (ts : Trees) (u s : PlacedRule) → IsRedexAt rules t u → s ≡ below (place ∷ []) u → IsInnerRedex rules place (cons t ts) s
inner_first rules place t ts u s r e =
    let same : place + 0 ≡ place = omega arith in
    record { index = 0; deeper = u; is = rw same e; argument = t; there = refl; redex = r }

inner_later : (rules : List RewriteRule) (place : ℕ) (t : Tree) (ts : Trees) (s : PlacedRule) → IsInnerRedex rules (place + 1) ts s → IsInnerRedex rules place (cons t ts) s
inner_later rules place t ts s r =
    let same : place + suc r.index ≡ (place + 1) + r.index = omega arith in
    record { index = suc r.index; deeper = r.deeper; is = rw same r.is; argument = r.argument; there = r.there; redex = r.redex }

root_redex_at : (rules : List RewriteRule) (t : Tree) (s : PlacedRule) → IsRootRedex rules 0 t s → IsRedexAt rules t s
root_redex_at rules t s r =
    let number : s.rule ≡ r.index = omega (arith, r.number) in
    record { rule = r.rule; numbered = rw number r.numbered; part = t; there = rw r.here refl; instance = r.instance }

inner_redex_at : (rules : List RewriteRule) (f : ℕ) (ts : Trees) (s : PlacedRule) → IsInnerRedex rules 1 ts s → IsRedexAt rules (app f ts) s
inner_redex_at rules f ts s r =
    let e : 1 + r.index ≡ suc r.index = omega arith in
    let there : subterm_at (suc r.index ∷ r.deeper.place) (app f ts) ≡ Some r.redex.part = rw r.there r.redex.there in
    let at : subterm_at s.place (app f ts) ≡ Some r.redex.part = rw (r.is, e) there in
    record { rule = r.redex.rule; numbered = rw r.is r.redex.numbered; part = r.redex.part; there = at; instance = r.redex.instance }

mutual
  pub redexes_only : (rules : List RewriteRule) (t : Tree) (ss : List PlacedRule) → AreRedexes rules t ss → (s : PlacedRule) → In s ss → IsRedexAt rules t s
  redexes_only rules (var n) ss h s is = root_redex_at rules (var n) s (root_only rules 0 (var n) ss h s is)
  redexes_only rules (app f ts) ss h s is =
      elim (in_either h.0 h.1 (subst (λ l. In s l) h.4 is)) as (λ _. IsRedexAt rules (app f ts) s) [
        | inl k ↦ root_redex_at rules (app f ts) s (root_only rules 0 (app f ts) h.0 h.2 s k)
        | inr k ↦ inner_redex_at rules f ts s (inner_only rules 1 ts h.1 h.3 s k)
      ]

  inner_only : (rules : List RewriteRule) (place : ℕ) (ts : Trees) (ss : List PlacedRule) → AreRedexesOfAll rules place ts ss → (s : PlacedRule) → In s ss → IsInnerRedex rules place ts s
  inner_only rules place nil ss h s is = let none : In s [] = subst (λ l. In s l) h is in elim none [ ]
  inner_only rules place (cons t ts) ss h s is =
      elim (in_either (map (below (place ∷ [])) h.0) h.1 (subst (λ l. In s l) h.4 is)) as (λ _. IsInnerRedex rules place (cons t ts) s) [
        | inl k ↦ let u = from_below (place ∷ []) s h.0 k in inner_first rules place t ts u.0 s (redexes_only rules t h.0 h.2 u.0 u.1) u.2
        | inr k ↦ inner_later rules place t ts s (inner_only rules (place + 1) ts h.1 h.3 s k)
      ]

index_in_items : (rules : List RewriteRule) (place : ℕ) (ts : Trees) (ss : List PlacedRule) → AreRedexesOfAll rules place ts ss → (i : ℕ) (argument : Tree) (u : PlacedRule)
    → slice_get (items ts) i ≡ Some argument → IsRedexAt rules argument u → ((t : Tree) (first : List PlacedRule) → AreRedexes rules t first → IsRedexAt rules t u → In u first)
    → In (below ((place + i) ∷ []) u) ss
index_in_items rules place nil ss h i argument u there r all = absurd cc
index_in_items rules place (cons t ts) ss h zero argument u there r all =
    let e : place + 0 ≡ place = omega arith in
    let same : t ≡ argument = cc in
    rw (h.4, e) (in_left h.1 (in_below (place ∷ []) u h.0 (all t h.0 h.2 (rw same r))))
index_in_items rules place (cons t ts) ss h (suc i) argument u there r all =
    let e : place + suc i ≡ (place + 1) + i = omega arith in
    rw (h.4, e) (in_right (map (below (place ∷ [])) h.0) (index_in_items rules (place + 1) ts h.1 h.3 i argument u there r all))

-- an inner position of an application
record IsInside (f : ℕ) (ts : Trees) (place : ℕ) (p : List ℕ) (part : Tree) : Type 0 where
  index : ℕ
  number : place ≡ 1 + index
  argument : Tree
  there : slice_get (items ts) index ≡ Some argument
  below : subterm_at p argument ≡ Some part

inside_at : (f : ℕ) (ts : Trees) (place : ℕ) (p : List ℕ) (part : Tree) → subterm_at (place ∷ p) (app f ts) ≡ Some part → IsInside f ts place p part
inside_at f ts zero p part e = absurd cc
inside_at f ts (suc i) p part e = go (slice_get (items ts) i) refl e
  where
    go : (o : Option Tree) → slice_get (items ts) i ≡ o → option_and_then (subterm_at p) o ≡ Some part → IsInside f ts (suc i) p part
    go None is h = absurd cc
    go (Some a) is h = record { index = i; number = omega arith; argument = a; there = is; below = h }

root_at : (rules : List RewriteRule) (t : Tree) (s : PlacedRule) → s.place ≡ [] → IsRedexAt rules t s → (ss : List PlacedRule) → AreRootRedexes rules 0 t ss → In s ss
root_at rules t s here r ss h =
    let there : subterm_at [] t ≡ Some r.part = subst (λ p. subterm_at p t ≡ Some r.part) here r.there in
    let part : t ≡ r.part = cc in
    let e : 0 + s.rule ≡ s.rule = omega arith in
    let found : In (record { place = []; rule = s.rule }) ss =
    subst (λ k. In (record { place = []; rule = k }) ss) e (root_all rules 0 t ss h s.rule r.rule r.numbered (rw part r.instance)) in
    subst (λ p. In (record { place = p; rule = s.rule }) ss) (sym here) found

-- Each redex is listed: by recursion on its position.
pub redexes_all : (rules : List RewriteRule) (p : List ℕ) (t : Tree) (ss : List PlacedRule) → AreRedexes rules t ss → (k : ℕ)
    → IsRedexAt rules t (record { place = p; rule = k }) → In (record { place = p; rule = k }) ss
redexes_all rules [] (var n) ss h k r = root_at rules (var n) (record { place = []; rule = k }) refl r ss h
redexes_all rules [] (app f ts) ss h k r = rw h.4 (in_left h.1 (root_at rules (app f ts) (record { place = []; rule = k }) refl r h.0 h.2))
redexes_all rules (place ∷ p) (var n) ss h k r = absurd (let e = r.there in cc)
redexes_all rules (place ∷ p) (app f ts) ss h k r =
    let at = inside_at f ts place p r.part r.there in
    let u : PlacedRule = record { place = p; rule = k } in
    let deeper : IsRedexAt rules at.argument u = record { rule = r.rule; numbered = r.numbered; part = r.part; there = at.below; instance = r.instance } in
    let found = index_in_items rules 1 ts h.1 h.3 at.index at.argument u at.there deeper (λ t first redexes d. redexes_all rules p t first redexes k d) in
    rw (h.4, at.number) (in_right h.0 found)

ascend_joined : (xs ys : List PlacedRule) → Ascend xs → Ascend ys → ((x y : PlacedRule) → In x xs → In y ys → ComesBefore x y) → Ascend (xs ++ ys)
ascend_joined [] ys a b h = b
ascend_joined (x ∷ xs) ys a b h = (
  (λ u is. elim (in_either xs ys is) as (λ _. ComesBefore x u) [ inl k ↦ a.0 u k | inr k ↦ h x u in_first k ]),
  ascend_joined xs ys a.1 b (λ v w k l. h v w (in_rest k) l),
)

before_below : (place : ℕ) (s u : PlacedRule) → ComesBefore s u → ComesBefore (below (place ∷ []) s) (below (place ∷ []) u)
before_below place s u (inl h) = inl (inr (refl, h))
before_below place s u (inr h) = inr (ap (λ p. place ∷ p) h.0, h.1)

ascend_below : (place : ℕ) (ss : List PlacedRule) → Ascend ss → Ascend (map (below (place ∷ [])) ss)
ascend_below place [] a = tt
ascend_below place (s ∷ ss) a =
    ((λ u is. let found = from_below (place ∷ []) u ss is in rw found.2 (before_below place s found.0 (a.0 found.0 found.1))), ascend_below place ss a.1)

root_before : (rules : List RewriteRule) (k : ℕ) (t : Tree) (u : PlacedRule) → IsRootRedex rules (k + 1) t u → ComesBefore (record { place = []; rule = k }) u
root_before rules k t u r = inr (sym r.here, omega (arith, r.number))

root_ascends : (rule : RewriteRule) (rules : List RewriteRule) (k : ℕ) (t : Tree) (rest ss : List PlacedRule)
    → Ascend rest → ((u : PlacedRule) → In u rest → IsRootRedex rules (k + 1) t u) → IsStep rule k t rest ss → Ascend ss
root_ascends rule rules k t rest ss a only (inl c) = subst Ascend (sym c.1) ((λ u is. root_before rules k t u (only u is)), a)
root_ascends rule rules k t rest ss a only (inr c) = subst Ascend (sym c.1) a

roots_ascend : (rules : List RewriteRule) (k : ℕ) (t : Tree) (ss : List PlacedRule) → AreRootRedexes rules k t ss → Ascend ss
roots_ascend [] k t ss h = subst Ascend (sym h) tt
roots_ascend (rule ∷ rules) k t ss h =
    root_ascends rule rules k t h.0 ss (roots_ascend rules (k + 1) t h.0 h.1) (λ u is. root_only rules (k + 1) t h.0 h.1 u is) h.2

root_before_inner : (rules : List RewriteRule) (t : Tree) (ts : Trees) (s u : PlacedRule) → IsRootRedex rules 0 t s → IsInnerRedex rules 1 ts u → ComesBefore s u
root_before_inner rules t ts s u r i = rw i.is (inl (rw r.here tt))

inner_before_inner : (rules : List RewriteRule) (place : ℕ) (ts : Trees) (s u v : PlacedRule) → s ≡ below (place ∷ []) v → IsInnerRedex rules (place + 1) ts u → ComesBefore s u
inner_before_inner rules place ts s u v e i = rw (e, i.is) (inl (inl (omega arith)))

mutual
  pub redexes_ascend : (rules : List RewriteRule) (t : Tree) (ss : List PlacedRule) → AreRedexes rules t ss → Ascend ss
  redexes_ascend rules (var n) ss h = roots_ascend rules 0 (var n) ss h
  redexes_ascend rules (app f ts) ss h =
      subst Ascend (sym h.4) (ascend_joined h.0 h.1 (roots_ascend rules 0 (app f ts) h.0 h.2) (inner_ascend rules 1 ts h.1 h.3)
      (λ s u k l. root_before_inner rules (app f ts) ts s u (root_only rules 0 (app f ts) h.0 h.2 s k) (inner_only rules 1 ts h.1 h.3 u l)))

  inner_ascend : (rules : List RewriteRule) (place : ℕ) (ts : Trees) (ss : List PlacedRule) → AreRedexesOfAll rules place ts ss → Ascend ss
  inner_ascend rules place nil ss h = subst Ascend (sym h) tt
  inner_ascend rules place (cons t ts) ss h =
      subst Ascend (sym h.4) (ascend_joined (map (below (place ∷ [])) h.0) h.1 (ascend_below place h.0 (redexes_ascend rules t h.0 h.2)) (inner_ascend rules (place + 1) ts h.1 h.3)
      (λ s u k l. let found = from_below (place ∷ []) s h.0 k in inner_before_inner rules place ts s u found.0 found.2 (inner_only rules (place + 1) ts h.1 h.3 u l)))

pub below_nothing : (ss : List PlacedRule) → map (below []) ss ≡ ss
below_nothing [] = refl
below_nothing (s ∷ ss) = ap (λ us. s ∷ us) (below_nothing ss)

-- what has grown from nothing
pub grown_whole : (rules : List RewriteRule) (t : Tree) (place : List ℕ) (old new : List PlacedRule) → place ≡ [] → old ≡ [] → Grows place (AreRedexes rules t) old new → AreRedexes rules t new
grown_whole rules t place old new p o g =
    let same : g.0 ≡ new = sym (rw (g.2, o, p, below_nothing g.0) refl) in
    subst (AreRedexes rules t) same g.1

pub redexes_listed : (rules : List RewriteRule) (t : Tree) (ss : List PlacedRule) → AreRedexes rules t ss → HasRedexes rules t ss
redexes_listed rules t ss h = record {
  each = λ s. (λ is. redexes_only rules t ss h s is, λ r. redexes_all rules s.place t ss h s.rule r);
  ascend = redexes_ascend rules t ss h;
}
