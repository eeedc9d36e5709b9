-- The search for the first redex: at the root, and then argument by argument.
use Rattle.std.proofs.Common.{◌≡◌, ◌<◌, ◌≤◌, ℕ, ◌+◌, zero, suc, ◌⊎◌, ◌↔◌, inl, inr, refl, sym, ap, subst, arith, ◌∙◌, Bool, List, [], ◌∷◌, ◌++◌, length, Option, Some, None, Result, Ok, Err, IfOk, IsTrue, OnOk, slice_get}
use Rattle.std.proofs.Math.Decide.{dec_le, ℕ_discrete}
use Rattle.std.proofs.lemmas.Option.{same_Some, slice_get_cases, slice_get_past, slice_get_within}
use Rattle.std.specs.Option.{option_and_then}
use Rattle.trs_defs.specs.Tree.{Tree, Trees, var, app, nil, cons, items, count}
use Rattle.trs_defs.specs.Size.{size_of}
use Rattle.trs_defs.specs.Substitution.{IsInstance}
use Rattle.trs_defs.specs.Position.{argument_at, subterm_at}
use Rattle.trs_defs.specs.System.{RewriteRule}
use Rattle.trs_defs.specs.Path.{PlacedRule}
use Rattle.trs_defs.specs.Step.{Step}
use Rattle.trs_defs.specs.NormalForm.{IsNormalForm}
use Rattle.trs_defs.proofs.Places.{place_of_step}
use Rattle.trs_defs.proofs.ArgumentLists.{item_size}
use Rattle.term_pool.specs.Pooled.{Extends, tree_at}
use Rattle.term_pool.specs.Redexes.{IsRedexAt, IsNarrow, AreNarrow, IsEarlier, ComesBefore}
use Rattle.term_pool.proofs.Extending.{same_tree_at}
use Rattle.completion.specs.Normalizing.{IsFirstRedex}
use Rattle.completion.specs.PassedIds.{mark_of, IsMarked}
use Rattle.completion.specs.Searching.{HasNoPlace, HasNoneOf, ArePassed, IsFound, IsRootFound, BeginsBehind, HasNoneUpTo}

-- ---- arguments

pub argument_smaller : (t : Tree) (place : ℕ) (a : Tree) → argument_at t place ≡ Some a → size_of a < size_of t
argument_smaller (var n) place a e = absurd cc
argument_smaller (app f ts) zero a e = absurd cc
argument_smaller (app f ts) (suc i) a e = omega (arith, item_size ts i a e)

item_narrow : (ts : Trees) (i : ℕ) (a : Tree) → slice_get (items ts) i ≡ Some a → AreNarrow ts → IsNarrow a
item_narrow nil i a e n = absurd cc
item_narrow (cons t ts) zero a e n = subst IsNarrow (same_Some t a e) n.0
item_narrow (cons t ts) (suc i) a e n = item_narrow ts i a e n.1

pub argument_narrow : (t : Tree) (place : ℕ) (a : Tree) → argument_at t place ≡ Some a → IsNarrow t → IsNarrow a
argument_narrow (var v) place a e n = absurd cc
argument_narrow (app f ts) zero a e n = absurd cc
argument_narrow (app f ts) (suc i) a e n = item_narrow ts i a e n.1

all_items : (ts : Trees) → length (items ts) ≡ count ts
all_items nil = refl
all_items (cons t ts) = omega (arith, all_items ts)

-- a narrow term has no argument behind 255 others
pub few_arguments : (t : Tree) (n : ℕ) (part : Tree) → argument_at t (n + 1) ≡ Some part → IsNarrow t → n < 255
few_arguments (var v) n part there w = absurd cc
few_arguments (app f ts) n part there w =
    let next : n + 1 ≡ suc n = omega arith in
    let within = slice_get_within (items ts) n part (sym (ap (argument_at (app f ts)) next) ∙ there) in
    omega (arith, within, all_items ts, w.0)

-- behind an argument that is not there is none
no_later : (t : Tree) (n m : ℕ) → argument_at t (n + 1) ≡ None → n < m → argument_at t m ≡ None
no_later (var v) n m e less = refl
no_later (app f ts) n zero e less = refl
no_later (app f ts) n (suc m) e less =
    let next : n + 1 ≡ suc n = omega arith in
    let none : slice_get (items ts) n ≡ None = sym (ap (argument_at (app f ts)) next) ∙ e in
    let past : length (items ts) ≤ n = elim (slice_get_cases (items ts) n).1 as (λ _. length (items ts) ≤ n) [
      | inl h ↦ absurd (not_both h.0 (sym h.2 ∙ none))
      | inr h ↦ h.0
    ] in
    slice_get_past (items ts) m (omega (arith, past, less))
  where
    not_both : (x : Tree) → Some x ≡ None → ⊥
    not_both x k = absurd cc

-- ---- redexes of arguments

module _ (rules : List RewriteRule) (t a : Tree) (m : ℕ) (there : argument_at t m ≡ Some a) where
  inside : (u : PlacedRule) (p : List ℕ) → u.place ≡ m ∷ p → IsRedexAt rules t u → IsRedexAt rules a (record { place = p; rule = u.rule })
  inside u p e r =
      let S : List ℕ → Type 0 = λ q. subterm_at q t ≡ Some r.part in
      record {
        rule = r.rule;
        numbered = r.numbered;
        part = r.part;
        there = sym (ap (option_and_then (subterm_at p)) there) ∙ subst S e r.there;
        instance = r.instance;
      }

  lifted : (s : PlacedRule) → IsRedexAt rules a s → IsRedexAt rules t (record { place = m ∷ s.place; rule = s.rule })
  lifted s r = record {
    rule = r.rule;
    numbered = r.numbered;
    part = r.part;
    there = ap (option_and_then (subterm_at s.place)) there ∙ r.there;
    instance = r.instance;
  }

nowhere : (rules : List RewriteRule) (t : Tree) (u : PlacedRule) (m : ℕ) (p : List ℕ) → u.place ≡ m ∷ p → argument_at t m ≡ None → IsRedexAt rules t u → ⊥
nowhere rules t u m p e none r =
    let S : List ℕ → Type 0 = λ q. subterm_at q t ≡ Some r.part in
    not_both r.part (sym (ap (option_and_then (subterm_at p)) none) ∙ subst S e r.there)
  where
    not_both : (x : Tree) → ◌≡◌ {A = Option Tree} None (Some x) → ⊥
    not_both x k = absurd cc

no_place_zero : (t : Tree) → argument_at t 0 ≡ None
no_place_zero (var v) = refl
no_place_zero (app f ts) = refl

-- two steps are one, or the first comes before the other
abbrev IsFirstOf : PlacedRule → PlacedRule → Type 0
IsFirstOf s u = (s ≡ u) ⊎ ComesBefore s u

of_parts : {x y : List ℕ} {i j : ℕ} → x ≡ y → i ≡ j → ◌≡◌ {A = PlacedRule} (record { place = x; rule = i }) (record { place = y; rule = j })
of_parts e e' = cc (e, e')

module _ (rules : List RewriteRule) (t : Tree) where
  pub past_root : IsRootFound rules t None → HasNoneUpTo rules t 0
  past_root none u r = go u.place refl
    where
      go : (q : List ℕ) → u.place ≡ q → BeginsBehind 0 q
      go [] e = none u r e
      go (zero ∷ p) e = absurd (nowhere rules t u 0 p e (no_place_zero t) r)
      go (suc m ∷ p) e = omega arith

  argument_is : (n m : ℕ) (a : Tree) → argument_at t (n + 1) ≡ Some a → m ≡ n + 1 → argument_at t m ≡ Some a
  argument_is n m a there e = ap (argument_at t) e ∙ there

  module _ (n : ℕ) (h : HasNoneUpTo rules t n) where
    pub past_next : (a : Tree) → argument_at t (n + 1) ≡ Some a → HasNoPlace rules a → HasNoneUpTo rules t (n + 1)
    past_next a there none u r = go u.place refl (h u r)
      where
        go : (q : List ℕ) → u.place ≡ q → BeginsBehind n q → BeginsBehind (n + 1) q
        go [] e b = b
        go (m ∷ p) e less = elim (dec_le m (n + 1)) as (λ _. n + 1 < m) [
          | yes k ↦ absurd (none (record { place = p; rule = u.rule }) (inside rules t a m (argument_is n m a there (omega (arith, k, less))) u p e r))
          | no k ↦ omega (arith, k)
        ]

    pub past_all : argument_at t (n + 1) ≡ None → HasNoPlace rules t
    past_all none u r = go u.place refl (h u r)
      where
        go : (q : List ℕ) → u.place ≡ q → BeginsBehind n q → ⊥
        go [] e b = b
        go (m ∷ p) e less = nowhere rules t u m p e (no_later t n m none less) r

    pub first_inside : (a : Tree) (p : List ℕ) (k : ℕ) → argument_at t (n + 1) ≡ Some a → IsFirstRedex rules a (record { place = p; rule = k })
        → IsFirstRedex rules t (record { place = (n + 1) ∷ p; rule = k })
    first_inside a p k there f = record { redex = lifted rules t a (n + 1) there (record { place = p; rule = k }) f.redex; first = λ u r. go u r u.place refl (h u r) }
      where
        below : (u : PlacedRule) (q : List ℕ) → u.place ≡ (n + 1) ∷ q → IsFirstOf (record { place = p; rule = k }) (record { place = q; rule = u.rule })
            → IsFirstOf (record { place = (n + 1) ∷ p; rule = k }) u
        below u q e (inl same) =
            let places : p ≡ q = ap (λ (s : PlacedRule). s.place) same in
            let numbers : k ≡ u.rule = ap (λ (s : PlacedRule). s.rule) same in
            inl (of_parts (ap (λ x. (n + 1) ∷ x) places ∙ sym e) numbers)
        below u q e (inr (inl earlier)) = inr (inl (subst (IsEarlier ((n + 1) ∷ p)) (sym e) (inr (refl, earlier))))
        below u q e (inr (inr (same, less))) = inr (inr (ap (λ x. (n + 1) ∷ x) same ∙ sym e, less))

        go : (u : PlacedRule) → IsRedexAt rules t u → (q : List ℕ) → u.place ≡ q → BeginsBehind n q → IsFirstOf (record { place = (n + 1) ∷ p; rule = k }) u
        go u r [] e b = absurd b
        go u r (m ∷ q) e less = elim (dec_le m (n + 1)) as (λ _. IsFirstOf (record { place = (n + 1) ∷ p; rule = k }) u) [
          | yes h ↦ (let same : m ≡ n + 1 = omega (arith, h, less) in
              below u q (e ∙ ap (λ x. x ∷ q) same) (f.first (record { place = q; rule = u.rule }) (inside rules t a m (argument_is n m a there same) u q e r)))
          | no h ↦ (let more : n + 1 < m = omega (arith, h) in inr (inl (subst (IsEarlier ((n + 1) ∷ p)) (sym e) (inl more))))
        ]

-- ---- redexes at the root

-- none of the rules below this number has an instance there
abbrev pub NoneBelow : List RewriteRule → Tree → ℕ → Type 0
NoneBelow rules t k = (j : ℕ) (r : RewriteRule) → j < k → slice_get rules j ≡ Some r → IsInstance r.left t → ⊥

module _ (rules : List RewriteRule) (t : Tree) where
  pub at_root : (u : PlacedRule) → u.place ≡ [] → (r : IsRedexAt rules t u) → IsInstance r.rule.left t
  at_root u e r =
      let S : List ℕ → Type 0 = λ q. subterm_at q t ≡ Some r.part in
      let same : t ≡ r.part = same_Some t r.part (subst S e r.there) in
      subst (IsInstance r.rule.left) (sym same) r.instance

  pub root_first : (k : ℕ) (rule : RewriteRule) → slice_get rules k ≡ Some rule → IsInstance rule.left t → NoneBelow rules t k → IsRootFound rules t (Some k)
  root_first k rule numbered instance none = record {
    redex = record { rule = rule; numbered = numbered; part = t; there = refl; instance = instance };
    first = λ u r. go u r u.place refl;
  }
    where
      here : (u : PlacedRule) → IsRedexAt rules t u → u.place ≡ [] → k ≤ u.rule → IsFirstOf (record { place = []; rule = k }) u
      here u r e least = elim (dec_le u.rule k) as (λ _. IsFirstOf (record { place = []; rule = k }) u) [
        | yes h ↦ (let same : k ≡ u.rule = omega (arith, h, least) in inl (of_parts (sym e) same))
        | no h ↦ (let less : k < u.rule = omega (arith, h) in inr (inr (sym e, less)))
      ]

      go : (u : PlacedRule) → IsRedexAt rules t u → (q : List ℕ) → u.place ≡ q → IsFirstOf (record { place = []; rule = k }) u
      go u r [] e = elim (dec_le k u.rule) as (λ _. IsFirstOf (record { place = []; rule = k }) u) [
        | yes h ↦ here u r e h
        | no h ↦ absurd (none u.rule r.rule (omega (arith, h)) r.numbered (at_root u e r))
      ]
      go u r (m ∷ p) e = inr (inl (subst (IsEarlier []) (sym e) tt))

-- ---- ids that were passed

-- all redexes are of the first rules
below_all : (rules : List RewriteRule) (t : Tree) (u : PlacedRule) → IsRedexAt rules t u → u.rule < length rules
below_all rules t u r = slice_get_within rules u.rule r.rule r.numbered

-- an id that was passed by all rules
pub passed_by_all : (rules : List RewriteRule) (pool : List Tree) (marks : List ℕ) (id all : ℕ) → ArePassed rules pool marks → all ≡ length rules → mark_of marks id ≡ all
    → HasNoPlace rules (tree_at pool id)
passed_by_all rules pool marks id all h count is u r =
    let below : u.rule < length rules = below_all rules (tree_at pool id) u r in
    (h id (omega (arith, below, count, is))).2 u (omega (arith, below, count, is)) r

-- an id is passed by as many rules as its mark says
pub passed_by_some : (rules : List RewriteRule) (pool : List Tree) (marks : List ℕ) (id : ℕ) → ArePassed rules pool marks → HasNoneOf (mark_of marks id) rules (tree_at pool id)
passed_by_some rules pool marks id h u less r = (h id (omega (arith, less))).2 u less r

-- a rule that is known to have no redex has none at the root
pub none_at_root : (rules : List RewriteRule) (n k : ℕ) (t : Tree) → HasNoneOf n rules t → k < n → (r : RewriteRule) → slice_get rules k ≡ Some r → IsInstance r.left t → ⊥
none_at_root rules n k t none less r there instance =
    none (record { place = []; rule = k }) less (record { rule = r; numbered = there; part = t; there = refl; instance = instance })

-- the rule of a number, as it was read
pub instance_if_ok : {E : Type 0} (answer : Result Bool E) (rules : List RewriteRule) (k : ℕ) (rule : RewriteRule) (t : Tree) → slice_get rules k ≡ Some rule
    → IfOk answer (λ yes. IsTrue yes ↔ IsInstance rule.left t) → IfOk answer (λ yes. (r : RewriteRule) → slice_get rules k ≡ Some r → (IsTrue yes ↔ IsInstance r.left t))
instance_if_ok (Ok b) rules k rule t there h = λ r at. subst (λ (q : RewriteRule). IsTrue b ↔ IsInstance q.left t) (same_Some rule r (sym there ∙ at)) h
instance_if_ok (Err e) rules k rule t there h = tt

pub one_more_passed : (rules : List RewriteRule) (pool : List Tree) (old new : List ℕ) (id all : ℕ) → IsMarked id all old new → ArePassed rules pool old
    → id < length pool → all ≡ length rules → HasNoPlace rules (tree_at pool id) → ArePassed rules pool new
one_more_passed rules pool old new id all marked before there count none v some =
    let M : ℕ → Type 0 = λ w. (w < length pool) × (mark_of new w ≤ length rules) × HasNoneOf (mark_of new w) rules (tree_at pool w) in
    elim (ℕ_discrete v id) as (λ _. M v) [
      | yes same ↦ subst M (sym same) (there, omega (arith, marked.0, count), λ u less r. none u r)
      | no other ↦ (let same : mark_of new v ≡ mark_of old v = marked.1 v other in
          let b = before v (omega (arith, some, same)) in
          let N : ℕ → Type 0 = λ n. HasNoneOf n rules (tree_at pool v) in
          (b.0, omega (arith, b.1, same), subst N (sym same) b.2))
    ]

pub passed_still : (rules : List RewriteRule) (pool next : List Tree) (marks : List ℕ) → Extends pool next → ArePassed rules pool marks → ArePassed rules next marks
passed_still rules pool next marks more before v some =
    let b = before v some in
    let longer : length pool ≤ length next = more.longer in
    let below : v < length pool = b.0 in
    (omega (arith, longer, below), b.1, subst (HasNoneOf (mark_of marks v) rules) (sym (same_tree_at pool next more v below)) b.2)

pub placed_further : (xs p : List ℕ) (k : ℕ) → (xs ++ k ∷ []) ++ p ≡ xs ++ k ∷ p
placed_further [] p k = refl
placed_further (x ∷ xs) p k = ap (λ ys. x ∷ ys) (placed_further xs p k)

-- ---- what was found

pub normal_without : (rules : List RewriteRule) (t : Tree) → HasNoPlace rules t → IsNormalForm (Step rules) t
normal_without rules t none u step =
    let at = place_of_step rules t u step in
    let s = at.steps in
    none (record { place = at.place; rule = at.number }) (record { rule = s.rule; numbered = s.numbered; part = _; there = s.from; instance = (s.substitution, refl) })

pub found_none : (rules others : List RewriteRule) (t : Tree) (old new : List ℕ) (o : Option ℕ) → others ≡ rules → o ≡ None → IsFound others t old new o
    → IsNormalForm (Step rules) t
found_none rules others t old new o same e h u step =
    let F : Option ℕ → Type 0 = IsFound others t old new in
    let N : List RewriteRule → Type 0 = λ rs. HasNoPlace rs t in
    normal_without rules t (subst N same (subst F e h).0) u step

pub found_first : (rules others : List RewriteRule) (t : Tree) (old new : List ℕ) (o : Option ℕ) (k : ℕ) → others ≡ rules → old ≡ [] → o ≡ Some k
    → IsFound others t old new o → IsFirstRedex rules t (record { place = new; rule = k })
found_first rules others t old new o k same empty e h =
    let F : Option ℕ → Type 0 = IsFound others t old new in
    let (p, first, grown) = subst F e h in
    let R : List RewriteRule → Type 0 = λ rs. IsFirstRedex rs t (record { place = p; rule = k }) in
    let P : List ℕ → Type 0 = λ q. IsFirstRedex rules t (record { place = q; rule = k }) in
    let whole : new ≡ p = grown ∙ ap (λ xs. xs ++ p) empty in
    subst P (sym whole) (subst R same first)

pub when_ok : {A E : Type 0} (answer : Result A E) (P : Type 0) → P → OnOk answer P
when_ok (Ok x) P h = h
when_ok (Err e) P h = tt
