-- Bindings as equations that substitutions solve.
use Rattle.std.specs.Prelude.{◌==◌, if◌then◌else◌, unwrap_or}
use Rattle.std.proofs.Common.{◌≡◌, ◌↔◌, ℕ, ◌+◌, ◌<◌, ◌≤◌, ◌⊎◌, inl, inr, Bool, true, false, List, [], ◌∷◌, ◌++◌, length, drop, get_or, Option, Some, None, IsTrue, slice_get, refl, ap, sym, ◌∙◌, zero, suc, subst, arith}
use Rattle.std.proofs.lemmas.Option.{same_Some, slice_get_within, get_or_from_slice_get}
use Rattle.std.proofs.lemmas.List.{drop_all}
use Rattle.std.proofs.lemmas.Bool.{eqb-true, eq-eqb}
use Rattle.trs_defs.specs.Tree.{Tree, Trees, var, app, cons, count}
use Rattle.trs_defs.specs.Variable.{some_has_var}
use Rattle.trs_defs.specs.Substitution.{apply, apply_all}
use Rattle.trs_defs.proofs.VariableLaws.{has_var_cons}
use Rattle.trs_defs.specs.Unifier.{IsMostGeneralUnifier}
use Rattle.trs_defs.proofs.Substitutions.{same_instance}
use Rattle.trs_defs.proofs.ArgumentLists.{cell, count_apply_all}
use Rattle.trs_core.specs.declared.terms.Term.{Term}
use Rattle.trs_core.specs.View.{tree, forest}
use Rattle.trs_core.proofs.Comparing.{count_forest}
use Rattle.crit_pairs.specs.Sides.{DoNotMeet}
use Rattle.crit_pairs.specs.declared.binding_table.Binding.{Binding}
use Rattle.crit_pairs.specs.Meeting.{bound_term, bound_to, times, put_in, Solves, Ends, AllEnd, AreEqualUnder, AreEqualExactlyUnder}
use Rattle.crit_pairs.proofs.PutIn.{put_in_bound, always_general}

pub solves_nothing : (θ : ℕ → Tree) → Solves [] θ
solves_nothing θ = record { solves = λ v t e. absurd cc }

-- one binding more
first_or : (c : Bool) (x y t : Tree) (o : Option Tree) → (if c then Some x else o) ≡ Some t → ((c ≡ true) × (x ≡ t)) ⊎ ((c ≡ false) × (o ≡ Some t))
first_or true x y t o e = inl (refl, same_Some x t e)
first_or false x y t o e = inr (refl, e)

is_first : (c : Bool) (x : Tree) (o : Option Tree) → c ≡ true → (if c then Some x else o) ≡ Some x
is_first true x o e = refl
is_first false x o e = absurd cc

is_later : (c : Bool) (x : Tree) (o : Option Tree) → c ≡ false → (if c then Some x else o) ≡ o
is_later true x o e = absurd cc
is_later false x o e = refl

none_both : (c : Bool) (x : Tree) (o : Option Tree) → (if c then Some x else o) ≡ None → (c ≡ false) × (o ≡ None)
none_both true x o e = absurd cc
none_both false x o e = (refl, e)

bound_either : (bs : List Binding) (b : Binding) (w : ℕ) (t : Tree) → bound_term (bs ++ b ∷ []) w ≡ Some t → (bound_term bs w ≡ Some t) ⊎ ((b.variable ≡ w) × (tree b.term.now ≡ t))
bound_either [] b w t e = elim (first_or (b.variable == w) (tree b.term.now) t t None e) as (λ _. (bound_term [] w ≡ Some t) ⊎ ((b.variable ≡ w) × (tree b.term.now ≡ t))) [
  | inl h ↦ inr (eqb-true b.variable w h.0, h.1)
  | inr h ↦ inl h.1
]
bound_either (a ∷ bs) b w t e = elim (first_or (a.variable == w) (tree a.term.now) t t (bound_term (bs ++ b ∷ []) w) e) as (λ _. (bound_term (a ∷ bs) w ≡ Some t) ⊎ ((b.variable ≡ w) × (tree b.term.now ≡ t))) [
  | inl h ↦ inl (is_first (a.variable == w) (tree a.term.now) (bound_term bs w) h.0 ∙ ap (λ z. Some z) h.1)
  | inr h ↦ elim (bound_either bs b w t h.1) as (λ _. (bound_term (a ∷ bs) w ≡ Some t) ⊎ ((b.variable ≡ w) × (tree b.term.now ≡ t))) [
    | inl k ↦ inl (is_later (a.variable == w) (tree a.term.now) (bound_term bs w) h.0 ∙ k)
    | inr k ↦ inr k
  ]
]

bound_still : (bs : List Binding) (b : Binding) (w : ℕ) (t : Tree) → bound_term bs w ≡ Some t → bound_term (bs ++ b ∷ []) w ≡ Some t
bound_still [] b w t e = absurd cc
bound_still (a ∷ bs) b w t e = elim (first_or (a.variable == w) (tree a.term.now) t t (bound_term bs w) e) as (λ _. bound_term ((a ∷ bs) ++ b ∷ []) w ≡ Some t) [
  | inl h ↦ is_first (a.variable == w) (tree a.term.now) (bound_term (bs ++ b ∷ []) w) h.0 ∙ ap (λ z. Some z) h.1
  | inr h ↦ is_later (a.variable == w) (tree a.term.now) (bound_term (bs ++ b ∷ []) w) h.0 ∙ bound_still bs b w t h.1
]

bound_last : (bs : List Binding) (b : Binding) → bound_term bs b.variable ≡ None → bound_term (bs ++ b ∷ []) b.variable ≡ Some (tree b.term.now)
bound_last [] b e = is_first (b.variable == b.variable) (tree b.term.now) None (eq-eqb b.variable b.variable refl)
bound_last (a ∷ bs) b e =
    let h = none_both (a.variable == b.variable) (tree a.term.now) (bound_term bs b.variable) e in
    is_later (a.variable == b.variable) (tree a.term.now) (bound_term (bs ++ b ∷ []) b.variable) h.0 ∙ bound_last bs b h.1

pub solves_more : (bs new : List Binding) (b : Binding) → new ≡ bs ++ b ∷ [] → bound_term bs b.variable ≡ None → (θ : ℕ → Tree)
    → (Solves bs θ × (θ b.variable ≡ apply θ (tree b.term.now))) ↔ Solves new θ
solves_more bs new b is none θ =
    let P : List Binding → Type 0 = λ z. (Solves bs θ × (θ b.variable ≡ apply θ (tree b.term.now))) ↔ Solves z θ in
    subst P (sym is) (
      (λ h. record {
        solves = λ w u e. elim (bound_either bs b w u e) as (λ _. θ w ≡ apply θ u) [
          | inl k ↦ h.0.solves w u k
          | inr k ↦ ap θ (sym k.0) ∙ (h.1 ∙ ap (apply θ) k.1)
        ];
      }),
      (λ h. (record { solves = λ w u e. h.solves w u (bound_still bs b w u e) }, h.solves b.variable (tree b.term.now) (bound_last bs b none))),
    )

-- the bindings as a unifier
unless_bound : (o : Option Tree) (v : ℕ) (θ : ℕ → Tree) → ((t : Tree) → o ≡ Some t → θ v ≡ apply θ t) → θ v ≡ apply θ (unwrap_or o (var v))
unless_bound None v θ h = refl
unless_bound (Some t) v θ h = h t refl

general : (bs : List Binding) (θ : ℕ → Tree) → Solves bs θ → (v : ℕ) → θ v ≡ apply θ (bound_to bs v)
general bs θ h v = unless_bound (bound_term bs v) v θ (λ t e. h.solves v t e)

pub bound_at : (bs : List Binding) (v : ℕ) (t : Tree) → bound_term bs v ≡ Some t → (k : ℕ) × (b : Binding) × (slice_get bs k ≡ Some b) × (b.variable ≡ v) × (tree b.term.now ≡ t)
bound_at [] v t e = absurd cc
bound_at (a ∷ bs) v t e = elim (first_or (a.variable == v) (tree a.term.now) t t (bound_term bs v) e) [
  | inl h ↦ (zero, a, refl, eqb-true a.variable v h.0, h.1)
  | inr h ↦ let (k, b, at, same, is) = bound_at bs v t h.1 in (suc k, b, at, same, is)
]

-- the variable of a binding is bound
pub bound_here : (bs : List Binding) (v k : ℕ) (b : Binding) → slice_get bs k ≡ Some b → b.variable ≡ v → bound_term bs v ≡ None → ⊥
bound_here [] v k b at is e = absurd cc
bound_here (a ∷ bs) v zero b at is e =
    let first : a ≡ b = same_Some a b at in
    let yes_here : (a.variable == v) ≡ true = eq-eqb a.variable v (ap (λ z. z.variable) first ∙ is) in
    let not_here : (a.variable == v) ≡ false = (none_both (a.variable == v) (tree a.term.now) (bound_term bs v) e).0 in
    absurd (cc (yes_here, not_here))
bound_here (a ∷ bs) v (suc k) b at is e = bound_here bs v k b at is (none_both (a.variable == v) (tree a.term.now) (bound_term bs v) e).1

solves_itself : (levels : ℕ) (bs : List Binding) → AllEnd levels bs → Solves bs (put_in levels bs)
solves_itself levels bs end = record {
  solves = λ v t e.
      let (k, b, at, _, is) = bound_at bs v t e in
      let read : get_or bs k b ≡ b = get_or_from_slice_get bs k b b at in
      let b_ends : Ends levels bs (tree b.term.now) = subst (λ z. Ends levels bs (tree z.term.now)) read (end k b (slice_get_within bs k b at)) in
      let t_ends : Ends levels bs t = subst (Ends levels bs) is b_ends in
      put_in_bound levels bs v t e ∙ same_instance (times levels (bound_to bs)) (times (suc levels) (bound_to bs)) t t_ends;
}

pub solution_found : (a b : Tree) (bs : List Binding) (levels : ℕ) → AreEqualExactlyUnder bs a b → AllEnd levels bs → IsMostGeneralUnifier a b (put_in levels bs)
solution_found a b bs levels h end = record {
  unifies = (h (put_in levels bs)).1 (solves_itself levels bs end);
  most_general = λ σ e. (σ, always_general (bound_to bs) σ (general bs σ ((h σ).0 e)) (suc levels));
}

-- terms that are equal exactly under the bindings
pub equal_exactly : (a b : Tree) (old bs : List Binding) → old ≡ [] → ((θ : ℕ → Tree) → (Solves old θ × (apply θ a ≡ apply θ b)) ↔ Solves bs θ) → AreEqualExactlyUnder bs a b
equal_exactly a b old bs none h θ = ((λ e. (h θ).0 (subst (λ z. Solves z θ) (sym none) (solves_nothing θ), e)), λ s. ((h θ).1 s).1)

pub no_solution : (a b : Tree) (old : List Binding) → old ≡ [] → ((θ : ℕ → Tree) → Solves old θ → apply θ a ≡ apply θ b → ⊥) → DoNotMeet a b
no_solution a b old none h σ e = h σ (subst (λ z. Solves z σ) (sym none) (solves_nothing σ)) e

-- terms that are equal under the bindings at most
pub equal_at_most : (a b : Tree) (old bs : List Binding) → old ≡ [] → ((θ : ℕ → Tree) → Solves old θ → apply θ a ≡ apply θ b → Solves bs θ) → AreEqualUnder bs a b
equal_at_most a b old bs none h θ e = h θ (subst (λ z. Solves z θ) (sym none) (solves_nothing θ)) e

-- terms with other roots, or other numbers of arguments, are apart
pub clash : (old : List Binding) (f g : ℕ) (fs gs : List Term) (t u : Tree) → t ≡ app f (forest fs) → u ≡ app g (forest gs) → (f ≡ g → length fs ≡ length gs → ⊥)
    → (θ : ℕ → Tree) → Solves old θ → apply θ t ≡ apply θ u → ⊥
clash old f g fs gs t u is_t is_u ne θ s e =
    let whole : app f (apply_all θ (forest fs)) ≡ app g (apply_all θ (forest gs)) = sym (ap (apply θ) is_t) ∙ (e ∙ ap (apply θ) is_u) in
    let args : apply_all θ (forest fs) ≡ apply_all θ (forest gs) = cc (whole) in
    let same : f ≡ g = cc (whole) in
    ne same (same_length fs gs (ap count args))
  where
    same_length : (fs gs : List Term) → count (apply_all θ (forest fs)) ≡ count (apply_all θ (forest gs)) → length fs ≡ length gs
    same_length fs gs k = omega (arith, k, count_apply_all θ (forest fs), count_apply_all θ (forest gs), count_forest fs, count_forest gs)

-- one pair of arguments is apart
pub arguments_apart : (fs gs : List Term) (i : ℕ) (x y : Term) (f g : ℕ) (t u : Tree) → t ≡ app f (forest fs) → u ≡ app g (forest gs) → i < length fs → length fs ≡ length gs
    → x ≡ get_or fs i x → y ≡ get_or gs i y → DoNotMeet (tree x) (tree y) → DoNotMeet t u
arguments_apart fs gs i x y f g t u is_t is_u h long is_x is_y none θ e =
    let whole : app f (apply_all θ (forest fs)) ≡ app g (apply_all θ (forest gs)) = sym (ap (apply θ) is_t) ∙ (e ∙ ap (apply θ) is_u) in
    let args : apply_all θ (forest fs) ≡ apply_all θ (forest gs) = cc (whole) in
    none θ (equal_at fs gs i h long is_x is_y args)
  where
    equal_at : (fs gs : List Term) (i : ℕ) → i < length fs → length fs ≡ length gs → x ≡ get_or fs i x → y ≡ get_or gs i y
        → apply_all θ (forest fs) ≡ apply_all θ (forest gs) → apply θ (tree x) ≡ apply θ (tree y)
    equal_at [] gs i h long is_x is_y e = absurd (omega arith)
    equal_at (a ∷ fs) [] i h long is_x is_y e = absurd (omega (arith, long))
    equal_at (a ∷ fs) (b ∷ gs) zero h long is_x is_y e =
        let first : apply θ (tree a) ≡ apply θ (tree b) = cc (e) in
        ap (λ z. apply θ (tree z)) is_x ∙ (first ∙ sym (ap (λ z. apply θ (tree z)) is_y))
    equal_at (a ∷ fs) (b ∷ gs) (suc i) h long is_x is_y e = equal_at fs gs i (omega (arith, h)) (omega (arith, long)) is_x is_y (cc (e))

-- the next pair of arguments, and those behind it
next_pair : (θ : ℕ → Tree) (fs gs : List Term) (i : ℕ) (x y : Term) → i < length fs → length fs ≡ length gs → x ≡ get_or fs i x → y ≡ get_or gs i y
    → apply_all θ (forest (drop i fs)) ≡ apply_all θ (forest (drop i gs))
    → (apply θ (tree x) ≡ apply θ (tree y)) × (apply_all θ (forest (drop (i + 1) fs)) ≡ apply_all θ (forest (drop (i + 1) gs)))
next_pair θ fs gs i x y h long is_x is_y same =
    let left : forest (drop i fs) ≡ cons (tree x) (forest (drop (i + 1) fs)) = ap forest (cell fs i x h is_x) in
    let right : forest (drop i gs) ≡ cons (tree y) (forest (drop (i + 1) gs)) = ap forest (cell gs i y (omega (arith, h, long)) is_y) in
    let e : cons (apply θ (tree x)) (apply_all θ (forest (drop (i + 1) fs))) ≡ cons (apply θ (tree y)) (apply_all θ (forest (drop (i + 1) gs))) =
    sym (ap (apply_all θ) left) ∙ (same ∙ ap (apply_all θ) right) in
    (cc (e), cc (e))

-- What is left of two argument lists says, with the bindings, what the whole said with the old ones.
abbrev pub SaysAsWhole : List Binding → List Term → List Term → List Binding → List Term → List Term → Type 0
SaysAsWhole old fs gs now fs2 gs2 =
    (θ : ℕ → Tree) → (Solves old θ × (apply_all θ (forest fs) ≡ apply_all θ (forest gs))) ↔ (Solves now θ × (apply_all θ (forest fs2) ≡ apply_all θ (forest gs2)))

pub next_meets : (old mid new : List Binding) (fs gs : List Term) (i : ℕ) (x y : Term) → i < length fs → length fs ≡ length gs → x ≡ get_or fs i x → y ≡ get_or gs i y
    → SaysAsWhole old fs gs mid (drop i fs) (drop i gs) → ((θ : ℕ → Tree) → (Solves mid θ × (apply θ (tree x) ≡ apply θ (tree y))) ↔ Solves new θ)
    → SaysAsWhole old fs gs new (drop (i + 1) fs) (drop (i + 1) gs)
next_meets old mid new fs gs i x y h long is_x is_y before one θ =
    let left : forest (drop i fs) ≡ cons (tree x) (forest (drop (i + 1) fs)) = ap forest (cell fs i x h is_x) in
    let right : forest (drop i gs) ≡ cons (tree y) (forest (drop (i + 1) gs)) = ap forest (cell gs i y (omega (arith, h, long)) is_y) in (
      (λ w.
          let m = (before θ).0 w in
          let e : cons (apply θ (tree x)) (apply_all θ (forest (drop (i + 1) fs))) ≡ cons (apply θ (tree y)) (apply_all θ (forest (drop (i + 1) gs))) =
          sym (ap (apply_all θ) left) ∙ (m.1 ∙ ap (apply_all θ) right) in
          let first : apply θ (tree x) ≡ apply θ (tree y) = cc (e) in
          let rest : apply_all θ (forest (drop (i + 1) fs)) ≡ apply_all θ (forest (drop (i + 1) gs)) = cc (e) in
          ((one θ).0 (m.0, first), rest)),
      (λ w.
          let m = (one θ).1 w.0 in
          let e : cons (apply θ (tree x)) (apply_all θ (forest (drop (i + 1) fs))) ≡ cons (apply θ (tree y)) (apply_all θ (forest (drop (i + 1) gs))) = cc (m.1, w.1) in
          (before θ).1 (m.0, ap (apply_all θ) left ∙ (e ∙ sym (ap (apply_all θ) right)))),
    )

-- What is left of two argument lists, and the bindings, follow from the whole and the old ones.
abbrev pub FollowFromWhole : List Binding → List Term → List Term → List Binding → List Term → List Term → Type 0
FollowFromWhole old fs gs now fs2 gs2 =
    (θ : ℕ → Tree) → Solves old θ → apply_all θ (forest fs) ≡ apply_all θ (forest gs) → Solves now θ × (apply_all θ (forest fs2) ≡ apply_all θ (forest gs2))

pub next_follows : (old mid new : List Binding) (fs gs : List Term) (i : ℕ) (x y : Term) → i < length fs → length fs ≡ length gs → x ≡ get_or fs i x → y ≡ get_or gs i y
    → FollowFromWhole old fs gs mid (drop i fs) (drop i gs) → ((θ : ℕ → Tree) → Solves mid θ → apply θ (tree x) ≡ apply θ (tree y) → Solves new θ)
    → FollowFromWhole old fs gs new (drop (i + 1) fs) (drop (i + 1) gs)
next_follows old mid new fs gs i x y h long is_x is_y before one θ s e =
    let m = before θ s e in
    let p = next_pair θ fs gs i x y h long is_x is_y m.1 in
    (one θ m.0 p.0, p.1)

same_arguments : (θ : ℕ → Tree) (f g : ℕ) (fs gs : List Term) (t u : Tree) → t ≡ app f (forest fs) → u ≡ app g (forest gs) → apply θ t ≡ apply θ u
    → apply_all θ (forest fs) ≡ apply_all θ (forest gs)
same_arguments θ f g fs gs t u is_t is_u e =
    let whole : app f (apply_all θ (forest fs)) ≡ app g (apply_all θ (forest gs)) = sym (ap (apply θ) is_t) ∙ (e ∙ ap (apply θ) is_u) in
    cc (whole)

-- one pair of arguments is apart
pub never_meets : (old mid : List Binding) (fs gs : List Term) (i : ℕ) (x y : Term) (f g : ℕ) (t u : Tree) → t ≡ app f (forest fs) → u ≡ app g (forest gs) → i < length fs → length fs ≡ length gs
    → x ≡ get_or fs i x → y ≡ get_or gs i y → FollowFromWhole old fs gs mid (drop i fs) (drop i gs) → ((θ : ℕ → Tree) → Solves mid θ → apply θ (tree x) ≡ apply θ (tree y) → ⊥)
    → (θ : ℕ → Tree) → Solves old θ → apply θ t ≡ apply θ u → ⊥
never_meets old mid fs gs i x y f g t u is_t is_u h long is_x is_y before none θ s e =
    let m = before θ s (same_arguments θ f g fs gs t u is_t is_u e) in
    none θ m.0 (next_pair θ fs gs i x y h long is_x is_y m.1).0

-- all pairs of arguments were met
pub all_follow : (old now : List Binding) (fs gs : List Term) (i f g : ℕ) (t u : Tree) → t ≡ app f (forest fs) → u ≡ app g (forest gs) → FollowFromWhole old fs gs now (drop i fs) (drop i gs)
    → (θ : ℕ → Tree) → Solves old θ → apply θ t ≡ apply θ u → Solves now θ
all_follow old now fs gs i f g t u is_t is_u follow θ s e = (follow θ s (same_arguments θ f g fs gs t u is_t is_u e)).0

-- no arguments are left
pub all_meet : (old now : List Binding) (fs gs : List Term) (i f g : ℕ) (t u : Tree) → t ≡ app f (forest fs) → u ≡ app g (forest gs) → f ≡ g → length fs ≡ length gs → length fs ≤ i
    → SaysAsWhole old fs gs now (drop i fs) (drop i gs) → (θ : ℕ → Tree) → (Solves old θ × (apply θ t ≡ apply θ u)) ↔ Solves now θ
all_meet old now fs gs i f g t u is_t is_u same long past says θ =
    let none : forest (drop i fs) ≡ forest (drop i gs) = ap forest (drop_all i fs past ∙ sym (drop_all i gs (omega (arith, past, long)))) in (
      (λ w.
          let whole : app f (apply_all θ (forest fs)) ≡ app g (apply_all θ (forest gs)) = sym (ap (apply θ) is_t) ∙ (w.1 ∙ ap (apply θ) is_u) in
          let args : apply_all θ (forest fs) ≡ apply_all θ (forest gs) = cc (whole) in
          ((says θ).0 (w.0, args)).0),
      (λ w.
          let m = (says θ).1 (w, ap (apply_all θ) none) in
          let whole : app f (apply_all θ (forest fs)) ≡ app g (apply_all θ (forest gs)) = let e = m.1 in cc (e, same) in
          (m.0, ap (apply θ) is_t ∙ (whole ∙ sym (ap (apply θ) is_u)))),
    )

-- once so many are put in, putting in more changes none of the arguments
abbrev pub ArgumentsEnd : ℕ → List Binding → Trees → Type 0
ArgumentsEnd levels bs ts = (v : ℕ) → IsTrue (some_has_var v ts) → times levels (bound_to bs) v ≡ times (suc levels) (bound_to bs) v

pub next_ends : (levels : ℕ) (bs : List Binding) (ts : List Term) (i : ℕ) (t : Term) → i < length ts → t ≡ get_or ts i t → Ends levels bs (tree t)
    → ArgumentsEnd levels bs (forest (drop (i + 1) ts)) → ArgumentsEnd levels bs (forest (drop i ts))
next_ends levels bs ts i t h e one rest =
    let is : forest (drop i ts) ≡ cons (tree t) (forest (drop (i + 1) ts)) = ap forest (cell ts i t h e) in
    subst (ArgumentsEnd levels bs) (sym is) (λ v has. elim (has_var_cons v (tree t) (forest (drop (i + 1) ts)) has) as (λ _. times levels (bound_to bs) v ≡ times (suc levels) (bound_to bs) v) [
      | inl k ↦ one v k
      | inr k ↦ rest v k
    ])

pub none_left_ends : (levels : ℕ) (bs : List Binding) (ts : List Term) (i : ℕ) → length ts ≤ i → ArgumentsEnd levels bs (forest (drop i ts))
none_left_ends levels bs ts i h = subst (ArgumentsEnd levels bs) (sym (ap forest (drop_all i ts h))) (λ v has. absurd cc)
