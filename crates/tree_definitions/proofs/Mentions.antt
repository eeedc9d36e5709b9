-- What histories say of tickets and seats.
use Rattle.std.proofs.Common.{◌≡◌, ◌≢◌, inl, inr, ℕ, ◌+◌, ◌≤◌, Bool, true, false, eqb, eq-eqb, ne_eqb, cond, List, [], ◌∷◌, ◌++◌, refl, ap, sym, ◌∙◌, subst, arith}
use native.Mathlib.Decide.{ℕ_discrete}
use mathlib.Core.Logic.{dite}
use Rattle.trs_defs.specs.Member.{In, in_first, in_rest}
use Rattle.trs_defs.proofs.Members.{in_or}
use Rattle.strategies.specs.cert_step.ProofProblem.{ProofProblem}
use Rattle.strategies.specs.declared.strategy.Strategy.{Strategy}
use Rattle.tree_definitions.specs.History.{HistoryEntry, mentions, of_seat, Runs, IsOwned, IsGiven}

abbrev pub about : HistoryEntry → ℕ → ℕ
about e t = cond (eqb e.ticket t) 1 0

pub mentions-append : (t : ℕ) (xs : List HistoryEntry) (e : HistoryEntry) → mentions t (xs ++ e ∷ []) ≡ mentions t xs + about e t
mentions-append t [] e = omega arith
mentions-append t (x ∷ xs) e = let h = mentions-append t xs e in omega (arith, h)

of_seat-append : (n : ℕ) (xs : List HistoryEntry) (e : HistoryEntry) → of_seat n (xs ++ e ∷ []) ≡ of_seat n xs ++ of_seat n (e ∷ [])
of_seat-append n [] e = refl
of_seat-append n (x ∷ xs) e =
    ap (λ (ys : List HistoryEntry). cond (eqb x.seat n) (x ∷ ys) ys) (of_seat-append n xs e)
    ∙ elim (eqb x.seat n) as (λ b. cond b (x ∷ (of_seat n xs ++ of_seat n (e ∷ []))) (of_seat n xs ++ of_seat n (e ∷ [])) ≡ cond b (x ∷ of_seat n xs) (of_seat n xs) ++ of_seat n (e ∷ [])) [ true ↦ refl | false ↦ refl ]

abbrev pub both : HistoryEntry → ℕ → ℕ → ℕ
both e n t = cond (eqb e.seat n) (about e t) 0

nil_right : (ys : List HistoryEntry) → ys ++ [] ≡ ys
nil_right [] = refl
nil_right (y ∷ ys) = ap (λ zs. y ∷ zs) (nil_right ys)

add_none : (k : ℕ) → k ≡ k + 0
add_none k = omega arith

pub of_append : (n t : ℕ) (xs : List HistoryEntry) (e : HistoryEntry) → mentions t (of_seat n (xs ++ e ∷ [])) ≡ mentions t (of_seat n xs) + both e n t
of_append n t xs e =
    ap (mentions t) (of_seat-append n xs e) ∙ elim (eqb e.seat n) as (λ b. mentions t (of_seat n xs ++ cond b (e ∷ []) []) ≡ mentions t (of_seat n xs) + cond b (about e t) 0) [
      | true ↦ mentions-append t (of_seat n xs) e
      | false ↦ ap (mentions t) (nil_right (of_seat n xs)) ∙ add_none (mentions t (of_seat n xs))
    ]

of_cons : (n t : ℕ) (e : HistoryEntry) (es : List HistoryEntry) → mentions t (of_seat n (e ∷ es)) ≡ both e n t + mentions t (of_seat n es)
of_cons n t e es = elim (eqb e.seat n) as (λ b. mentions t (cond b (e ∷ of_seat n es) (of_seat n es)) ≡ cond b (about e t) 0 + mentions t (of_seat n es)) [ true ↦ refl | false ↦ omega arith ]

at_most : (b : Bool) (k : ℕ) → cond b k 0 ≤ k
at_most true k = omega arith
at_most false k = omega arith

pub of_le : (n t : ℕ) (es : List HistoryEntry) → mentions t (of_seat n es) ≤ mentions t es
of_le n t [] = omega arith
of_le n t (e ∷ es) = omega (arith, of_cons n t e es, at_most (eqb e.seat n) (about e t), of_le n t es)

two_seats : (n m : ℕ) (e : HistoryEntry) (t : ℕ) → n ≢ m → both e n t + both e m t ≤ about e t
two_seats n m e t ne = dite (ℕ_discrete e.seat n)
    (λ is. let a : eqb e.seat n ≡ true = eq-eqb e.seat n is in let b : eqb e.seat m ≡ false = ne_eqb e.seat m (λ q. ne (sym is ∙ q)) in rw (a, b) (omega arith))
    (λ d. let a : eqb e.seat n ≡ false = ne_eqb e.seat n (λ q. d q) in rw a (omega (arith, at_most (eqb e.seat m) (about e t))))

disjoint : (n m t : ℕ) (es : List HistoryEntry) → n ≢ m → mentions t (of_seat n es) + mentions t (of_seat m es) ≤ mentions t es
disjoint n m t [] ne = omega arith
disjoint n m t (e ∷ es) ne = omega (arith, of_cons n t e es, of_cons m t e es, two_seats n m e t ne, disjoint n m t es ne)

pub about_same : (e : HistoryEntry) (t : ℕ) → e.ticket ≡ t → about e t ≡ 1
about_same e t is = let a : eqb e.ticket t ≡ true = eq-eqb e.ticket t is in rw a refl

pub about_other : (e : HistoryEntry) (t : ℕ) → e.ticket ≢ t → about e t ≡ 0
about_other e t ne = let a : eqb e.ticket t ≡ false = ne_eqb e.ticket t ne in rw a refl

pub both_same : (e : HistoryEntry) (n t : ℕ) → e.seat ≡ n → both e n t ≡ about e t
both_same e n t is = let a : eqb e.seat n ≡ true = eq-eqb e.seat n is in rw a refl

both_other : (e : HistoryEntry) (n t : ℕ) → e.seat ≢ n → both e n t ≡ 0
both_other e n t ne = let a : eqb e.seat n ≡ false = ne_eqb e.seat n ne in rw a refl

pub both_le : (e : HistoryEntry) (n t : ℕ) → both e n t ≤ about e t
both_le e n t = at_most (eqb e.seat n) (about e t)

-- the entry is of its ticket's seat: so far all entries about the ticket were
pub owned_more : (es : List HistoryEntry) (e : HistoryEntry) → IsOwned es → mentions e.ticket (of_seat e.seat es) ≡ mentions e.ticket es → IsOwned (es ++ e ∷ [])
owned_more es e owned all t n some = dite (ℕ_discrete e.ticket t)
    (λ same. dite (ℕ_discrete e.seat n)
    (λ here.
    let all_t = subst (λ (k : ℕ). mentions k (of_seat e.seat es) ≡ mentions k es) same all in
    let all_n = subst (λ (k : ℕ). mentions t (of_seat k es) ≡ mentions t es) here all_t in
    omega (arith, all_n, mentions-append t es e, of_append n t es e, both_same e n t here))
    (λ there.
    let all_t = subst (λ (k : ℕ). mentions k (of_seat e.seat es) ≡ mentions k es) same all in
    let d = disjoint e.seat n t es (λ q. there q) in
    absurd (omega (arith, some, all_t, d, of_append n t es e, both_other e n t (λ q. there q)))))
    (λ other.
    let a = about_other e t (λ q. other q) in
    let le = both_le e n t in
    let o = of_append n t es e in
    let old = owned t n (omega (arith, some, o, le, a)) in
    omega (arith, old, mentions-append t es e, o, le, a))

-- ---- what a seat knows by its own entries

-- a ticket that runs by the entries of a seat runs
pub runs_of_own : (es : List HistoryEntry) (seat t : ℕ) → IsOwned es → Runs t (of_seat seat es) → Runs t es
runs_of_own es seat t owned own = owned t seat (omega (arith, own)) ∙ own

-- it does so by those of one seat alone
pub one_owner : (es : List HistoryEntry) (a b t : ℕ) → IsOwned es → Runs t (of_seat a es) → Runs t (of_seat b es) → a ≡ b
one_owner es a b t owned x y = dite (ℕ_discrete a b)
    (λ same. same)
    (λ other.
    let all = runs_of_own es a t owned x in
    let d = disjoint a b t es (λ e. other e) in
    absurd (omega (arith, x, y, all, d)))

-- what was given stays given
pub given_later : (es more : List HistoryEntry) (seat t : ℕ) (problem : ProofProblem) (strategy : Strategy) → IsGiven es seat t problem strategy → IsGiven (es ++ more) seat t problem strategy
given_later es more seat t problem strategy h = later es h
  where
    later : (xs : List HistoryEntry) {e : HistoryEntry} → In e xs → In e (xs ++ more)
    later _ in_first = in_first
    later (x ∷ xs) (in_rest i) = in_rest (later xs i)

-- an entry of a seat is an entry
own_in : {e : HistoryEntry} (es : List HistoryEntry) (seat : ℕ) → In e (of_seat seat es) → In e es
own_in [] seat h = h
own_in {e = e} (x ∷ es) seat h = go (eqb x.seat seat) (own_in es seat) h
  where
    go : (b : Bool) → (In e (of_seat seat es) → In e es) → In e (cond b (x ∷ of_seat seat es) (of_seat seat es)) → In e (x ∷ es)
    go true rest i = elim (in_or i) [ inl same ↦ subst (λ z. In z (x ∷ es)) (sym same) in_first | inr j ↦ in_rest (rest j) ]
    go false rest i = in_rest (rest i)

-- what is given by the entries of a seat was given
pub given_of_own : (es : List HistoryEntry) (of seat t : ℕ) (problem : ProofProblem) (strategy : Strategy) → IsGiven (of_seat of es) seat t problem strategy → IsGiven es seat t problem strategy
given_of_own es of seat t problem strategy h = own_in es of h
