-- A term of a certificate that is read has its variables numbered in the order of their first occurrences.
use Rattle.std.proofs.Common.{◌≡◌, inl, inr, ℕ, zero, suc, ◌+◌, ◌≤◌, ◌<◌, Bool, true, false, cond, List, [], ◌∷◌, ◌++◌, length, min, Ok, Err, refl, ap, subst, ◌∙◌, arith}
use Rattle.std.proofs.lemmas.Bool.Decides.{eqb_tells}
use Rattle.trs_defs.specs.Tree.{Tree, Trees, var, app, nil, cons}
use Rattle.trs_defs.specs.System.{System}
use Rattle.trs_defs.specs.Variable.{is_listed, with_variables, with_variables_of_all}
use Rattle.text_reading.specs.Reading.{Read, place_of}
use Rattle.text_reading.proofs.Made.{Makes, ok_same}
use Rattle.names_text.specs.Named.{NamedSystem, table_of}
use Rattle.names_text.proofs.NumberedTerms.{has_below}
use Rattle.term_text.specs.Checked.{Checked, judged}
use Rattle.term_text.specs.Refusals.{refused_at}
use Rattle.term_text.specs.Terms.{term}
use Rattle.term_text.specs.Limits.{keeps_limits}
use Rattle.term_text.specs.Renumbered.{number_among, with_numbers, all_with_numbers, in_order}
use Rattle.term_text.specs.OwnTerms.{own_term, IsTermOf}
use Rattle.term_text.proofs.Numbering.{IsNumbered, AreNumbered, IsBelow, AreBelow, below_from, numbered_next}
use Rattle.term_text.proofs.ReadTerms.{term_read}
use Rattle.term_text.proofs.OwnTermLaws.{makes_own_term}

-- so many numbers from k on
abbrev from : ℕ → ℕ → List ℕ
from k zero = []
from k (suc n) = k ∷ from (suc k) n

one_more : (k n m : ℕ) → m ≡ k + n → from k n ++ m ∷ [] ≡ from k (suc n)
one_more k zero m e = let same : m ≡ k = omega (arith, e) in ap (λ x. x ∷ []) same
one_more k (suc n) m e = ap (λ xs. k ∷ xs) (one_more (suc k) n m (omega (arith, e)))

listed : (k n v : ℕ) → k ≤ v → v < k + n → is_listed v (from k n) ≡ true
listed k zero v le lt = absurd (omega (arith, le, lt))
listed k (suc n) v le lt = elim (eqb_tells k v) as (λ _. is_listed v (from k (suc n)) ≡ true) [
  | inl h ↦ rw h.0 refl
  | inr h ↦ rw h.0 (let ne = h.1 in listed (suc k) n v (omega (arith, le, ne)) (omega (arith, lt)))
]

unlisted : (k n v : ℕ) → k + n ≤ v → is_listed v (from k n) ≡ false
unlisted k zero v le = refl
unlisted k (suc n) v le = elim (eqb_tells k v) as (λ _. is_listed v (from k (suc n)) ≡ false) [
  | inl h ↦ absurd (let same = h.1 in omega (arith, le, same))
  | inr h ↦ rw h.0 (unlisted (suc k) n v (omega (arith, le)))
]

number_from : (k n v : ℕ) → k ≤ v → v < k + n → k + number_among (from k n) v ≡ v
number_from k zero v le lt = absurd (omega (arith, le, lt))
number_from k (suc n) v le lt = elim (eqb_tells k v) as (λ _. k + number_among (from k (suc n)) v ≡ v) [
  | inl h ↦ rw h.0 (let same = h.1 in omega (arith, same))
  | inr h ↦ rw h.0 (let ne = h.1 in omega (arith, number_from (suc k) n v (omega (arith, le, ne)) (omega (arith, lt))))
]

-- ---- behind the variables that came before, each is one of them, or has the next number

mutual
  variables_from : (m : ℕ) (t : Tree) (r : ℕ) → IsNumbered true m t r → with_variables (from 0 m) t ≡ from 0 r
  variables_from m (var n) r (inl h) = rw (listed 0 m n (omega arith) (omega (arith, h.0))) (ap (from 0) h.1)
  variables_from m (var n) r (inr h) = rw (unlisted 0 m n (let same = h.1 in omega (arith, same))) (one_more 0 m n (let same = h.1 in omega (arith, same)) ∙ ap (from 0) h.2)
  variables_from m (app f ts) r h = all_variables_from m ts r h

  all_variables_from : (m : ℕ) (ts : Trees) (r : ℕ) → AreNumbered true m ts r → with_variables_of_all (from 0 m) ts ≡ from 0 r
  all_variables_from m nil r h = ap (from 0) h
  all_variables_from m (cons t ts) r h = rw (variables_from m t h.0 h.1) (all_variables_from h.0 ts r h.2)

mutual
  numbers_kept : (r : ℕ) (t : Tree) → IsBelow r t → with_numbers (from 0 r) t ≡ t
  numbers_kept r (var v) lt = let same : number_among (from 0 r) v ≡ v = omega (arith, number_from 0 r v (omega arith) (omega (arith, lt))) in ap var same
  numbers_kept r (app f ts) h = ap (app f) (all_numbers_kept r ts h)

  all_numbers_kept : (r : ℕ) (ts : Trees) → AreBelow r ts → all_with_numbers (from 0 r) ts ≡ ts
  all_numbers_kept r nil h = refl
  all_numbers_kept r (cons t ts) h = cc (numbers_kept r t h.0, all_numbers_kept r ts h.1)

numbered_in_order : (t : Tree) (r : ℕ) → IsNumbered true 0 t r → in_order t ≡ t
numbered_in_order t r h =
    ap (λ vs. with_numbers vs t) (variables_from 0 t r h) ∙ numbers_kept r t (below_from r t (has_below 0 t r (numbered_next 0 t r h)))

-- within the limits, what all terms have that are read has the one that is read
by_limits : (P : Tree → Type 0) (within : Bool) (r : Checked Tree) (at : ℕ) (t : Tree) → ((u : Tree) → r ≡ Ok u → P u)
    → (let s : Read Tree = cond within (judged refused_at min r) (Err at) in s ≡ Ok t) → P t
by_limits P true (Ok u) at t h e = subst P (ok_same u t e) (h u refl)
by_limits P true (Err ps) at t h e = absurd cc
by_limits P false r at t h e = absurd cc

own_term_in_order : (named : NamedSystem) → Makes (own_term named) (λ t. in_order t ≡ t)
own_term_in_order named x t e =
    by_limits (λ u. in_order u ≡ u) (keeps_limits x) (term true (table_of named) [] x) (place_of x) t
    (λ u is. numbered_in_order u _ (term_read (table_of named) true [] x u is).numbered) e

-- a term of a step, with its variables numbered so
abbrev pub IsReadTerm : System → Tree → Type 0
IsReadTerm system t = IsTermOf system t × (in_order t ≡ t)

pub read_term_made : (named : NamedSystem) → length named.names ≡ length named.system.arities → Makes (own_term named) (IsReadTerm named.system)
read_term_made named counts x t e = (makes_own_term named counts x t e, own_term_in_order named x t e)
