-- Parts of a cap at variables that come in order, each once: each variable has the term that its part needs.
use Rattle.std.proofs.Common.{◌≡◌, ℕ, ◌+◌, ◌<◌, ◌≤◌, List, ◌∷◌, true, IsTrue, ◌↔◌, length, drop, get_or, refl, sym, ◌∙◌, subst, arith}
use Rattle.std.proofs.lemmas.List.{drop_all}
use native.Mathlib.Decide.{dec_lt}
use Rattle.trs_defs.specs.Tree.{Tree, var, app}
use Rattle.trs_defs.specs.Substitution.{apply, apply_all}
use Rattle.trs_defs.proofs.ArgumentLists.{cell}
use Rattle.trs_core.specs.declared.terms.Term.{Term}
use Rattle.trs_core.specs.View.{tree, forest}
use Rattle.trs_caps.specs.HoledTree.{HoledTree, hole, symbol, Fits, EachFits, fits_hole, fits_symbol, fits_none, fits_more}
use Rattle.trs_caps.specs.HoledCap.{MeetsLeft}
use Rattle.trs_caps.specs.Parts.{FitsBetween}
use Rattle.trs_caps.specs.declared.holed.Cap.{Cap}
use Rattle.trs_caps.specs.View.{holed, holed_all}
use Rattle.trs_caps.proofs.Compatible.{filled, filled_fits}

pub hole_between : (c : HoledTree) (l : Tree) (a : ℕ) → c ≡ hole → FitsBetween c l a a
hole_between c l a is = record { rises = omega arith; terms = var; fits = λ τ h. subst (λ z. Fits z (apply τ l)) (sym is) fits_hole }

pub part_between : (c : HoledTree) (l : Tree) (v a b : ℕ) → l ≡ var v → a ≤ v → b ≡ v + 1 → FitsBetween c l a b
part_between c l v a b is from to = record {
  rises = omega (arith, from, to);
  terms = λ w. filled c;
  fits = λ τ h.
      let term : τ v ≡ filled c = h v from (omega (arith, to)) in
      subst (λ z. Fits c (apply τ z)) (sym is) (subst (Fits c) (sym term) (filled_fits c));
}

-- the same of argument lists
pub record EachBetween (cs : List Cap) (ts : List Term) (a b : ℕ) : Type 0 where
  pub rises : a ≤ b
  pub terms : ℕ → Tree
  pub fits : (τ : ℕ → Tree) → ((v : ℕ) → a ≤ v → v < b → τ v ≡ terms v) → EachFits (holed_all cs) (apply_all τ (forest ts))

-- where what is left of two argument lists fits, all of them do
abbrev pub LeftFits : List Cap → List Term → ℕ → List Cap → List Term → ℕ → Type 0
LeftFits cs ts a ds us m = (b : ℕ) → EachBetween ds us m b → EachBetween cs ts a b

-- the terms of the first variables, then those of the others
abbrev first_then : ℕ → (ℕ → Tree) → (ℕ → Tree) → ℕ → Tree
first_then m σ τ v = elim (dec_lt v m) [ yes l ↦ σ v | no l ↦ τ v ]

below_first : (m : ℕ) (σ τ : ℕ → Tree) (v : ℕ) → v < m → first_then m σ τ v ≡ σ v
below_first m σ τ v lt = elim (dec_lt v m) as (λ d. elim d [ yes l ↦ σ v | no l ↦ τ v ] ≡ σ v) [ yes l ↦ refl | no l ↦ absurd (l lt) ]

from_first : (m : ℕ) (σ τ : ℕ → Tree) (v : ℕ) → m ≤ v → first_then m σ τ v ≡ τ v
from_first m σ τ v le = elim (dec_lt v m) as (λ d. elim d [ yes l ↦ σ v | no l ↦ τ v ] ≡ τ v) [ yes l ↦ absurd (omega (arith, l, le)) | no l ↦ refl ]

one_before : (cs : List Cap) (ts : List Term) (c : Cap) (t : Term) (a m b : ℕ) → FitsBetween (holed c) (tree t) a m → EachBetween cs ts m b → EachBetween (c ∷ cs) (t ∷ ts) a b
one_before cs ts c t a m b first rest = record {
  rises = (let p = first.rises in let q = rest.rises in omega (arith, p, q));
  terms = first_then m first.terms rest.terms;
  fits = λ τ h. fits_more
      (first.fits τ (λ v from to. h v from (let q = rest.rises in omega (arith, to, q)) ∙ below_first m first.terms rest.terms v to))
      (rest.fits τ (λ v from to. h v (let p = first.rises in omega (arith, from, p)) to ∙ from_first m first.terms rest.terms v from));
}

pub all_left : (cs : List Cap) (ts : List Term) (a : ℕ) → LeftFits cs ts a cs ts a
all_left cs ts a b h = h

pub next_between : (cs : List Cap) (ts : List Term) (a m n i : ℕ) (c : Cap) (t : Term) → length cs ≡ length ts → i < length cs → c ≡ get_or cs i c → t ≡ get_or ts i t
    → LeftFits cs ts a (drop i cs) (drop i ts) m → FitsBetween (holed c) (tree t) m n → LeftFits cs ts a (drop (i + 1) cs) (drop (i + 1) ts) n
next_between cs ts a m n i c t l h is_c is_t so_far fits b rest =
    so_far b (rw (cell cs i c h is_c, cell ts i t (omega (arith, l, h)) is_t) (one_before (drop (i + 1) cs) (drop (i + 1) ts) c t m n b fits rest))

pub all_between : (cs : List Cap) (ts : List Term) (a m i f g : ℕ) (c : HoledTree) (l : Tree) → c ≡ symbol f (holed_all cs) → l ≡ app g (forest ts) → f ≡ g → length cs ≡ length ts → length cs ≤ i
    → LeftFits cs ts a (drop i cs) (drop i ts) m → FitsBetween c l a m
all_between cs ts a m i f g c l is_c is_l same size past so_far =
    let nothing : EachBetween (drop i cs) (drop i ts) m m = rw (drop_all i cs past, drop_all i ts (omega (arith, size, past))) (record { rises = omega arith; terms = var; fits = λ τ h. fits_none }) in
    let each = so_far m nothing in
    rw (is_c, is_l, same) (record { rises = each.rises; terms = each.terms; fits = λ τ h. fits_symbol (each.fits τ h) })

pub between_meets : (c : HoledTree) (l : Tree) (b : ℕ) → FitsBetween c l 0 b → IsTrue true ↔ MeetsLeft c l
between_meets c l b fits = (λ e. (fits.terms, fits.fits fits.terms (λ v from to. refl)), λ m. refl)
