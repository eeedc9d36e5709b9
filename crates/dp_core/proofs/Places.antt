-- A table of places with one entry more in front.
use Rattle.std.specs.Prelude.{◌≡◌, ◌==◌, ◌<◌, ◌≤◌, ℕ, ◌-◌, Bool, true, false, if◌then◌else◌, cond, List, ◌∷◌, drop, length, get_or, Option, Some}
use Rattle.std.specs.Ordering.{nat_cmp}
use Rattle.std.specs.BTreeMap.{BTreeMap, get, is_at}
use Rattle.std.proofs.Common.{zero, suc, refl, sym, ap, subst, arith, ◌∙◌, drop-cons, sub-one}
use Rattle.dp_core.specs.SubtermConditions.{place_for}
use Rattle.dp_core.specs.Places.{ArePlacesOf}
use Rattle.trs_core.proofs.NumberKeys.{at_number}

-- the table has the place of the entry for its symbol, and the others stay
abbrev pub IsUpdate : BTreeMap ℕ ℕ → BTreeMap ℕ ℕ → ℕ × ℕ → Type 0
IsUpdate old new entry = (q : ℕ) → get nat_cmp new q ≡ cond (is_at (nat_cmp entry.0) q) (Some entry.1) (get nat_cmp old q)

as_test : (b : Bool) (x y : Option ℕ) → cond b x y ≡ (if b then x else y)
as_test true x y = refl
as_test false x y = refl

pub one_entry_more : (entries : List (ℕ × ℕ)) (i : ℕ) (d : ℕ × ℕ) (old new : BTreeMap ℕ ℕ) → 0 < i → i ≤ length entries
    → ArePlacesOf (drop i entries) old → IsUpdate old new (get_or entries (i - 1) d) → ArePlacesOf (drop (i - 1) entries) new
one_entry_more entries zero d old new positive within h update = absurd (omega (arith, positive))
one_entry_more entries (suc i) d old new positive within h update = λ f.
    let entry = get_or entries i d in
    let up : IsUpdate old new entry = rw sub-one at update in
    let opened : drop i entries ≡ entry ∷ drop (suc i) entries = drop-cons entries i d (omega (arith, within)) in
    rw sub-one (subst (λ es. get nat_cmp new f ≡ place_for es f) (sym opened)
    (up f ∙ (as_test (is_at (nat_cmp entry.0) f) (Some entry.1) (get nat_cmp old f)
    ∙ (ap (λ b. if b then Some entry.1 else get nat_cmp old f) (at_number entry.0 f)
    ∙ ap (λ o. if entry.0 == f then Some entry.1 else o) (h f)))))
