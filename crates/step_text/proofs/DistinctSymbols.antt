-- Symbols of which each is new behind those before it are distinct.
use Rattle.std.proofs.Common.{◌≡◌, ℕ, ◌==◌, ◌||◌, Bool, true, false, List, [], ◌∷◌, ◌++◌, refl, sym, ap, ◌∙◌}
use Rattle.std.specs.List.{AllByRecursion}
use Rattle.std.proofs.lemmas.Bool.{eqb-false, ne_eqb, or_parts, or_from}
use Rattle.trs_defs.specs.Variable.{is_listed}
use Rattle.pair_text.specs.Entries.{AreNewBehind}
use Rattle.cert_step.specs.Entries.{AreDistinct}

or_assoc : (a b c : Bool) → (a || (b || c)) ≡ ((a || b) || c)
or_assoc true b c = refl
or_assoc false b c = refl

or_false : (a : Bool) → (a || false) ≡ a
or_false true = refl
or_false false = refl

listed_push : (g : ℕ) (known : List ℕ) (f : ℕ) → is_listed g (known ++ f ∷ []) ≡ (is_listed g known || f == g)
listed_push g [] f = or_false (f == g)
listed_push g (k ∷ known) f = ap (λ b. (k == g) || b) (listed_push g known f) ∙ or_assoc (k == g) (is_listed g known) (f == g)

other_way : (f g : ℕ) → (f == g) ≡ false → (g == f) ≡ false
other_way f g e = ne_eqb g f (λ same. eqb-false f g e (sym same))

-- none of these is known
abbrev AreNew : List ℕ → List ℕ → Type 0
AreNew known fs = AllByRecursion (λ f. is_listed f known ≡ false) fs

new_parts : (known : List ℕ) (f : ℕ) (fs : List ℕ) → AreNew (known ++ f ∷ []) fs → AreNew known fs × (is_listed f fs ≡ false)
new_parts known f [] h = (tt, refl)
new_parts known f (g ∷ fs) h =
    let parts = or_parts (is_listed g known) (f == g) (sym (listed_push g known f) ∙ h.0) in
    let rest = new_parts known f fs h.1 in
    ((parts.0, rest.0), or_from (g == f) (is_listed f fs) (other_way f g parts.1) rest.1)

new_both : (known : List ℕ) (f : ℕ) (fs : List ℕ) → AreNew known fs → is_listed f fs ≡ false → AreNew (known ++ f ∷ []) fs
new_both known f [] h e = tt
new_both known f (g ∷ fs) h e =
    let parts = or_parts (g == f) (is_listed f fs) e in
    (listed_push g known f ∙ or_from (is_listed g known) (f == g) h.0 (other_way g f parts.0), new_both known f fs h.1 parts.1)

distinct_behind : (known fs : List ℕ) → AreNewBehind known fs → AreDistinct fs × AreNew known fs
distinct_behind known [] h = (tt, tt)
distinct_behind known (f ∷ fs) h =
    let rest = distinct_behind (known ++ f ∷ []) fs h.1 in
    let parts = new_parts known f fs rest.1 in
    ((parts.1, rest.0), (h.0, parts.0))

new_behind : (known fs : List ℕ) → AreDistinct fs → AreNew known fs → AreNewBehind known fs
new_behind known [] d h = tt
new_behind known (f ∷ fs) d h = (h.0, new_behind (known ++ f ∷ []) fs d.1 (new_both known f fs h.1 d.0))

none_known : (fs : List ℕ) → AreNew [] fs
none_known [] = tt
none_known (f ∷ fs) = (refl, none_known fs)

pub distinct_symbols : (fs : List ℕ) → AreNewBehind [] fs → AreDistinct fs
distinct_symbols fs h = (distinct_behind [] fs h).0

pub new_symbols : (fs : List ℕ) → AreDistinct fs → AreNewBehind [] fs
new_symbols fs d = new_behind [] fs d (none_known fs)

-- two properties of each
pub both_parts : {X : Type 0} (P Q : X → Type 0) (xs : List X) → AllByRecursion (λ x. P x × Q x) xs → AllByRecursion P xs × AllByRecursion Q xs
both_parts P Q [] h = (tt, tt)
both_parts P Q (x ∷ xs) h = let rest = both_parts P Q xs h.1 in ((h.0.0, rest.0), (h.0.1, rest.1))

pub both_of : {X : Type 0} (P Q : X → Type 0) (xs : List X) → AllByRecursion P xs → AllByRecursion Q xs → AllByRecursion (λ x. P x × Q x) xs
both_of P Q [] h k = tt
both_of P Q (x ∷ xs) h k = ((h.0, k.0), both_of P Q xs h.1 k.1)
