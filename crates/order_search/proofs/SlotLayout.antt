-- Where the values of a symbol's parts stand.
use Rattle.std.specs.Prelude.{ℕ, ◌+◌, ◌<◌, Bool, true, false, ◌&&◌, ◌==◌, if◌then◌else◌, List, [], ◌∷◌, ◌++◌, get_or, Option, Some, None, option_map, ◌≡◌}
use Rattle.std.proofs.Common.{zero, suc, refl, ap, subst, arith, ◌∙◌}
use Rattle.std.proofs.lemmas.Bool.Decides.{nat_tests}
use Rattle.order_search.specs.Slots.{Slot, table_from}
use Rattle.order_search.specs.OrderSpace.{parts_from, slots_of}
use Rattle.order_search.proofs.Tests.{self_test}

later_test : (n j : ℕ) → (n == n + suc j) ≡ false
later_test n j = grind (arith, nat_tests)

passed_over : {A : Type 0} (a b : Bool) (x y z : A) → a ≡ false → y ≡ z → (if a && b then x else y) ≡ z
passed_over true b x y z e d = absurd cc
passed_over false b x y z e d = d

taken_here : {A : Type 0} (a b : Bool) (x y : A) → a ≡ true → b ≡ true → (if a && b then x else y) ≡ x
taken_here true true x y e d = refl
taken_here true false x y e d = absurd cc
taken_here false b x y e d = absurd cc

taken_later : {A : Type 0} (a b : Bool) (x y z : A) → b ≡ false → y ≡ z → (if a && b then x else y) ≡ z
taken_later true true x y z e d = absurd cc
taken_later true false x y z e d = d
taken_later false b x y z e d = d

-- the parts of another symbol are passed over
skip : (values : List ℕ) (g f part : ℕ) → (g == f) ≡ false → (from n k : ℕ) (ys : List Slot)
    → table_from k (parts_from g from n ++ ys) values f part ≡ table_from (k + n) ys values f part
skip values g f part other from zero k ys = let at : k ≡ k + 0 = omega arith in ap (λ (i : ℕ). table_from i ys values f part) at
skip values g f part other from (suc n) k ys =
    let at : suc k + n ≡ k + suc n = omega arith in
    passed_over (g == f) (from == part) _ _ _ other (skip values g f part other (suc from) n (suc k) ys ∙ ap (λ (i : ℕ). table_from i ys values f part) at)

-- those of the symbol have their values in order
hit : (values : List ℕ) (f from n k j : ℕ) (ys : List Slot) → j < n → table_from k (parts_from f from n ++ ys) values f (from + j) ≡ get_or values (k + j) 0
hit values f from zero k j ys below = absurd (omega (arith, below))
hit values f from (suc n) k zero ys below =
    let here : (from == from + 0) ≡ true = (let at : from ≡ from + 0 = omega arith in subst (λ (i : ℕ). (from == i) ≡ true) at (self_test from)) in
    let at : k ≡ k + 0 = omega arith in
    taken_here (f == f) (from == from + 0) _ _ (self_test f) here ∙ ap (λ (i : ℕ). get_or values i 0) at
hit values f from (suc n) k (suc j) ys below =
    let next : suc from + j ≡ from + suc j = omega arith in
    let at : suc k + j ≡ k + suc j = omega arith in
    taken_later (f == f) (from == from + suc j) _ _ _ (later_test from j)
    (subst (λ (i : ℕ). table_from (suc k) (parts_from f (suc from) n ++ ys) values f i ≡ get_or values (k + suc j) 0) next
    (hit values f (suc from) n (suc k) j ys (omega (arith, below)) ∙ ap (λ (i : ℕ). get_or values i 0) at))

-- where the parts of a symbol begin
abbrev pub start_of : (ℕ → ℕ) → List ℕ → ℕ → Option ℕ
start_of parts [] f = None
start_of parts (g ∷ gs) f = if g == f then Some 0 else option_map (λ n. parts g + n) (start_of parts gs f)

abbrev pub value_at : List ℕ → ℕ → ℕ → Option ℕ → ℕ
value_at values k part None = 0
value_at values k part (Some n) = get_or values (k + (n + part)) 0

pub at_next : (values : List ℕ) (k m part : ℕ) (o : Option ℕ) → value_at values (k + m) part o ≡ value_at values k part (option_map (λ n. m + n) o)
at_next values k m part None = refl
at_next values k m part (Some n) = let at : k + m + (n + part) ≡ k + (m + n + part) = omega arith in ap (λ (i : ℕ). get_or values i 0) at

choose : (b : Bool) (x : ℕ) (values : List ℕ) (k part : ℕ) (o : Option ℕ) → (b ≡ true → x ≡ get_or values (k + part) 0) → (b ≡ false → x ≡ value_at values k part o)
    → x ≡ value_at values k part (if b then Some 0 else o)
choose true x values k part o here later = let at : k + part ≡ k + (0 + part) = omega arith in here refl ∙ ap (λ (i : ℕ). get_or values i 0) at
choose false x values k part o here later = later refl

same_symbol : (g f : ℕ) → (g == f) ≡ true → f ≡ g
same_symbol g f e = grind (arith, nat_tests)

pub value_from : (parts : ℕ → ℕ) (values : List ℕ) (symbols : List ℕ) (k f part : ℕ) → part < parts f
    → table_from k (slots_of parts symbols) values f part ≡ value_at values k part (start_of parts symbols f)
value_from parts values [] k f part below = refl
value_from parts values (g ∷ gs) k f part below =
    choose (g == f) _ values k part (option_map (λ n. parts g + n) (start_of parts gs f))
    (λ e.
    let same : f ≡ g = same_symbol g f e in
    let first : 0 + part ≡ part = omega arith in
    let Found : ℕ → Type 0 = λ h. table_from k (parts_from h 0 (parts h) ++ slots_of parts gs) values f part ≡ get_or values (k + part) 0 in
    subst Found same
    (subst (λ (i : ℕ). table_from k (parts_from f 0 (parts f) ++ slots_of parts gs) values f i ≡ get_or values (k + part) 0) first (hit values f 0 (parts f) k part (slots_of parts gs) below)))
    (λ e. skip values g f part e 0 (parts g) k (slots_of parts gs) ∙ (value_from parts values gs (k + parts g) f part below ∙ at_next values k (parts g) part (start_of parts gs f)))
