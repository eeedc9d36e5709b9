-- Lists with so many members: what is read, what is read again, and what the code sees.
use Rattle.std.proofs.Common.{◌≡◌, ℕ, zero, suc, ◌+◌, ◌-◌, ◌<◌, ◌≤◌, Bool, true, false, cond, List, [], ◌∷◌, length, get_or, take, drop, map, Ok, Err, refl, sym, ap, ap₂, subst, ◌∙◌, arith}
use Rattle.std.specs.List.{AllByRecursion}
use Rattle.std.proofs.lemmas.List.{take_all}
use Rattle.sexp_core.specs.declared.sexp.Sexp.{Sexp}
use Rattle.sexp_core.specs.Items.{Item, Items, no_items, item, items_of, view, views}
use Rattle.sexp_core.specs.Printed.{bare, placeless}
use Rattle.text_reading.specs.Reading.{Read, ◌<*>◌, Parts, done, ended, many}
use Rattle.text_reading.proofs.Made.{Makes, MakesParts, ok_same, applied, made_done, made_many}
use Rattle.text_reading.proofs.Again.{Spells, SpellsAll, SpellsParts}
use Rattle.pair_text.specs.LongLists.{lacks, first_items, items_behind, exactly, anything}

-- ---- seen by the code

pub lacks_views : (n : ℕ) (xs : List Sexp) → n ≤ length xs → lacks n (views xs) ≡ false
lacks_views zero xs le = refl
lacks_views (suc n) [] le = absurd (omega arith)
lacks_views (suc n) (x ∷ xs) le = lacks_views n xs (omega arith)

pub lacking_views : (n : ℕ) (xs : List Sexp) → length xs < n → lacks n (views xs) ≡ true
lacking_views zero xs lt = absurd (omega arith)
lacking_views (suc n) [] lt = refl
lacking_views (suc n) (x ∷ xs) lt = lacking_views n xs (omega arith)

pub first_views : (n : ℕ) (xs : List Sexp) → first_items n (views xs) ≡ views (take n xs)
first_views zero xs = refl
first_views (suc n) [] = refl
first_views (suc n) (x ∷ xs) = ap (item (view x)) (first_views n xs)

pub behind_views : (n : ℕ) (xs : List Sexp) → items_behind n (views xs) ≡ views (drop n xs)
behind_views zero xs = refl
behind_views (suc n) [] = refl
behind_views (suc n) (x ∷ xs) = behind_views n xs

-- exactly so many members, where there are enough
pub exactly_views : {A B : Type 0} (n : ℕ) (read : Item → Read A) (at : ℕ) (r : Read (List A → B)) (xs : List Sexp) → n ≤ length xs
    → exactly n read at r (views xs) ≡ ended (r <*> many read (views (take n xs))) (views (drop n xs))
exactly_views {A} {B} n read at r xs le =
    ap (λ (b : Bool). cond b (Err at) (ended (r <*> many read (first_items n (views xs))) (items_behind n (views xs)))) (lacks_views n xs le)
    ∙ ap₂ (λ (ys zs : Items). ended (r <*> many read ys) zs) (first_views n xs) (behind_views n xs)

pub exactly_lacks : {A B : Type 0} (n : ℕ) (read : Item → Read A) (at : ℕ) (r : Read (List A → B)) (xs : List Sexp) → length xs < n → exactly n read at r (views xs) ≡ Err at
exactly_lacks n read at r xs lt =
    ap (λ (b : Bool). cond b (Err at) (ended (r <*> many read (first_items n (views xs))) (items_behind n (views xs)))) (lacking_views n xs lt)

-- the first two members, and the others
pub two_views : (xs : List Sexp) (x y : Sexp) → 2 ≤ length xs → x ≡ get_or xs 0 x → y ≡ get_or xs 1 y
    → views xs ≡ item (view x) (item (view y) (views (take (length xs - 2) (drop 2 xs))))
two_views [] x y le a b = absurd (omega arith)
two_views (s ∷ []) x y le a b = absurd (omega arith)
two_views (s ∷ t ∷ more) x y le a b = rw (a, b, take_all (length (s ∷ t ∷ more) - 2) more (omega arith)) refl

-- ---- what is read

no_more : {B : Type 0} (r : Read B) (xs : Items) (v : B) → ended r xs ≡ Ok v → r ≡ Ok v
no_more (Ok w) no_items v e = e
no_more (Err p) no_items v e = absurd cc
no_more (Ok w) (item x xs) v e = absurd cc
no_more (Err p) (item x xs) v e = absurd cc

first_count : {A : Type 0} (n : ℕ) (read : Item → Read A) (xs : Items) (vs : List A) → lacks n xs ≡ false → many read (first_items n xs) ≡ Ok vs → length vs ≡ n
first_count {A} zero read xs vs l e = ap length (sym (ok_same [] vs e))
first_count (suc n) read no_items vs l e = absurd cc
first_count {A} (suc n) read (item x xs) vs l e =
    let b = applied (Ok (λ y ys. y ∷ ys) <*> read x) (many read (first_items n xs)) vs e in
    let a = applied (Ok (λ y ys. y ∷ ys)) (read x) b.make b.is_make in
    let cons_is : (λ y ys. y ∷ ys) ≡ a.make = ok_same _ _ a.is_make in
    let same : a.value ∷ b.value ≡ vs = ap (λ (f : A → List A → List A). f a.value b.value) cons_is ∙ ap (λ (g : List A → List A). g b.value) a.made ∙ b.made in
    sym (ap length same) ∙ ap suc (first_count n read xs b.value l b.is_value)

-- what exactly so many members are read as
abbrev pub AreExactly : {A B : Type 0} → ℕ → (A → Type 0) → (List A → B) → B → Type 0
AreExactly {A} {B} n P f v = (vs : List A) × (length vs ≡ n) × AllByRecursion P vs × (f vs ≡ v)

made_unless : {A B : Type 0} (b : Bool) (n : ℕ) (read : Item → Read A) (P : A → Type 0) → Makes read P → (at : ℕ) (r : Read (List A → B)) (xs : Items) (v : B) → lacks n xs ≡ b
    → cond b (Err at) (ended (r <*> many read (first_items n xs)) (items_behind n xs)) ≡ Ok v → (f : List A → B) × (r ≡ Ok f) × AreExactly n P f v
made_unless true n read P makes at r xs v l e = absurd cc
made_unless {A} {B} false n read P makes at r xs v l e =
    let a = applied r (many read (first_items n xs)) v (no_more (r <*> many read (first_items n xs)) (items_behind n xs) v e) in
    (a.make, a.is_make, (a.value, first_count n read xs a.value l a.is_value, made_many read P makes (first_items n xs) a.value a.is_value, a.made))

pub made_exactly : {A B : Type 0} (n : ℕ) (read : Item → Read A) (P : A → Type 0) → Makes read P → MakesParts (exactly {A = A} {B = B} n read) (AreExactly n P)
made_exactly n read P makes at r xs v e = made_unless (lacks n xs) n read P makes at r xs v refl e

pub made_anything : {B : Type 0} → MakesParts (anything {B = B}) (λ f v. f ≡ v)
made_anything at r xs v e = (v, e, refl)

-- ---- what is printed is read again

pub lacks_same : (n : ℕ) (xs ys : Items) → placeless ys ≡ placeless xs → lacks n ys ≡ lacks n xs
lacks_same zero xs ys e = refl
lacks_same (suc n) no_items no_items e = refl
lacks_same (suc n) no_items (item y ys) e = absurd cc
lacks_same (suc n) (item x xs) no_items e = absurd cc
lacks_same (suc n) (item x xs) (item y ys) e = lacks_same n xs ys cc

all_first : {A : Type 0} (print : A → Item) (vs : List A) (ys : Items) → placeless ys ≡ placeless (items_of (map print vs))
    → (lacks (length vs) ys ≡ false) × (first_items (length vs) ys ≡ ys) × (items_behind (length vs) ys ≡ no_items)
all_first print [] no_items e = (refl, refl, refl)
all_first print [] (item y ys) e = absurd cc
all_first print (v ∷ vs) no_items e = absurd cc
all_first print (v ∷ vs) (item y ys) e = let (a, b, c) = all_first print vs ys cc in (a, ap (item y) b, c)

pub spells_exactly : {A B : Type 0} (n : ℕ) (read : Item → Read A) (print : A → Item) {depth : ℕ} (vs : List A) (make : List A → B) → length vs ≡ n
    → SpellsAll (many read) depth (items_of (map print vs)) vs → SpellsParts (exactly n read) depth (items_of (map print vs)) make (make vs)
spells_exactly {A} {B} n read print {depth} vs make count s = record { again = go; words = s.words; deep = s.deep }
  where
    go : (at : ℕ) (ys : Items) → placeless ys ≡ placeless (items_of (map print vs)) → exactly n read at (Ok make) ys ≡ Ok (make vs)
    go at ys e =
        let (there, first, behind) = all_first print vs ys e in
        rw (sym count, there, first, behind) (ap (λ (r : Read (List A)). Ok make <*> r) (s.again ys e))
