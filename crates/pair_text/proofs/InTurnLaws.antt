-- Items that are read one after another: what is read, what is read again, and the steps of loops.
use Rattle.std.proofs.Common.{◌≡◌, ℕ, ◌+◌, ◌<◌, ◌≤◌, List, [], ◌∷◌, ◌++◌, length, get_or, drop, map, Ok, Err, refl, sym, ap, ap₂, subst, ◌∙◌, append_assoc, drop-cons, add-one, arith}
use Rattle.std.proofs.lemmas.List.{drop_all}
use Rattle.sexp_core.specs.declared.sexp.Sexp.{Sexp}
use Rattle.sexp_core.specs.Items.{Item, Items, no_items, item, items_of, view, views}
use Rattle.sexp_core.specs.Printed.{bare, placeless}
use Rattle.text_reading.specs.Reading.{Read, ◌<*>◌}
use Rattle.text_reading.specs.Seen.{joined}
use Rattle.text_reading.proofs.SeenParts.{joined_end}
use Rattle.text_reading.proofs.Made.{Makes, ok_same, applied}
use Rattle.text_reading.proofs.Again.{Spells, SpellsAll}
use Rattle.pair_text.specs.InTurn.{before_others, in_turn, AllInTurn}

-- ---- what is read

made_before : {S A : Type 0} (next : S → A → S) (P : S → A → Type 0) (state : S) (r : Read A) (others : A → Read (List A)) (vs : List A) → ((a : A) → r ≡ Ok a → P state a)
    → ((a : A) (ws : List A) → others a ≡ Ok ws → AllInTurn next P ws (next state a)) → before_others r others ≡ Ok vs → AllInTurn next P vs state
made_before next P state (Err p) others vs here behind e = absurd cc
made_before {S} {A} next P state (Ok a) others vs here behind e =
    let b = applied (Ok (λ (ws : List A). a ∷ ws)) (others a) vs e in
    let same : a ∷ b.value ≡ vs = ap (λ (f : List A → List A). f b.value) (ok_same _ _ b.is_make) ∙ b.made in
    let T : List A → Type 0 = λ l. AllInTurn next P l state in
    subst T same (here a refl, behind a b.value b.is_value)

pub made_in_turn : {S A : Type 0} (next : S → A → S) (read : S → Item → Read A) (P : S → A → Type 0) → ((state : S) → Makes (read state) (P state))
    → (xs : Items) (state : S) (vs : List A) → in_turn next read xs state ≡ Ok vs → AllInTurn next P vs state
made_in_turn {S} {A} next read P makes no_items state vs e = let T : List A → Type 0 = λ l. AllInTurn next P l state in subst T (ok_same [] vs e) tt
made_in_turn {S} {A} next read P makes (item x xs) state vs e =
    made_before next P state (read state x) (λ a. in_turn next read xs (next state a)) vs (λ a is. makes state x a is)
    (λ a ws is. made_in_turn next read P makes xs (next state a) ws is) e

-- ---- what is printed is read again

pub spells_in_turn : {S A : Type 0} (next : S → A → S) (read : S → Item → Read A) (print : A → Item) (depth : ℕ) (P : S → A → Type 0)
    → ((state : S) (a : A) → P state a → Spells (read state) depth (print a) a) → (vs : List A) (state : S) → AllInTurn next P vs state
    → SpellsAll (λ ys. in_turn next read ys state) depth (items_of (map print vs)) vs
spells_in_turn {S} {A} next read print depth P each [] state h = record { again = go; words = tt; deep = omega arith }
  where
    go : (ys : Items) → placeless ys ≡ no_items → in_turn next read ys state ≡ Ok []
    go no_items e = refl
    go (item y ys) e = absurd cc
spells_in_turn {S} {A} next read print depth P each (v ∷ vs) state h =
    let a = each state v h.0 in
    let b = spells_in_turn next read print depth P each vs (next state v) h.1 in
    record { again = go a b; words = (a.words, b.words); deep = omega (arith, a.deep, b.deep) }
  where
    go : Spells (read state) depth (print v) v → SpellsAll (λ ys. in_turn next read ys (next state v)) depth (items_of (map print vs)) vs
        → (ys : Items) → placeless ys ≡ item (bare (print v)) (placeless (items_of (map print vs))) → in_turn next read ys state ≡ Ok (v ∷ vs)
    go a b no_items e = absurd cc
    go a b (item y ys) e =
        ap (λ (r : Read A). before_others r (λ w. in_turn next read ys (next state w))) (a.again y cc)
        ∙ ap (λ (r : Read (List A)). Ok (λ ws. v ∷ ws) <*> r) (b.again ys cc)

-- ---- the steps of a loop

-- values, before those of items that are left
pub left_seen : {S A : Type 0} (next : S → A → S) (read : S → Item → Read A) (vs : List A) (state : S) (xs : List Sexp) (x : Sexp) (i : ℕ) → i < length xs → x ≡ get_or xs i x
    → joined (Ok vs) (in_turn next read (views (drop i xs)) state)
    ≡ joined (Ok vs) (before_others (read state (view x)) (λ a. in_turn next read (views (drop (i + 1) xs)) (next state a)))
left_seen {S} {A} next read vs state xs x i lt is =
    let split : drop i xs ≡ x ∷ drop (i + 1) xs = drop-cons xs i x lt ∙ ap₂ (λ (y : Sexp) ys. y ∷ ys) (sym is) (ap (λ n. drop n xs) (sym (add-one i))) in
    ap (λ (ys : List Sexp). joined (Ok vs) (in_turn next read (views ys) state)) split

behind_one : {A : Type 0} (vs : List A) (a : A) (r : Read (List A)) → joined (Ok (vs ++ a ∷ [])) r ≡ joined (Ok vs) (Ok (λ ws. a ∷ ws) <*> r)
behind_one vs a (Ok ws) = ap Ok (append_assoc vs (a ∷ []) ws)
behind_one vs a (Err p) = refl

-- one more value is read
pub one_more_in_turn : {S A : Type 0} (next : S → A → S) (read : S → Item → Read A) (vs : List A) (state after : S) (xs : List Sexp) (x : Sexp) (i : ℕ) (a : A) (m : Read (List A)) → i < length xs → x ≡ get_or xs i x
    → read state (view x) ≡ Ok a → after ≡ next state a → joined (Ok vs) (in_turn next read (views (drop i xs)) state) ≡ m
    → joined (Ok (vs ++ a ∷ [])) (in_turn next read (views (drop (i + 1) xs)) after) ≡ m
one_more_in_turn {S} {A} next read vs state after xs x i a m lt is reads e h =
    let more = λ (s : S). in_turn next read (views (drop (i + 1) xs)) s in
    ap (λ (s : S). joined (Ok (vs ++ a ∷ [])) (more s)) e ∙ behind_one vs a (more (next state a))
    ∙ sym (ap (λ (r : Read A). joined (Ok vs) (before_others r (λ b. more (next state b)))) reads) ∙ sym (left_seen next read vs state xs x i lt is) ∙ h

-- an item is refused
pub refused_in_turn : {S A : Type 0} (next : S → A → S) (read : S → Item → Read A) (vs : List A) (state : S) (xs : List Sexp) (x : Sexp) (i p : ℕ) (m : Read (List A)) → i < length xs → x ≡ get_or xs i x
    → read state (view x) ≡ Err p → joined (Ok vs) (in_turn next read (views (drop i xs)) state) ≡ m → (let r : Read (List A) = Err p in r ≡ m)
refused_in_turn {S} {A} next read vs state xs x i p m lt is reads h =
    sym (ap (λ (r : Read A). joined (Ok vs) (before_others r (λ b. in_turn next read (views (drop (i + 1) xs)) (next state b)))) reads)
    ∙ sym (left_seen next read vs state xs x i lt is) ∙ h

-- no item is left
pub all_in_turn : {S A : Type 0} (next : S → A → S) (read : S → Item → Read A) (vs : List A) (state : S) (xs : List Sexp) (i : ℕ) (m : Read (List A)) → length xs ≤ i
    → joined (Ok vs) (in_turn next read (views (drop i xs)) state) ≡ m → (let r : Read (List A) = Ok vs in r ≡ m)
all_in_turn {S} {A} next read vs state xs i m past h =
    sym (joined_end (Ok vs)) ∙ sym (ap (λ (ys : List Sexp). joined (Ok vs) (in_turn next read (views ys) state)) (drop_all i xs past)) ∙ h
