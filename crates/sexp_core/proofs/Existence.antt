-- A text with no fault is read as items.
use Rattle.std.proofs.Common.{◌≡◌, ℕ, zero, suc, ◌≤◌, Bool, true, false, cond, List, [], ◌∷◌, ◌++◌, length, map, Option, Some, None, option_map, refl, ap, sym, ◌∙◌, arith}
use Rattle.std.specs.Option.{option_or}
use Rattle.std.proofs.lemmas.List.{append-nil}
use Rattle.sexp_core.specs.Tokens.{Token, opens, closes, word, control, tokens_from}
use Rattle.sexp_core.specs.Items.{a_word, a_list, Items, no_items, item, spelled_all}
use Rattle.sexp_core.specs.Reads.{Reads, shape, first_fault, is_closed_by, first_unclosed, fault_of}
use Rattle.sexp_core.specs.declared.fault.TextFault.{TextFault}
use Rattle.sexp_core.specs.declared.fault.TextFault.TheVariants.{UnclosedAt}
use Rattle.sexp_core.proofs.Stack.{is_closed-items, is_closed-shape}
use Rattle.sexp_core.proofs.Once.{inner}

-- closing brackets, with the items behind each
abbrev ends : List Items → List Token
ends [] = []
ends (xs ∷ xss) = closes 0 ∷ (spelled_all xs ++ ends xss)

-- tokens are items, and then closing brackets, at most level many, with items behind each
record Parts (level : ℕ) (ts : List Token) : Type 0 where
  first : Items
  behind : List Items
  spelled : map shape ts ≡ spelled_all first ++ ends behind
  few : length behind ≤ level

else_none : (b : Bool) (x : TextFault) (y : Option TextFault) → cond b (Some x) y ≡ None → y ≡ None
else_none true x y e = absurd cc
else_none false x y e = e

then_none : (b : Bool) (x : Option ℕ) (p : ℕ) → cond b x (Some p) ≡ None → (b ≡ true) × (x ≡ None)
then_none true x p e = (refl, e)
then_none false x p e = absurd cc

not_closed : (ts : List Token) (xs : Items) → map shape ts ≡ spelled_all xs ++ [] → is_closed_by 0 ts ≡ false
unfolding is_closed_by
not_closed ts xs e = sym (is_closed-shape ts 0) ∙ ap (is_closed_by 0) e ∙ is_closed-items xs 0 []

with_word : (level : ℕ) (ts : List Token) (w : List ℕ) (p : ℕ) → Parts level ts → Parts level (word w p ∷ ts)
with_word level ts w p r = record {
  first = item (a_word w p) r.first;
  behind = r.behind;
  spelled = ap (λ (us : List Token). word w p ∷ us) r.spelled;
  few = r.few;
}

with_close : (level : ℕ) (ts : List Token) (p : ℕ) → Parts level ts → Parts (suc level) (closes p ∷ ts)
with_close level ts p r = record {
  first = no_items;
  behind = r.first ∷ r.behind;
  spelled = ap (λ (us : List Token). closes 0 ∷ us) r.spelled;
  few = omega (arith, r.few);
}

with_open : (level : ℕ) (ts : List Token) (p : ℕ) (xs : Items) (xss : List Items) → map shape ts ≡ spelled_all xs ++ ends xss → length xss ≤ suc level
    → is_closed_by 0 ts ≡ true → Parts level (opens p ∷ ts)
with_open level ts p xs [] e few closed = absurd (let open_still : is_closed_by 0 ts ≡ false = not_closed ts xs e in cc)
with_open level ts p xs (ys ∷ yss) e few closed = record {
  first = item (a_list xs p) ys;
  behind = yss;
  spelled = ap (λ (us : List Token). opens p ∷ us) (e ∙ sym (inner (spelled_all xs) (spelled_all ys) (ends yss)));
  few = omega arith;
}

parts : (depth level : ℕ) (ts : List Token) → first_fault depth level ts ≡ None → first_unclosed ts ≡ None → Parts level ts
unfolding first_fault first_unclosed
parts depth level [] e f = record { first = no_items; behind = []; spelled = refl; few = omega arith }
parts depth level (word w p ∷ ts) e f = with_word level ts w p (parts depth level ts e f)
parts depth level (control p ∷ ts) e f = absurd cc
parts depth zero (closes p ∷ ts) e f = absurd cc
parts depth (suc level) (closes p ∷ ts) e f = with_close level ts p (parts depth level ts e f)
parts depth level (opens p ∷ ts) e f =
    let closed = then_none (is_closed_by 0 ts) (first_unclosed ts) p f in
    let r = parts depth (suc level) ts (else_none _ _ _ e) closed.1 in
    with_open level ts p r.first r.behind r.spelled r.few closed.0

none_first : (x : Option TextFault) (y : Option ℕ) → option_or x (option_map (λ p. UnclosedAt p) y) ≡ None → (x ≡ None) × (y ≡ None)
none_first None None e = (refl, refl)
none_first None (Some p) e = absurd cc
none_first (Some f) y e = absurd cc

whole : (ts : List Token) (xs : Items) (xss : List Items) → map shape ts ≡ spelled_all xs ++ ends xss → length xss ≤ 0 → map shape ts ≡ spelled_all xs
whole ts xs [] e few = simp append-nil at e
whole ts xs (ys ∷ yss) e few = absurd (omega arith)

-- a text with no fault is read as some items
pub is_readable : (depth : ℕ) (text : List ℕ) → fault_of depth text ≡ None → (items : Items) × Reads text items
is_readable depth text e =
    let ts = tokens_from text 0 in
    let none = none_first (first_fault depth 0 ts) (first_unclosed ts) e in
    let r = parts depth 0 ts none.0 none.1 in
    (r.first, whole ts r.first r.behind r.spelled r.few)
