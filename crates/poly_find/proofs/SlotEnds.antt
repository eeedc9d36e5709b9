-- The last slot of some symbols, where each symbol has a slot for each of its parts.
use Rattle.std.specs.Prelude.{◌≡◌, ◌<◌, ◌≤◌, ℕ, ◌+◌, Bool, true, false, cond, List, [], ◌∷◌, ◌++◌, length, map, get_or}
use Rattle.std.proofs.Common.{zero, suc, refl, sym, ap, arith, ◌∙◌}
use Rattle.std.proofs.lemmas.List.{map-append}
use Rattle.assign_search.specs.Rest.{reach_below}
use Rattle.order_search.specs.Ends.{end_among}
use Rattle.order_search.specs.OrderSpace.{parts_from, slots_of}
use Rattle.order_search.proofs.LastPlaces.{end_within}
use Rattle.poly_find.specs.declared.spans.Span.{Span}
use Rattle.poly_find.specs.PolyPlaces.{parts_by, owner_of, starts}
use Rattle.poly_find.specs.Spans.{AreSpans, span_of}
use Rattle.poly_find.proofs.Starts.{starts_first, next_start}

-- ---- one number more in front

-- where the first passes or not, and the others end there
abbrev pub front : Bool → ℕ → ℕ
front b zero = cond b 1 0
front b (suc e) = suc (suc e)

front_behind : (b c : Bool) (n r e : ℕ) → r ≡ front b e → cond c (suc (suc n)) r ≡ front b (cond c (suc n) e)
front_behind b true n r e is = refl
front_behind b false n r e is = is

front_below : (u : ℕ → Bool) (n : ℕ) → reach_below u (suc n) ≡ front (u 0) (reach_below (λ i. u (suc i)) n)
front_below u zero = refl
front_below u (suc n) = front_behind (u 0) (u (suc n)) n (reach_below u (suc n)) (reach_below (λ i. u (suc i)) n) (front_below u n)

end_first : (test : ℕ → Bool) (x : ℕ) (xs : List ℕ) → end_among test (x ∷ xs) ≡ front (test x) (end_among test xs)
end_first test x xs = front_below (λ i. test (get_or (x ∷ xs) i 0)) (length xs)

-- ---- the slots of one symbol in front

abbrev pub in_front : Bool → ℕ → ℕ → ℕ
in_front b n zero = cond b n 0
in_front b n (suc e) = n + suc e

none_in_front : (b : Bool) (e : ℕ) → in_front b 0 e ≡ e
none_in_front true zero = refl
none_in_front false zero = refl
none_in_front b (suc e) = omega arith

one_more_in_front : (b : Bool) (n e : ℕ) → front b (in_front b n e) ≡ in_front b (suc n) e
one_more_in_front true zero zero = refl
one_more_in_front true (suc n) zero = refl
one_more_in_front false n zero = refl
one_more_in_front b n (suc e) =
    let some : n + suc e ≡ suc (n + e) = omega arith in
    let more : suc (suc (n + e)) ≡ suc n + suc e = omega arith in
    ap (front b) some ∙ more

parts_end : (test : ℕ → Bool) (f from n : ℕ) (ys : List ℕ) → end_among test (map owner_of (parts_from f from n) ++ ys) ≡ in_front (test f) n (end_among test ys)
parts_end test f from zero ys = sym (none_in_front (test f) (end_among test ys))
parts_end test f from (suc n) ys =
    end_first test f (map owner_of (parts_from f (suc from) n) ++ ys)
    ∙ (ap (front (test f)) (parts_end test f (suc from) n ys) ∙ one_more_in_front (test f) n (end_among test ys))

some_in_front : (b : Bool) (n x : ℕ) → 0 < x → in_front b n x ≡ n + x
some_in_front b n zero h = absurd (omega (arith, h))
some_in_front b n (suc x) h = refl

module _ (parts : ℕ → ℕ) (some : (f : ℕ) → 0 < parts f) where
  first_and_rest : (b : Bool) (f : ℕ) (fs : List ℕ) (e : ℕ) → e ≤ length fs → in_front b (parts f) (starts parts fs e) ≡ starts parts (f ∷ fs) (front b e)
  first_and_rest true f fs zero h = ap (in_front true (parts f)) (starts_first parts fs) ∙ (let none = starts_first parts fs in omega (arith, none))
  first_and_rest false f fs zero h = ap (in_front false (parts f)) (starts_first parts fs)
  first_and_rest b f [] (suc e) h = absurd (omega (arith, h))
  first_and_rest b f (g ∷ gs) (suc e) h = some_in_front b (parts f) (parts g + starts parts gs e) (omega (arith, some g))

  -- one more than the last slot of the symbols that pass is where the slots of the next symbol begin
  pub end_of_owners : (test : ℕ → Bool) (symbols : List ℕ) → end_among test (map owner_of (slots_of parts symbols)) ≡ starts parts symbols (end_among test symbols)
  end_of_owners test [] = refl
  end_of_owners test (f ∷ fs) =
      ap (end_among test) (map-append owner_of (parts_from f 0 (parts f)) (slots_of parts fs))
      ∙ (parts_end test f 0 (parts f) (map owner_of (slots_of parts fs))
      ∙ (ap (in_front (test f) (parts f)) (end_of_owners test fs)
      ∙ (first_and_rest (test f) f fs (end_among test fs) (end_within test fs) ∙ ap (starts parts (f ∷ fs)) (sym (end_first test f fs)))))

-- the span of the last of the first symbols ends where that of the next one begins
pub last_span : (arities symbols : List ℕ) (spans : List Span) (count i f : ℕ) (last : Span) → AreSpans arities symbols spans → count ≤ length symbols → count ≡ i + 1
    → f ≡ get_or symbols i 0 → last ≡ span_of spans f → last.start + last.parts ≡ starts (parts_by arities) symbols count
last_span arities symbols spans count i f last are within next is spanned =
    let each = are.each i (omega (arith, within, next)) in
    let same = spanned ∙ (ap (span_of spans) is ∙ each) in
    next_start (parts_by arities) symbols i last.start last.parts (omega (arith, within, next)) (ap (λ (s : Span). s.parts) same) (ap (λ (s : Span). s.start) same)
    ∙ ap (starts (parts_by arities) symbols) (sym next)
