-- The lists that are open while a text is read, and what they have taken of its tokens.
use Rattle.std.proofs.Common.{◌≡◌, ◌≢◌, ℕ, zero, suc, true, false, List, [], ◌∷◌, ◌++◌, length, map, Some, None, slice_get, take, drop, ◌+◌, ◌-◌, ◌≤◌, refl, ap, sym, subst, ◌∙◌, arith, append_assoc, nat_eq, eq-eqb}
use Rattle.std.proofs.lemmas.List.{append-nil, length-append, length-drop, length-take-le, take-append-le, drop-append-le, drop-take, take_all, drop_all}
use lib.Seq.{drop-drop}
use Rattle.std.proofs.lemmas.Bool.{ne_eqb}
use Rattle.sexp_core.specs.Tokens.{Token, opens, closes, word, control}
use Rattle.sexp_core.specs.Items.{a_word, a_list, Items, no_items, item, view, views, spelled, spelled_all}
use Rattle.sexp_core.specs.Reads.{shape, first_fault, is_closed_by, first_unclosed, fault_among}
use Rattle.sexp_core.specs.declared.fault.TextFault.TheVariants.{BadByte, UnclosedAt, ExtraClose, TooDeep}
use Rattle.sexp_core.specs.declared.sexp.Sexp.{Sexp, Word as word_of}
use Rattle.sexp_core.specs.declared.sexp.Word.{Word}
use Rattle.sexp_core.specs.declared.reading.Opened.{Opened}
use Rattle.sexp_core.proofs.Viewing.{view_word}
use Rattle.sexp_core.proofs.Once.{inner}

-- the tokens of the items from a number on, in the lists among them that are open, the outermost first
abbrev pub taken : ℕ → List Opened → List Sexp → List Token
taken from [] xs = spelled_all (views xs)
taken from (f ∷ fs) xs = spelled_all (views (take (f.first - from) xs)) ++ (opens f.place ∷ taken f.first fs (drop (f.first - from) xs))

-- each open list begins among the items behind the beginning of the one around it
abbrev pub AreNested : ℕ → List Opened → List Sexp → Type 0
AreNested from [] xs = Unit {0}
AreNested from (f ∷ fs) xs = (from ≤ f.first) × ((f.first - from ≤ length xs) × AreNested f.first fs (drop (f.first - from) xs))

views-last : (xs : List Sexp) (x : Sexp) → spelled_all (views (xs ++ x ∷ [])) ≡ spelled_all (views xs) ++ spelled (view x)
views-last [] x = append-nil (spelled (view x))
views-last (y ∷ xs) x = rw (views-last xs x) (sym (append_assoc (spelled (view y)) (spelled_all (views xs)) (spelled (view x))))

behind : (a : List Token) (t : Token) (b c : List Token) → a ++ (t ∷ (b ++ c)) ≡ (a ++ (t ∷ b)) ++ c
behind a t b c = sym (append_assoc a (t ∷ b) c)

-- ---- one more item

taken-item : (from : ℕ) (fs : List Opened) (xs : List Sexp) (x : Sexp) → AreNested from fs xs → taken from fs (xs ++ x ∷ []) ≡ taken from fs xs ++ spelled (view x)
taken-item from [] xs x h = views-last xs x
taken-item from (f ∷ fs) xs x h =
    let k = f.first - from in
    rw (take-append-le k xs (x ∷ []) h.1.0, drop-append-le k xs (x ∷ []) h.1.0, taken-item f.first fs (drop k xs) x h.1.1)
    (behind (spelled_all (views (take k xs))) (opens f.place) (taken f.first fs (drop k xs)) (spelled (view x)))

nested-item : (from : ℕ) (fs : List Opened) (xs : List Sexp) (x : Sexp) → AreNested from fs xs → AreNested from fs (xs ++ x ∷ [])
nested-item from [] xs x h = tt
nested-item from (f ∷ fs) xs x h =
    let k = f.first - from in
    (h.0, (omega (arith, h.1.0, length-append xs (x ∷ [])), rw (drop-append-le k xs (x ∷ []) h.1.0) (nested-item f.first fs (drop k xs) x h.1.1)))

-- ---- one more open list

taken-open : (from : ℕ) (fs : List Opened) (f : Opened) (xs : List Sexp) → AreNested from fs xs → f.first ≡ from + length xs
    → taken from (fs ++ f ∷ []) xs ≡ taken from fs xs ++ opens f.place ∷ []
taken-open from [] f xs h e =
    let all : take (f.first - from) xs ≡ xs = take_all _ xs (omega (arith, e)) in
    let none : drop (f.first - from) xs ≡ [] = drop_all _ xs (omega (arith, e)) in
    rw (all, none) refl
taken-open from (g ∷ fs) f xs h e =
    let k = g.first - from in
    let left : f.first ≡ g.first + length (drop k xs) = omega (arith, e, h.0, h.1.0, length-drop k xs) in
    rw (taken-open g.first fs f (drop k xs) h.1.1 left)
    (behind (spelled_all (views (take k xs))) (opens g.place) (taken g.first fs (drop k xs)) (opens f.place ∷ []))

nested-open : (from : ℕ) (fs : List Opened) (f : Opened) (xs : List Sexp) → AreNested from fs xs → f.first ≡ from + length xs → AreNested from (fs ++ f ∷ []) xs
nested-open from [] f xs h e = (omega (arith, e), (omega (arith, e), tt))
nested-open from (g ∷ fs) f xs h e =
    let k = g.first - from in
    (h.0, (h.1.0, nested-open g.first fs f (drop k xs) h.1.1 (omega (arith, e, h.0, h.1.0, length-drop k xs))))

-- ---- one open list less

last-within : (from : ℕ) (fs : List Opened) (f : Opened) (xs : List Sexp) → AreNested from (fs ++ f ∷ []) xs → (from ≤ f.first) × (f.first - from ≤ length xs)
last-within from [] f xs h = (h.0, h.1.0)
last-within from (g ∷ fs) f xs h =
    let k = g.first - from in
    let rest = last-within g.first fs f (drop k xs) h.1.1 in
    (omega (arith, rest.0, h.0), omega (arith, rest.0, rest.1, h.0, h.1.0, length-drop k xs))

take_inside : (k m : ℕ) (xs : List Sexp) → k ≤ m → take k (take m xs) ≡ take k xs
take_inside zero m xs le = refl
take_inside (suc k) zero xs le = absurd (omega (arith, le))
take_inside (suc k) (suc m) [] le = refl
take_inside (suc k) (suc m) (x ∷ xs) le = ap (λ ys. x ∷ ys) (take_inside k m xs (omega (arith, le)))

drop_inside : (k m : ℕ) (xs : List Sexp) → k ≤ m → drop k (take m xs) ≡ take (m - k) (drop k xs)
drop_inside k m xs le =
    let split : m ≡ k + (m - k) = omega (arith, le) in
    ap (λ n. drop k (take n xs)) split ∙ drop-take k (m - k) xs

drop_further : (k m : ℕ) (xs : List Sexp) → k ≤ m → drop (m - k) (drop k xs) ≡ drop m xs
drop_further k m xs le = drop-drop (m - k) k xs ∙ ap (λ n. drop n xs) (omega (arith, le))

taken-close : (from : ℕ) (fs : List Opened) (f : Opened) (xs : List Sexp) → AreNested from (fs ++ f ∷ []) xs
    → taken from (fs ++ f ∷ []) xs ≡ taken from fs (take (f.first - from) xs) ++ (opens f.place ∷ spelled_all (views (drop (f.first - from) xs)))
taken-close from [] f xs h = refl
taken-close from (g ∷ fs) f xs h =
    let k = g.first - from in
    let m = f.first - from in
    let rest = last-within g.first fs f (drop k xs) h.1.1 in
    let le : k ≤ m = omega (arith, rest.0, h.0) in
    let left : f.first - g.first ≡ m - k = omega (arith, rest.0, h.0) in
    rw (take_inside k m xs le, drop_inside k m xs le, taken-close g.first fs f (drop k xs) h.1.1, left, drop_further k m xs le)
    (behind (spelled_all (views (take k xs))) (opens g.place) (taken g.first fs (take (m - k) (drop k xs))) (opens f.place ∷ spelled_all (views (drop m xs))))

nested-close : (from : ℕ) (fs : List Opened) (f : Opened) (xs : List Sexp) → AreNested from (fs ++ f ∷ []) xs → AreNested from fs (take (f.first - from) xs)
nested-close from [] f xs h = tt
nested-close from (g ∷ fs) f xs h =
    let k = g.first - from in
    let m = f.first - from in
    let rest = last-within g.first fs f (drop k xs) h.1.1 in
    let le : k ≤ m = omega (arith, rest.0, h.0) in
    let whole = last-within from (g ∷ fs) f xs h in
    let left : f.first - g.first ≡ m - k = omega (arith, rest.0, h.0) in
    (h.0, (omega (arith, le, length-take-le m xs whole.1), rw (drop_inside k m xs le) (rw left at (nested-close g.first fs f (drop k xs) h.1.1))))

-- ---- where reading stands

-- all: the tokens of the text; rest: those that are left
pub record Stands (depth : ℕ) (all rest : List Token) (lists : List Opened) (items : List Sexp) : Type 0 where
  pub spelled : map shape all ≡ taken 0 lists items ++ map shape rest
  pub nested : AreNested 0 lists items
  pub faults : first_fault depth (length lists) rest ≡ first_fault depth 0 all

pub stands_at : {depth : ℕ} {all rest later : List Token} {lists : List Opened} {items : List Sexp} → rest ≡ later → Stands depth all rest lists items → Stands depth all later lists items
stands_at {depth} {all} {rest} {later} {lists} {items} e s = subst (λ (ts : List Token). Stands depth all ts lists items) e s

pub stands_first : (depth : ℕ) (all : List Token) (lists : List Opened) (items : List Sexp) → lists ≡ [] → items ≡ [] → Stands depth all all lists items
stands_first depth all lists items e f = rw (e, f) (record { spelled = refl; nested = tt; faults = refl })

pub stands_word : {depth : ℕ} {all rest : List Token} {lists : List Opened} {items later : List Sexp} (v : Word) (w : List ℕ) (p : ℕ)
    → v.bytes.now ≡ w → later ≡ items ++ word_of p v ∷ [] → Stands depth all (word w p ∷ rest) lists items → Stands depth all rest lists later
unfolding first_fault
stands_word {depth} {all} {rest} {lists} {items} {later} v w p e f s = record {
  spelled = s.spelled ∙ rw (f, taken-item 0 lists items (word_of p v) s.nested, view_word p v, e) (sym (append_assoc (taken 0 lists items) (word w p ∷ []) (map shape rest)));
  nested = rw f (nested-item 0 lists items (word_of p v) s.nested);
  faults = s.faults;
}

pub stands_open : {depth : ℕ} {all rest : List Token} {lists more : List Opened} {items : List Sexp} (f : Opened) (p : ℕ)
    → f.place ≡ p → f.first ≡ length items → more ≡ lists ++ f ∷ [] → length lists ≢ depth
    → Stands depth all (opens p ∷ rest) lists items → Stands depth all rest more items
unfolding first_fault
stands_open {depth} {all} {rest} {lists} {more} {items} f p e g h ne s =
    let begins : f.first ≡ 0 + length items = omega (arith, g) in
    let begins : f.first ≡ 0 + length items = omega (arith, g) in
    let differ : nat_eq (length lists) depth ≡ false = ne_eqb _ _ ne in
    let deeper : length more ≡ suc (length lists) = omega (arith, ap length h, length-append lists (f ∷ [])) in
    record {
      spelled = s.spelled ∙ rw (h, taken-open 0 lists f items s.nested begins, e) (sym (append_assoc (taken 0 lists items) (opens p ∷ []) (map shape rest)));
      nested = rw h (nested-open 0 lists f items s.nested begins);
      faults = rw deeper (rw differ at s.faults);
    }

pub first_within : {depth : ℕ} {all rest : List Token} {lists : List Opened} {items : List Sexp} (fewer : List Opened) (f : Opened)
    → lists ≡ fewer ++ f ∷ [] → Stands depth all rest lists items → f.first ≤ length items
first_within {depth} {all} {rest} {lists} {items} fewer f e s = omega (arith, (last-within 0 fewer f items (rw e at s.nested)).1)

next_close : (a c r : List Token) (p : ℕ) → (a ++ (opens p ∷ (c ++ closes 0 ∷ []))) ++ r ≡ (a ++ (opens p ∷ c)) ++ (closes 0 ∷ r)
next_close a c r p = simp append_assoc

pub stands_close : {depth : ℕ} {all rest : List Token} {lists fewer : List Opened} {items outer later : List Sexp} (f : Opened) (whole : Sexp) (p : ℕ)
    → lists ≡ fewer ++ f ∷ [] → view whole ≡ a_list (views (drop f.first items)) f.place → outer ≡ take f.first items → later ≡ outer ++ whole ∷ []
    → Stands depth all (closes p ∷ rest) lists items → Stands depth all rest fewer later
unfolding first_fault
stands_close {depth} {all} {rest} {lists} {fewer} {items} {outer} {later} f whole p e g o h s =
    let deeper : length lists ≡ suc (length fewer) = omega (arith, ap length e, length-append fewer (f ∷ [])) in
    let nested : AreNested 0 (fewer ++ f ∷ []) items = rw e at s.nested in
    let whole_first : f.first - 0 ≡ f.first = omega arith in
    let within : AreNested 0 fewer outer = rw o (rw whole_first at (nested-close 0 fewer f items nested)) in
    let split : taken 0 (fewer ++ f ∷ []) items ≡ taken 0 fewer (take f.first items) ++ (opens f.place ∷ spelled_all (views (drop f.first items))) = rw whole_first at (taken-close 0 fewer f items nested) in
    record {
      spelled = s.spelled ∙ rw (e, split, h, taken-item 0 fewer outer whole within, g, o)
          (sym (next_close (taken 0 fewer (take f.first items)) (spelled_all (views (drop f.first items))) (map shape rest) f.place));
      nested = rw h (nested-item 0 fewer outer whole within);
      faults = rw deeper at s.faults;
    }

-- ---- what is closed

pub is_closed-items : (xs : Items) (level : ℕ) (ts : List Token) → is_closed_by level (spelled_all xs ++ ts) ≡ is_closed_by level ts
unfolding is_closed_by
is_closed-items no_items level ts = refl
is_closed-items (item (a_word w p) xs) level ts = is_closed-items xs level ts
is_closed-items (item (a_list a p) xs) level ts =
    ap (is_closed_by (suc level)) (inner (spelled_all a) (spelled_all xs) ts) ∙ is_closed-items a (suc level) (closes 0 ∷ (spelled_all xs ++ ts)) ∙ is_closed-items xs level ts

pub first_unclosed-items : (xs : Items) (ts : List Token) → first_unclosed (spelled_all xs ++ ts) ≡ first_unclosed ts
unfolding first_unclosed is_closed_by
first_unclosed-items no_items ts = refl
first_unclosed-items (item (a_word w p) xs) ts = first_unclosed-items xs ts
first_unclosed-items (item (a_list a p) xs) ts =
    let rest = spelled_all xs ++ ts in
    let closed : is_closed_by 0 (spelled_all a ++ (closes 0 ∷ rest)) ≡ true = is_closed-items a 0 (closes 0 ∷ rest) in
    ap (λ (us : List Token). first_unclosed (opens p ∷ us)) (inner (spelled_all a) (spelled_all xs) ts)
    ∙ rw closed (first_unclosed-items a (closes 0 ∷ rest) ∙ first_unclosed-items xs ts)

-- a list that is open is not closed by what was taken after it
never_closed : (from : ℕ) (fs : List Opened) (xs : List Sexp) (level : ℕ) → is_closed_by level (taken from fs xs) ≡ false
unfolding is_closed_by
never_closed from [] xs level = ap (is_closed_by level) (sym (append-nil (spelled_all (views xs)))) ∙ is_closed-items (views xs) level []
never_closed from (f ∷ fs) xs level =
    is_closed-items (views (take (f.first - from) xs)) level (opens f.place ∷ taken f.first fs (drop (f.first - from) xs))
    ∙ never_closed f.first fs (drop (f.first - from) xs) (suc level)

first_unclosed-taken : (f : Opened) (fs : List Opened) (xs : List Sexp) → first_unclosed (taken 0 (f ∷ fs) xs) ≡ Some f.place
unfolding first_unclosed
first_unclosed-taken f fs xs =
    first_unclosed-items (views (take (f.first - 0) xs)) (opens f.place ∷ taken f.first fs (drop (f.first - 0) xs))
    ∙ rw (never_closed f.first fs (drop (f.first - 0) xs) 0) refl

pub is_closed-shape : (ts : List Token) (level : ℕ) → is_closed_by level (map shape ts) ≡ is_closed_by level ts
unfolding is_closed_by
is_closed-shape [] level = refl
is_closed-shape (word w p ∷ ts) level = is_closed-shape ts level
is_closed-shape (control p ∷ ts) level = is_closed-shape ts level
is_closed-shape (opens p ∷ ts) level = is_closed-shape ts (suc level)
is_closed-shape (closes p ∷ ts) zero = refl
is_closed-shape (closes p ∷ ts) (suc level) = is_closed-shape ts level

first_unclosed-shape : (ts : List Token) → first_unclosed (map shape ts) ≡ first_unclosed ts
unfolding first_unclosed
first_unclosed-shape [] = refl
first_unclosed-shape (word w p ∷ ts) = first_unclosed-shape ts
first_unclosed-shape (control p ∷ ts) = first_unclosed-shape ts
first_unclosed-shape (closes p ∷ ts) = first_unclosed-shape ts
first_unclosed-shape (opens p ∷ ts) = rw (is_closed-shape ts 0, first_unclosed-shape ts) refl

-- ---- how reading ends

pub is_read : {depth : ℕ} {all rest : List Token} {lists : List Opened} {items : List Sexp} → rest ≡ [] → lists ≡ [] → Stands depth all rest lists items
    → map shape all ≡ spelled_all (views items)
is_read {depth} {all} {rest} {lists} {items} e f s = rw (e, f) at s.spelled ∙ append-nil (spelled_all (views items))

pub no_fault : {depth : ℕ} {all rest : List Token} {lists : List Opened} {items : List Sexp} → rest ≡ [] → lists ≡ [] → Stands depth all rest lists items
    → fault_among depth all ≡ None
unfolding first_fault first_unclosed
no_fault {depth} {all} {rest} {lists} {items} e f s =
    let first : first_fault depth 0 all ≡ None = sym s.faults ∙ rw e refl in
    let whole : map shape all ≡ spelled_all (views items) ++ [] = is_read e f s ∙ sym (append-nil (spelled_all (views items))) in
    let second : first_unclosed all ≡ None = sym (first_unclosed-shape all) ∙ ap first_unclosed whole ∙ first_unclosed-items (views items) [] in
    rw (first, second) refl

pub unclosed_fault : {depth : ℕ} {all rest : List Token} {lists : List Opened} {items : List Sexp} (f : Opened) (fs : List Opened) → rest ≡ [] → lists ≡ f ∷ fs → Stands depth all rest lists items
    → fault_among depth all ≡ Some (UnclosedAt f.place)
unfolding first_fault
unclosed_fault {depth} {all} {rest} {lists} {items} f fs e g s =
    let first : first_fault depth 0 all ≡ None = sym s.faults ∙ rw e refl in
    let whole : map shape all ≡ taken 0 (f ∷ fs) items = rw (e, g) at s.spelled ∙ append-nil _ in
    let second : first_unclosed all ≡ Some f.place = sym (first_unclosed-shape all) ∙ ap first_unclosed whole ∙ first_unclosed-taken f fs items in
    rw (first, second) refl

pub control_fault : {depth : ℕ} {all rest : List Token} {lists : List Opened} {items : List Sexp} (p : ℕ) → Stands depth all (control p ∷ rest) lists items
    → fault_among depth all ≡ Some (BadByte p)
unfolding first_fault
control_fault {depth} {all} {rest} {lists} {items} p s = rw (sym s.faults) refl

pub depth_fault : {depth : ℕ} {all rest : List Token} {lists : List Opened} {items : List Sexp} (p : ℕ) → length lists ≡ depth → Stands depth all (opens p ∷ rest) lists items
    → fault_among depth all ≡ Some (TooDeep p)
unfolding first_fault
depth_fault {depth} {all} {rest} {lists} {items} p e s =
    let same : nat_eq (length lists) depth ≡ true = eq-eqb _ _ e in
    rw (sym (rw same at s.faults)) refl

pub close_fault : {depth : ℕ} {all rest : List Token} {lists : List Opened} {items : List Sexp} (p : ℕ) → lists ≡ [] → Stands depth all (closes p ∷ rest) lists items
    → fault_among depth all ≡ Some (ExtraClose p)
unfolding first_fault
close_fault {depth} {all} {rest} {lists} {items} p e s = rw (sym (rw e at s.faults)) refl

pub first_none : (fs : List Opened) → None ≡ slice_get fs 0 → fs ≡ []
first_none [] e = refl
first_none (f ∷ fs) e = absurd cc

pub first_some : (fs : List Opened) (f : Opened) → Some f ≡ slice_get fs 0 → fs ≡ f ∷ drop 1 fs
first_some [] f e = absurd cc
first_some (g ∷ fs) f e = let same : f ≡ g = cc in rw same refl
