-- The two greatest ranks tell which ranks are below.
use Rattle.std.proofs.Common.{◌≡◌, ℕ, ◌+◌, ◌<◌, ◌≤◌, max, nat_lt, ◌==◌, ◌&&◌, ◌||◌, eqb, ltb, Bool, true, false, cond, List, [], ◌∷◌, length, get_or, drop, Option, Some, None, Ok, Err, refl, sym, ap, ap₂, ◌∙◌, drop-cons, add-one, arith}
use Rattle.std.specs.List.{list_all}
use Rattle.std.proofs.lemmas.List.{drop_all}
use Rattle.std.proofs.lemmas.Bool.{ltb-true, ltb-false, lt-ltb, le-ltb}
use Rattle.std.proofs.lemmas.Bool.Decides.{nat_tests}
use Rattle.sexp_core.specs.declared.sexp.Sexp.{Sexp}
use Rattle.sexp_core.specs.Items.{Items, view, views}
use Rattle.kbo_order.specs.declared.entries.KboEntry.{KboEntry}
use Rattle.names_text.specs.Named.{NamedSystem}
use Rattle.text_reading.specs.Reading.{Read, place_of}
use Rattle.pair_text.specs.KnuthEntries.{stated_entry, with_stated, stated, is_below, is_low, first_low}
use Rattle.pair_text.specs.declared.top_ranks.TopRanks.{TopRanks}
use Rattle.pair_text.specs.TopRanks.{is_less, are_below, IsAtMost, AreOrdered, AreTopRanks, or_greater, more_ranks, with_rank, with_read}

-- ---- one more rank

alone : (g k f rank : ℕ) → cond (eqb g f) true (ltb k rank) ≡ (eqb g f || ltb k rank)
alone g k f rank = go (eqb g f)
  where
    go : (b : Bool) → cond b true (ltb k rank) ≡ (b || ltb k rank)
    go true = refl
    go false = refl

more_alone : (t r g k f rank : ℕ) → are_below (Some (more_ranks (record { symbol = t; rank = r; other = None }) g k)) f rank
    ≡ (cond (eqb t f) true (ltb r rank) && (eqb g f || ltb k rank))
more_alone t r g k f rank = grind (arith, nat_tests)

more_both : (t r o g k f rank : ℕ) → o ≤ r → are_below (Some (more_ranks (record { symbol = t; rank = r; other = Some o }) g k)) f rank
    ≡ (cond (eqb t f) (ltb o rank) (ltb r rank) && (eqb g f || ltb k rank))
more_both t r o g k f rank le = grind (arith, nat_tests)

-- the greatest ranks tell of one more entry
module _ (t r g k f rank : ℕ) where
  more_other : (o : Option ℕ) → IsAtMost o r → are_below (Some (more_ranks (record { symbol = t; rank = r; other = o }) g k)) f rank
      ≡ (cond (eqb t f) (is_less o rank) (ltb r rank) && (eqb g f || ltb k rank))
  more_other None h = more_alone t r g k f rank
  more_other (Some o) h = more_both t r o g k f rank h

more_below : (top : Option TopRanks) (e : KboEntry) (f rank : ℕ) → AreOrdered top → are_below (with_rank top e.symbol e.rank) f rank ≡ (are_below top f rank && is_below f rank e)
more_below None e f rank h = alone e.symbol e.rank f rank
more_below (Some t) e f rank h = more_other t.symbol t.rank e.symbol e.rank f rank t.other h

at_most_greater : (o : Option ℕ) (r k : ℕ) → IsAtMost o r → IsAtMost o (max r k)
at_most_greater None r k h = tt
at_most_greater (Some o) r k h = omega arith

or_greater_at_most : (o : Option ℕ) (r k : ℕ) → IsAtMost o r → k ≤ r → IsAtMost (or_greater o k) r
or_greater_at_most None r k h le = le
or_greater_at_most (Some o) r k h le = omega arith

ordered_by : (t r g k : ℕ) (o : Option ℕ) (same less : Bool) → IsAtMost o r → ltb r k ≡ less
    → AreOrdered (Some (cond same (record { symbol = t; rank = max r k; other = o })
    (cond less (record { symbol = g; rank = k; other = Some r }) (record { symbol = t; rank = r; other = or_greater o k }))))
ordered_by t r g k o true less h e = at_most_greater o r k h
ordered_by t r g k o false true h e = let lt : r < k = ltb-true r k e in omega arith
ordered_by t r g k o false false h e = or_greater_at_most o r k h (ltb-false r k e)

ordered_more : (top : Option TopRanks) (g k : ℕ) → AreOrdered top → AreOrdered (with_rank top g k)
ordered_more None g k h = tt
ordered_more (Some t) g k h = ordered_by t.symbol t.rank g k t.other (eqb t.symbol g) (ltb t.rank k) h refl

-- ---- the ranks of the entries of a list, by those that are left

pub record IsTelling (named : NamedSystem) (top : Option TopRanks) (rest all : Items) : Type 0 where
  pub ordered : AreOrdered top
  pub tell : (f rank : ℕ) → (are_below top f rank && list_all (is_below f rank) (stated named rest)) ≡ list_all (is_below f rank) (stated named all)

and_assoc : (a b c : Bool) → ((a && b) && c) ≡ (a && (b && c))
and_assoc true b c = refl
and_assoc false b c = refl

and_true : (a : Bool) → (a && true) ≡ a
and_true true = refl
and_true false = refl

tell_read : (named : NamedSystem) (top : Option TopRanks) (r : Read KboEntry) (rest all : Items) → AreOrdered top
    → ((f rank : ℕ) → (are_below top f rank && list_all (is_below f rank) (with_stated r (stated named rest))) ≡ list_all (is_below f rank) (stated named all))
    → IsTelling named (with_read top r) rest all
tell_read named top (Ok e) rest all o tell = record {
  ordered = ordered_more top e.symbol e.rank o;
  tell = λ f rank.
      let others = list_all (is_below f rank) (stated named rest) in
      ap (λ (b : Bool). b && others) (more_below top e f rank o) ∙ and_assoc (are_below top f rank) (is_below f rank e) others ∙ tell f rank;
}
tell_read named top (Err p) rest all o tell = record { ordered = o; tell = tell }

-- one more item is read
pub tell_more : (named : NamedSystem) (top : Option TopRanks) (xs : List Sexp) (x : Sexp) (i : ℕ) (all : Items) (r : Read KboEntry) → i < length xs → x ≡ get_or xs i x → r ≡ stated_entry named (view x)
    → IsTelling named top (views (drop i xs)) all → IsTelling named (with_read top r) (views (drop (i + 1) xs)) all
tell_more named top xs x i all r lt is reads h =
    let split : drop i xs ≡ x ∷ drop (i + 1) xs = drop-cons xs i x lt ∙ ap₂ (λ (y : Sexp) ys. y ∷ ys) (sym is) (ap (λ n. drop n xs) (sym (add-one i))) in
    let rest = views (drop (i + 1) xs) in
    tell_read named top r rest all h.ordered (λ f rank.
    ap (λ (q : Read KboEntry). are_below top f rank && list_all (is_below f rank) (with_stated q (stated named rest))) reads
    ∙ sym (ap (λ (ys : List Sexp). are_below top f rank && list_all (is_below f rank) (stated named (views ys))) split) ∙ h.tell f rank)

-- no item is left
pub tell_all : (named : NamedSystem) (top : Option TopRanks) (xs : List Sexp) (i : ℕ) (all : Items) → length xs ≤ i → IsTelling named top (views (drop i xs)) all → AreTopRanks top (stated named all)
tell_all named top xs i all past h = record {
  ordered = h.ordered;
  tell = λ f rank.
      sym (h.tell f rank) ∙ ap (λ (ys : List Sexp). are_below top f rank && list_all (is_below f rank) (stated named (views ys))) (drop_all i xs past) ∙ and_true (are_below top f rank);
}

-- ---- the first that is low

module _ (named : NamedSystem) (es : List KboEntry) (xs : List Sexp) (x : Sexp) (i : ℕ) (lt : i < length xs) (is : x ≡ get_or xs i x) where
  low_split : first_low named es (views (drop i xs)) ≡ cond (is_low es (stated_entry named (view x))) (Some (place_of (view x))) (first_low named es (views (drop (i + 1) xs)))
  low_split =
      let split : drop i xs ≡ x ∷ drop (i + 1) xs = drop-cons xs i x lt ∙ ap₂ (λ (y : Sexp) ys. y ∷ ys) (sym is) (ap (λ n. drop n xs) (sym (add-one i))) in
      ap (λ (ys : List Sexp). first_low named es (views ys)) split

  pub low_next : is_low es (stated_entry named (view x)) ≡ false → first_low named es (views (drop i xs)) ≡ first_low named es (views (drop (i + 1) xs))
  low_next e = low_split ∙ ap (λ (b : Bool). cond b (Some (place_of (view x))) (first_low named es (views (drop (i + 1) xs)))) e

  pub low_here : is_low es (stated_entry named (view x)) ≡ true → first_low named es (views (drop i xs)) ≡ Some (place_of (view x))
  low_here e = low_split ∙ ap (λ (b : Bool). cond b (Some (place_of (view x))) (first_low named es (views (drop (i + 1) xs)))) e
