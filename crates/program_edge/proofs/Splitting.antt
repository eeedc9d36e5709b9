-- A text is split behind its line feeds.
use Rattle.std.proofs.Common.{◌≡◌, ◌≢◌, ◌<◌, ◌+◌, ◌==◌, ℕ, zero, suc, Bool, false, List, [], ◌∷◌, ◌++◌, length, take, drop, get_or, refl, sym, ap, subst, ◌∙◌, arith, take-append-drop, append-nil}
use Rattle.std.proofs.lemmas.Bool.{ne_eqb}
use Rattle.program_edge.specs.LinePuts.{before_first, lines_of, IsFirstLine}

-- no byte is a line feed
abbrev pub HasNoFeed : List ℕ → Type 0
HasNoFeed [] = Unit {0}
HasNoFeed (b ∷ bs) = (b ≢ 10) × HasNoFeed bs

no_feed_more : (text : List ℕ) (i : ℕ) → i < length text → HasNoFeed (take i text) → get_or text i 0 ≢ 10 → HasNoFeed (take (suc i) text)
no_feed_more [] i within none other = absurd (omega arith)
no_feed_more (b ∷ bs) zero within none other = (other, tt)
no_feed_more (b ∷ bs) (suc i) within (first, none) other = (first, no_feed_more bs i (omega arith) none other)

at_feed : (b : ℕ) (bs : List ℕ) → b ≡ 10 → lines_of (b ∷ bs) ≡ (b ∷ []) ∷ lines_of bs
at_feed b bs e = subst (λ x. lines_of (x ∷ bs) ≡ (x ∷ []) ∷ lines_of bs) (sym e) refl

at_other : (b : ℕ) (bs : List ℕ) → b ≢ 10 → lines_of (b ∷ bs) ≡ before_first b (lines_of bs)
at_other b bs other = rw (ne_eqb b 10 other) refl

first_at : (text : List ℕ) (i : ℕ) → i < length text → HasNoFeed (take i text) → get_or text i 0 ≡ 10
    → lines_of text ≡ take (suc i) text ∷ lines_of (drop (suc i) text)
first_at [] i within none is = absurd (omega arith)
first_at (b ∷ bs) zero within none is = at_feed b bs is
first_at (b ∷ bs) (suc i) within (first, none) is = at_other b bs first ∙ ap (before_first b) (first_at bs i (omega arith) none is)

some_taken : (xs : List ℕ) (k : ℕ) → k < length xs → 0 < length (take (suc k) xs)
some_taken [] k h = absurd (omega arith)
some_taken (x ∷ xs) k h = omega arith

-- up to the first line feed
pub first_line : (text : List ℕ) (i : ℕ) → i < length text → HasNoFeed (take i text) → get_or text i 0 ≡ 10
    → (line behind : List ℕ) → line ≡ take (i + 1) text → behind ≡ drop (i + 1) text → IsFirstLine text line behind
first_line text i within none is line behind front back =
    let one : i + 1 ≡ suc i = omega arith in
    let begins : take (suc i) text ≡ line = ap (λ n. take n text) (sym one) ∙ sym front in
    let goes_on : drop (suc i) text ≡ behind = ap (λ n. drop n text) (sym one) ∙ sym back in
    record {
      whole = sym (take-append-drop (suc i) text) ∙ ap (λ l. l ++ drop (suc i) text) begins ∙ ap (λ l. line ++ l) goes_on;
      lines = first_at text i within none is ∙ ap (λ l. l ∷ lines_of (drop (suc i) text)) begins ∙ ap (λ l. line ∷ lines_of l) goes_on;
      some = subst (λ (l : List ℕ). 0 < length l) begins (some_taken text i within);
    }

-- one byte more that is no line feed
pub one_more : (text : List ℕ) (i : ℕ) → i < length text → HasNoFeed (take i text) → get_or text i 0 ≢ 10 → HasNoFeed (take (i + 1) text)
one_more text i within none other = let one : suc i ≡ i + 1 = omega arith in subst (λ n. HasNoFeed (take n text)) one (no_feed_more text i within none other)

pub not_empty : (text : List ℕ) (empty : Bool) → empty ≡ (length text == 0) → empty ≡ false → 0 < length text
not_empty [] empty e f = absurd cc
not_empty (x ∷ xs) empty e f = omega arith

last_only : (text : List ℕ) → 0 < length text → HasNoFeed text → lines_of text ≡ text ∷ []
last_only [] some none = absurd (omega arith)
last_only (b ∷ []) some (first, none) = at_other b [] first
last_only (b ∷ c ∷ bs) some (first, none) = at_other b (c ∷ bs) first ∙ ap (before_first b) (last_only (c ∷ bs) (omega arith) none)

-- a text with no line feed is one line
pub last_line : (text : List ℕ) → 0 < length text → HasNoFeed text → IsFirstLine text text []
last_line text some none = record { whole = sym (append-nil text); lines = last_only text some none; some = some }
