-- Lines of a list that are passed one after the other.
use Rattle.std.proofs.Common.{◌≡◌, ◌≢◌, ◌==◌, ◌≤◌, ◌<◌, ◌+◌, ◌⊎◌, inl, inr, ℕ, List, [], ◌∷◌, ◌++◌, length, false, Option, Some, None, Err, refl, sym, ap, subst, ◌∙◌, append_assoc, length-append, map, arith}
use Rattle.std.proofs.lemmas.List.{append-nil, length-map}
use Rattle.std.proofs.lemmas.List.Elements.{All-head, All-tail}
use denote.Ref.{Bor}
use Rattle.trsbatch.specs.ListText.{lines_of, on_first, bare, named, names_on, IsGoodLine, AreGood, ArePassed, most_names, SaysNames, IsListRefused, IsRefusedBehind}
use Rattle.trsbatch.specs.Cutting.{HasNoFeed, IsCut}
use Rattle.trsbatch.specs.ListAnswers.{TakesLine, AnswersList}
use Rattle.trsbatch.specs.declared.list.ListFault.{ListFault}
use Rattle.trsbatch.specs.declared.list.ListFault.TheVariants as fault

-- ---- the first line of a text

no_feed : (b : ℕ) → b ≢ 10 → (b == 10) ≡ false
no_feed b ne = grind (arith, ne)

last_line : (line : List ℕ) → HasNoFeed line → lines_of line ≡ line ∷ []
last_line [] h = refl
last_line (b ∷ bs) h = rw (no_feed b (All-head (λ x. x ≢ 10) b bs h)) (ap (on_first b) (last_line bs (All-tail (λ x. x ≢ 10) b bs h)))

line_before : (line behind : List ℕ) → HasNoFeed line → lines_of (line ++ 10 ∷ behind) ≡ line ∷ lines_of behind
line_before [] behind h = refl
line_before (b ∷ bs) behind h =
    rw (no_feed b (All-head (λ x. x ≢ 10) b bs h)) (ap (on_first b) (line_before bs behind (All-tail (λ x. x ≢ 10) b bs h)))

-- the lines that are left
abbrev pub lines_left : Option (Bor (List ℕ)) → List (List ℕ)
lines_left None = []
lines_left (Some rest) = lines_of rest.now

cut_lines : (text line : List ℕ) (behind : Option (Bor (List ℕ))) → IsCut text line behind → lines_of text ≡ line ∷ lines_left behind
cut_lines text line None (is, h) = ap lines_of is ∙ last_line line h
cut_lines text line (Some behind) (is, h) = ap lines_of is ∙ line_before line behind.now h

-- how many lines there can be in what is left
abbrev pub most_left : Option (Bor (List ℕ)) → ℕ
most_left None = 0
most_left (Some rest) = length rest.now + 1

cut_size : (text line : List ℕ) (behind : Option (Bor (List ℕ))) → IsCut text line behind → most_left behind + 1 ≤ length text + 1
cut_size text line None (is, h) = omega arith
cut_size text line (Some behind) (is, h) =
    let size : length text ≡ length line + length (10 ∷ behind.now) = ap length is ∙ length-append line (10 ∷ behind.now) in
    omega (arith, size)

-- ---- lines in a row

one_behind : (front : List (List ℕ)) (line : List ℕ) (rest : List (List ℕ)) → front ++ line ∷ rest ≡ (front ++ line ∷ []) ++ rest
one_behind front line rest = sym (append_assoc front (line ∷ []) rest)

pub names_behind : (front : List (List ℕ)) (line : List ℕ) → names_on (front ++ line ∷ []) ≡ names_on front ++ named (bare line)
names_behind [] line = append-nil (named (bare line))
names_behind (x ∷ front) line =
    ap (λ r. named (bare x) ++ r) (names_behind front line) ∙ sym (append_assoc (named (bare x)) (names_on front) (named (bare line)))

good_behind : (front : List (List ℕ)) (line : List ℕ) → AreGood front → IsGoodLine line → AreGood (front ++ line ∷ [])
good_behind [] line h g = (g, tt)
good_behind (x ∷ front) line (h, hs) g = (h, good_behind front line hs g)

-- ---- what was read so far

pub record AreRead (text : List ℕ) (names : List (List ℕ)) (left : Option (Bor (List ℕ))) (number : ℕ) : Type 0 where
  pub front : List (List ℕ)
  pub lines : lines_of text ≡ front ++ lines_left left
  pub number_is : number ≡ length front
  pub passed : ArePassed front
  pub said : names ≡ names_on front
  pub size : number + most_left left ≤ length text + 1

pub none_read : (text : Bor (List ℕ)) → AreRead text.now [] (Some text) 0
none_read text = record {
  front = [];
  lines = refl;
  number_is = refl;
  passed = record { good = tt; few = omega arith };
  said = refl;
  size = omega arith;
}

module _ (text : List ℕ) (names : List (List ℕ)) (rest : Bor (List ℕ)) (number : ℕ) (so_far : AreRead text names (Some rest) number)
    (line : List ℕ) (behind : Option (Bor (List ℕ))) (cut : IsCut rest.now line behind) where
  all_lines : lines_of text ≡ so_far.front ++ line ∷ lines_left behind
  all_lines = so_far.lines ∙ ap (λ r. so_far.front ++ r) (cut_lines rest.now line behind cut)

  pub one_more : (now : List (List ℕ)) → IsGoodLine line → now ≡ names ++ named (bare line) → length now ≤ most_names
      → AreRead text now behind (number + 1)
  one_more now good is few =
      let said : now ≡ names_on (so_far.front ++ line ∷ []) =
      is ∙ ap (λ z. z ++ named (bare line)) so_far.said ∙ sym (names_behind so_far.front line) in
      record {
        front = so_far.front ++ line ∷ [];
        lines = all_lines ∙ one_behind so_far.front line (lines_left behind);
        number_is = ap (λ n. n + 1) so_far.number_is ∙ sym (length-append so_far.front (line ∷ []));
        passed = record {
          good = good_behind so_far.front line so_far.passed.good good;
          few = subst (λ z. length z ≤ most_names) said few;
        };
        said = said;
        size = omega (arith, so_far.size, cut_size rest.now line behind cut);
      }

  pub few_names : length names ≤ most_names
  few_names = subst (λ z. length z ≤ most_names) (sym so_far.said) so_far.passed.few

  pub refused_here : (n : ℕ) → n ≡ number → (IsGoodLine line → ⊥) ⊎ (most_names < length (names ++ named (bare line))) → IsListRefused text n
  refused_here n is why = record {
    front = so_far.front;
    line = line;
    rest = lines_left behind;
    lines = all_lines;
    number_is = is ∙ so_far.number_is;
    passed = so_far.passed;
    refused = cause why;
  }
    where
      cause : (IsGoodLine line → ⊥) ⊎ (most_names < length (names ++ named (bare line))) → IsRefusedBehind so_far.front line
      cause (inl bad) = inl bad
      cause (inr many) = inr (subst (λ z. most_names < length z) (ap (λ z. z ++ named (bare line)) so_far.said ∙ sym (names_behind so_far.front line)) many)

  pub refused_list : (f : ListFault) (now : List (List ℕ)) → TakesLine {X = Unit {0}} (Err f) line number names now → AnswersList (Err f) text
  refused_list (fault.Line n) now (is, why) = refused_here n is why
  refused_list fault.OutOfMemory now h = tt

pub all_read : (text : List ℕ) (names : List (List ℕ)) (number : ℕ) → AreRead text names None number → SaysNames text names
all_read text names number so_far =
    let all : lines_of text ≡ so_far.front = so_far.lines ∙ append-nil so_far.front in
    record {
      passed = subst ArePassed (sym all) so_far.passed;
      said = so_far.said ∙ ap names_on (sym all);
    }

-- the most names, counted as they lie in memory
pub few_in_memory : (names : List (Bor (List ℕ))) → length (map (λ n. n.now) names) ≤ most_names → length names ≤ most_names
few_in_memory names h = subst (λ n. n ≤ most_names) (length-map names (λ n. n.now)) h
