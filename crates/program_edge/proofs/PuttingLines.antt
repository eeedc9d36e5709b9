-- Texts that are put line by line.
use Rattle.std.proofs.Common.{◌≡◌, ◌<◌, ℕ, suc, List, [], ◌∷◌, ◌++◌, length, take, Option, Some, None, Result, Ok, Err, IsErr, refl, sym, ap, subst, ◌∙◌, arith, append_assoc, append-nil}
use Rattle.std.specs.List.{concat}
use Rattle.std.proofs.KnownBytes.{Appends-trans, Appends-nil}
use Rattle.io_edge.specs.Edge.{Rose, next_count}
use Rattle.io_edge.specs.Sink.{SinkMeaning, AppendsTo, AppendsPrefix, PiecesGrow, pieces_in, TakesPieces, IsOnePut, NoSinkCountFell}
use Rattle.program_edge.specs.Puts.{Puts, PutsLines}
use Rattle.program_edge.specs.LinePuts.{lines_of, IsFirstLine, after_calls, ArePut, IsFrontPut}
use Rattle.program_edge.proofs.Putting.{puts_first, puts_then}

-- ---- pieces

pieces_none : (a : Option (List (List ℕ))) → PiecesGrow a [] a
pieces_none None = tt
pieces_none (Some ps) = sym (append-nil ps)

pieces_trans : (a b c : Option (List (List ℕ))) (ps qs : List (List ℕ)) → PiecesGrow a ps b → PiecesGrow b qs c → PiecesGrow a (ps ++ qs) c
pieces_trans None b c ps qs g h = tt
pieces_trans (Some xs) None c ps qs g h = absurd g
pieces_trans (Some xs) (Some ys) None ps qs g h = absurd h
pieces_trans (Some xs) (Some ys) (Some zs) ps qs g h = h ∙ ap (λ l. l ++ qs) g ∙ append_assoc xs ps qs

one_piece : (line : List ℕ) → 0 < length line → pieces_in line ≡ line ∷ []
one_piece [] some = absurd (omega arith)
one_piece (b ∷ bs) some = refl

concat_more : (front : List (List ℕ)) (line : List ℕ) → concat (front ++ line ∷ []) ≡ concat front ++ line
concat_more [] line = append-nil line
concat_more (x ∷ xs) line = ap (λ l. x ++ l) (concat_more xs line) ∙ sym (append_assoc x (concat xs) line)

count_more : (front : List (List ℕ)) (line : List ℕ) → length (front ++ line ∷ []) ≡ suc (length front)
count_more [] line = refl
count_more (x ∷ xs) line = ap suc (count_more xs line)

-- the lines before the rest were put
pub record SoFar (text : List ℕ) (before now : SinkMeaning) (rest : List ℕ) : Type 0 where
  pub front : List (List ℕ)
  pub split : lines_of text ≡ front ++ lines_of rest
  pub whole : text ≡ concat front ++ rest
  pub appended : AppendsTo before (concat front) now
  pub taken : TakesPieces before front now
  pub calls : now.puts ≡ after_calls (length front) before.puts
  pub counts : NoSinkCountFell before now

pub none_put : (text : List ℕ) (before : SinkMeaning) → SoFar text before before text
none_put text before = record {
  front = [];
  split = refl;
  whole = refl;
  appended = Appends-nil before.taken;
  taken = pieces_none before.pieces;
  calls = refl;
  counts = (omega arith, omega arith);
}

is_part : {X E : Type 0} (r : Result X E) (before now : SinkMeaning) (xs : List ℕ) → IsErr r → AppendsPrefix before xs now × Rose before.faults now.faults × NoSinkCountFell before now
    → Puts r before xs now
is_part (Ok x) before now xs err h = absurd cc
is_part (Err e) before now xs err h = h

not_whole : {X E : Type 0} (r : Result X E) (before now : SinkMeaning) (xs ys : List ℕ) → IsErr r → Puts r before xs now → Puts r before (xs ++ ys) now
not_whole (Ok x) before now xs ys err h = absurd cc
not_whole {X} {E} (Err e) before now xs ys err h = puts_first {X = X} {E = E} (Err e) before now xs ys err h

as_lines : {X E : Type 0} (r : Result X E) (before now : SinkMeaning) (text : List ℕ) → IsErr r → IsFrontPut before (lines_of text) now → PutsLines r before text now
as_lines (Ok x) before now text err h = absurd cc
as_lines (Err e) before now text err h = h

module _ (text : List ℕ) (before middle now : SinkMeaning) (rest line behind : List ℕ) (so_far : SoFar text before middle rest) (first : IsFirstLine rest line behind) where
  split_more : lines_of text ≡ so_far.front ++ line ∷ lines_of behind
  split_more = so_far.split ∙ ap (λ l. so_far.front ++ l) first.lines

  -- a line that was put
  pub one_line_more : AppendsTo middle line now → NoSinkCountFell middle now → TakesPieces middle (pieces_in line) now → IsOnePut middle now → SoFar text before now behind
  one_line_more appends counts takes put = record {
    front = so_far.front ++ line ∷ [];
    split = split_more ∙ sym (append_assoc so_far.front (line ∷ []) (lines_of behind));
    whole =
        so_far.whole ∙ ap (λ l. concat so_far.front ++ l) first.whole ∙ sym (append_assoc (concat so_far.front) line behind)
        ∙ ap (λ l. l ++ behind) (sym (concat_more so_far.front line));
    appended = subst (λ piece. AppendsTo before piece now) (sym (concat_more so_far.front line))
        (Appends-trans before.taken middle.taken now.taken (concat so_far.front) line so_far.appended appends);
    taken = pieces_trans before.pieces middle.pieces now.pieces so_far.front (line ∷ []) so_far.taken
        (subst (λ ps. TakesPieces middle ps now) (one_piece line first.some) takes);
    calls = put ∙ ap next_count so_far.calls ∙ ap (λ n. after_calls n before.puts) (sym (count_more so_far.front line));
    counts = (omega (arith, so_far.counts.0, counts.0), omega (arith, so_far.counts.1, counts.1));
  }

  module _ {X E : Type 0} (r : Result X E) (err : IsErr r) (part : AppendsPrefix middle line now × Rose middle.faults now.faults × NoSinkCountFell middle now) where
    -- a line that was not put whole
    pub line_failed : Puts r before text now
    line_failed =
        let front : Puts r before (concat so_far.front ++ line) now =
        puts_then r before middle now (concat so_far.front) line (so_far.appended, so_far.counts) (is_part r middle now line err part) in
        let is : text ≡ (concat so_far.front ++ line) ++ behind =
        so_far.whole ∙ ap (λ l. concat so_far.front ++ l) first.whole ∙ sym (append_assoc (concat so_far.front) line behind) in
        subst (λ piece. Puts r before piece now) (sym is) (not_whole r before now (concat so_far.front ++ line) behind err front)

    pub lines_failed : TakesPieces middle [] now → IsOnePut middle now → PutsLines r before text now
    lines_failed takes put =
        as_lines r before now text err (record {
          front = so_far.front;
          next = line;
          rest = lines_of behind;
          split = split_more;
          taken = subst (λ ps. TakesPieces before ps now) (append-nil so_far.front)
              (pieces_trans before.pieces middle.pieces now.pieces so_far.front [] so_far.taken takes);
          size = part.0.0;
          bytes = Appends-trans before.taken middle.taken now.taken (concat so_far.front) (take part.0.0 line) so_far.appended part.0.1;
          calls = put ∙ ap next_count so_far.calls;
        })

-- the whole text is put
module _ (text : List ℕ) (before now : SinkMeaning) (so_far : SoFar text before now []) where
  is_front : text ≡ concat so_far.front
  is_front = so_far.whole ∙ append-nil (concat so_far.front)

  pub all_put : AppendsTo before text now × NoSinkCountFell before now
  all_put = (subst (λ piece. AppendsTo before piece now) (sym is_front) so_far.appended, so_far.counts)

  pub all_lines : ArePut before (lines_of text) now
  all_lines =
      let all : so_far.front ≡ lines_of text = sym (so_far.split ∙ append-nil so_far.front) in
      record {
        taken = subst (λ ps. TakesPieces before ps now) all so_far.taken;
        calls = so_far.calls ∙ ap (λ (ps : List (List ℕ)). after_calls (length ps) before.puts) all;
      }
