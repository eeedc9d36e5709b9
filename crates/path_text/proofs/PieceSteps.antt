-- The steps of pieces: one behind the other, and at a position.
use Rattle.std.proofs.Common.{◌≡◌, ℕ, ◌+◌, ◌<◌, List, [], ◌∷◌, ◌++◌, length, get_or, drop, Vec, refl, sym, ap, ap₂, ◌∙◌}
use Rattle.std.proofs.lemmas.List.{append_assoc, append-nil, map-append}
use Rattle.std.specs.Global.{Global}
use Rattle.std.specs.declared.rc.Rc.{Rc}
use Rattle.trs_defs.specs.Path.{PlacedRule}
use Rattle.rewrite_core.specs.ShiftedPath.{shifted_step, shifted_path}
use Rattle.rewrite_core.specs.declared.PathStep.{PathStep}
use Rattle.path_text.specs.declared.pieces.Piece.{Piece, fold-roll-Piece}
use Rattle.path_text.specs.declared.pieces.Piece.TheVariants.{Steps, Shared, rolls-Steps, rolls-Shared}
use Rattle.path_text.specs.declared.pieces.Piece.TheOpen.{Piece-F}
use Rattle.path_text.specs.Pieces.{steps_of_layer, steps_of_piece, steps_of_pieces}
use Rattle.path_text.proofs.Weighing.{next_of}

-- ---- at a position

pub shifted_joined : (by : List ℕ) (p q : List PlacedRule) → shifted_path by (p ++ q) ≡ shifted_path by p ++ shifted_path by q
shifted_joined by p q = map-append (shifted_step by) p q

-- at a position behind another one
pub shifted_twice : (by at : List ℕ) (p : List PlacedRule) → shifted_path (by ++ at) p ≡ shifted_path by (shifted_path at p)
shifted_twice by at [] = refl
shifted_twice by at (s ∷ p) =
    let first : shifted_step (by ++ at) s ≡ shifted_step by (shifted_step at s) =
    ap (λ (place : List ℕ). (let r : PlacedRule = record { place = place; rule = s.rule } in r)) (append_assoc by at s.place) in
    ap₂ (λ (r : PlacedRule) (q : List PlacedRule). r ∷ q) first (shifted_twice by at p)

-- ---- one piece

pub steps_of_steps : (steps : Vec PathStep Global) → steps_of_piece (Steps steps) ≡ steps.items
steps_of_steps steps = ap steps_of_piece (sym (rolls-Steps steps)) ∙ fold-roll-Piece (List PlacedRule) steps_of_layer (Piece-F.Steps steps)

pub steps_of_shared : (by : List ℕ) (shared : Rc (Vec Piece Global) Global) → steps_of_piece (Shared by shared) ≡ shifted_path by (steps_of_pieces shared.value.items)
steps_of_shared by shared = ap steps_of_piece (sym (rolls-Shared by shared)) ∙ fold-roll-Piece (List PlacedRule) steps_of_layer (Piece-F.Shared by shared)

-- what is appended for one piece
module _ (old new : List PlacedRule) (by : List ℕ) (piece : Piece) where
  pub steps_appended : (steps : Vec PathStep Global) (path : List PlacedRule) → piece ≡ Steps steps → path ≡ steps.items → new ≡ old ++ shifted_path by path
      → new ≡ old ++ shifted_path by (steps_of_piece piece)
  steps_appended steps path is same e = e ∙ ap (λ (p : List PlacedRule). old ++ shifted_path by p) (same ∙ sym (ap steps_of_piece is ∙ steps_of_steps steps))

  pub shared_appended : (at place : List ℕ) (shared : Rc (Vec Piece Global) Global) (pieces : List Piece) → piece ≡ Shared at shared → place ≡ by ++ at
      → pieces ≡ shared.value.items → new ≡ old ++ shifted_path place (steps_of_pieces pieces) → new ≡ old ++ shifted_path by (steps_of_piece piece)
  shared_appended at place shared pieces is joined same e =
      e
      ∙ ap₂ (λ (p : List ℕ) (q : List Piece). old ++ shifted_path p (steps_of_pieces q)) joined same
      ∙ ap (λ (p : List PlacedRule). old ++ p) (shifted_twice by at (steps_of_pieces shared.value.items))
      ∙ ap (λ (p : List PlacedRule). old ++ shifted_path by p) (sym (ap steps_of_piece is ∙ steps_of_shared at shared))

-- ---- several pieces

pieces_joined : (p q : List Piece) → steps_of_pieces (p ++ q) ≡ steps_of_pieces p ++ steps_of_pieces q
pieces_joined [] q = refl
pieces_joined (x ∷ p) q =
    ap (λ (l : List PlacedRule). steps_of_piece x ++ l) (pieces_joined p q) ∙ sym (append_assoc (steps_of_piece x) (steps_of_pieces p) (steps_of_pieces q))

pub one_more_piece : (old new : List Piece) (x : Piece) → new ≡ old ++ x ∷ [] → steps_of_pieces new ≡ steps_of_pieces old ++ steps_of_piece x
one_more_piece old new x e =
    ap steps_of_pieces e ∙ pieces_joined old (x ∷ []) ∙ ap (λ (l : List PlacedRule). steps_of_pieces old ++ l) (append-nil (steps_of_piece x))

-- one more piece behind pieces that took up the last steps
pub next_piece : (old mid new : List Piece) (last left whole : List PlacedRule) (x : Piece) → steps_of_pieces old ++ last ≡ whole
    → steps_of_pieces mid ≡ steps_of_pieces old ++ last → left ≡ [] → new ≡ mid ++ x ∷ [] → steps_of_pieces new ++ left ≡ whole ++ steps_of_piece x
next_piece old mid new last left whole x is moved none e =
    ap₂ (λ (p q : List PlacedRule). p ++ q) (one_more_piece mid new x e ∙ ap (λ (p : List PlacedRule). p ++ steps_of_piece x) (moved ∙ is)) none
    ∙ append-nil (whole ++ steps_of_piece x)

-- one more piece in a loop, whose steps were appended at a position
module _ (pieces : List Piece) (piece : Piece) (by : List ℕ) (i : ℕ) (old total : List PlacedRule) (lt : i < length pieces) (is : piece ≡ get_or pieces i piece)
    (before : old ++ shifted_path by (steps_of_pieces (drop i pieces)) ≡ total) where
  next_steps : shifted_path by (steps_of_pieces (drop i pieces)) ≡ shifted_path by (steps_of_piece piece) ++ shifted_path by (steps_of_pieces (drop (i + 1) pieces))
  next_steps =
      ap (λ (l : List Piece). shifted_path by (steps_of_pieces l)) (next_of pieces piece i lt is)
      ∙ shifted_joined by (steps_of_piece piece) (steps_of_pieces (drop (i + 1) pieces))

  pub piece_appended : (new : List PlacedRule) → new ≡ old ++ shifted_path by (steps_of_piece piece)
      → new ++ shifted_path by (steps_of_pieces (drop (i + 1) pieces)) ≡ total
  piece_appended new e =
      ap (λ (l : List PlacedRule). l ++ shifted_path by (steps_of_pieces (drop (i + 1) pieces))) e
      ∙ append_assoc old (shifted_path by (steps_of_piece piece)) (shifted_path by (steps_of_pieces (drop (i + 1) pieces)))
      ∙ ap (λ (l : List PlacedRule). old ++ l) (sym next_steps)
      ∙ before
