-- Bytes that are cut into pieces.
use Rattle.std.proofs.Common.{◌≡◌, ◌≤◌, ◌<◌, ◌+◌, ◌-◌, ℕ, List, [], ◌∷◌, ◌++◌, length, take, drop, sum, refl, sym, ap, ◌∙◌, arith, append-nil, length-drop}
use Rattle.std.proofs.lemmas.List.{take_all, take-append-le, drop-append-le}
use Rattle.std.proofs.lemmas.List.Sums.{sum_by-cons}
use Rattle.io_edge.specs.Sink.{pieces_in}
use Rattle.io_edge.specs.SinkState.{cut_by}

cut_more : (sizes bytes piece : List ℕ) → sum sizes ≡ length bytes → cut_by (sizes ++ length piece ∷ []) (bytes ++ piece) ≡ cut_by sizes bytes ++ piece ∷ []
cut_more [] [] piece e = ap (λ x. x ∷ []) (take_all (length piece) piece (omega arith))
cut_more [] (b ∷ bs) piece e = absurd (omega (arith, e))
cut_more (n ∷ sizes) bytes piece e =
    let all : n + sum sizes ≡ length bytes = sym (sum_by-cons (λ x. x) n sizes) ∙ e in
    let within : n ≤ length bytes = omega (arith, all) in
    let left : sum sizes ≡ length (drop n bytes) = omega (arith, all, length-drop n bytes) in
    let rest : cut_by (sizes ++ length piece ∷ []) (drop n bytes ++ piece) ≡ cut_by sizes (drop n bytes) ++ piece ∷ [] = cut_more sizes (drop n bytes) piece left in
    ap (λ x. x ∷ cut_by (sizes ++ length piece ∷ []) (drop n (bytes ++ piece))) (take-append-le n bytes piece within)
    ∙ ap (λ x. take n bytes ∷ cut_by (sizes ++ length piece ∷ []) x) (drop-append-le n bytes piece within)
    ∙ ap (λ x. take n bytes ∷ x) rest

-- a piece that has bytes is one more
pub cut_piece : (sizes bytes piece : List ℕ) → sum sizes ≡ length bytes → 0 < length piece
    → cut_by (sizes ++ length piece ∷ []) (bytes ++ piece) ≡ cut_by sizes bytes ++ pieces_in piece
cut_piece sizes bytes [] e some = absurd (omega arith)
cut_piece sizes bytes (p ∷ ps) e some = cut_more sizes bytes (p ∷ ps) e

-- one that has none is none
pub cut_nothing : (sizes bytes piece : List ℕ) → length piece ≡ 0 → cut_by sizes (bytes ++ piece) ≡ cut_by sizes bytes ++ pieces_in piece
cut_nothing sizes bytes [] none = ap (cut_by sizes) (append-nil bytes) ∙ sym (append-nil (cut_by sizes bytes))
cut_nothing sizes bytes (p ∷ ps) none = absurd (omega arith)
