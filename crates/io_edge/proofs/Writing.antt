-- A piece that is written in several calls.
use Rattle.std.proofs.Common.{◌≡◌, ◌≤◌, ◌+◌, ◌-◌, ℕ, List, length, take, drop, Option, sym, subst, arith, length-drop}
use Rattle.std.specs.Io.KnownBytes.{Appends}
use Rattle.std.proofs.KnownBytes.{Appends-trans}
use Rattle.std.proofs.Math.Seq.{take-add}
use Rattle.std.proofs.lemmas.List.{take_all}

-- so many bytes are written, and then a count of those that are left
pub written_more : (before between now : Option (List ℕ)) (piece : List ℕ) (written count : ℕ) → written ≤ length piece
    → Appends before between (take written piece)
    → count ≤ length (take (length piece - written) (drop written piece))
    → Appends between now (take count (take (length piece - written) (drop written piece)))
    → (written + count ≤ length piece) × Appends before now (take (written + count) piece)
written_more before between now piece written count fits first bound more =
    let rest : take (length piece - written) (drop written piece) ≡ drop written piece =
    take_all (length piece - written) (drop written piece) (omega (arith, length-drop written piece)) in
    let within : count ≤ length (drop written piece) = subst (λ xs. count ≤ length xs) rest bound in
    let second : Appends between now (take count (drop written piece)) = subst (λ xs. Appends between now (take count xs)) rest more in (
      omega (arith, length-drop written piece),
      subst (Appends before now) (sym (take-add written count piece)) (Appends-trans before between now (take written piece) (take count (drop written piece)) first second),
    )
