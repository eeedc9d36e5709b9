-- What a reader gives in several calls.
use Rattle.std.proofs.Common.{◌≡◌, ◌<◌, ◌≤◌, ◌+◌, ℕ, List, [], ◌++◌, length, refl, sym, ap, subst, ◌∙◌, append_assoc, append-nil, length-append, arith}
use Rattle.io_edge.specs.Telling.{Telling, untold, absent, told, CanBe, CanPass, CanGive, Gives, IsAtEnd, IsAtFault, CanFailBehind}

pub gives_none : (a : Telling) → Gives a [] a
gives_none untold = tt
gives_none (absent front) = (front, refl, refl)
gives_none (told whole) = (whole, refl, refl)

pub gives_trans : (a b c : Telling) (xs ys : List ℕ) → Gives a xs b → Gives b ys c → Gives a (xs ++ ys) c
gives_trans untold b c xs ys g h = tt
gives_trans (absent front) b c xs ys (rest, is, left) h =
    let (behind, again, now) = subst (λ z. Gives z ys c) left h in (behind, is ∙ ap (λ l. xs ++ l) again ∙ sym (append_assoc xs ys behind), now)
gives_trans (told whole) b c xs ys (rest, is, left) h =
    let (behind, again, now) = subst (λ z. Gives z ys c) left h in (behind, is ∙ ap (λ l. xs ++ l) again ∙ sym (append_assoc xs ys behind), now)

-- what was read up to the end is the text
pub whole_given : (a b : Telling) (xs : List ℕ) → Gives a xs b → IsAtEnd b → CanBe a xs
whole_given untold b xs g e = tt
whole_given (absent front) b xs (rest, is, left) e = absurd (subst IsAtEnd left e)
whole_given (told whole) b xs (rest, is, left) e =
    let none : rest ≡ [] = subst IsAtEnd left e in sym (is ∙ ap (λ l. xs ++ l) none ∙ append-nil xs)

-- where more was read than a limit, more is there
pub long_given : (limit : ℕ) (a b : Telling) (xs : List ℕ) → Gives a xs b → limit < length xs → CanPass limit a
long_given limit untold b xs g long = tt
long_given limit (absent front) b xs (rest, is, left) long = omega (arith, long, ap length is, length-append xs rest)
long_given limit (told whole) b xs (rest, is, left) long = omega (arith, long, ap length is, length-append xs rest)

-- what was read is there
pub read_given : (a b : Telling) (xs : List ℕ) → Gives a xs b → CanGive (length xs) a
read_given untold b xs g = tt
read_given (absent front) b xs (rest, is, left) = omega (arith, ap length is, length-append xs rest)
read_given (told whole) b xs (rest, is, left) = omega (arith, ap length is, length-append xs rest)

-- a fault comes behind what was read before it
pub fault_behind : (a b : Telling) (xs : List ℕ) → Gives a xs b → IsAtFault b → CanFailBehind (length xs) a
fault_behind untold b xs g e = tt
fault_behind (absent front) b xs (rest, is, left) e =
    let none : rest ≡ [] = subst IsAtFault left e in ap length (is ∙ ap (λ l. xs ++ l) none ∙ append-nil xs)
fault_behind (told whole) b xs (rest, is, left) e = absurd (subst IsAtFault left e)

-- where opening fails, nothing was read
pub fault_at_once : (a : Telling) → IsAtFault a → CanFailBehind 0 a
fault_at_once untold e = tt
fault_at_once (absent front) e = ap length e
fault_at_once (told whole) e = absurd e
