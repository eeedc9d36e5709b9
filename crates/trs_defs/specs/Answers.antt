-- What a call that may want for memory answered.
use Rattle.std.specs.Prelude.{◌≡◌, ◌≢◌, Result, Ok, Err}

-- the result is this answer, unless it is want of memory
abbrev pub Gives : {X E : Type 0} → E → Result X E → Result X E → Type 0
Gives memory (Ok x) answer = answer ≡ Ok x
Gives memory (Err e) answer = e ≢ memory → answer ≡ Err e
