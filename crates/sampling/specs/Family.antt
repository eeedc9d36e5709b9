-- A family of sample systems: the function f0 adds, and each later one is defined by the one before it.
use Rattle.std.specs.Prelude.{ℕ, zero, suc, ◌+◌, List, [], ◌∷◌, ◌++◌, replicate, decimal, codes}
use Rattle.trs_defs.specs.Tree.{Tree, var, app, nil, cons}
use Rattle.trs_defs.specs.System.{RewriteRule}
use Rattle.names_text.specs.Named.{NamedSystem}

-- The symbols are 0, s, and f0, f1, f2 and so on, in this order.

abbrev pub zero_term : Tree
zero_term = app 0 nil

-- (s t)
abbrev pub successor : Tree → Tree
successor t = app 1 (cons t nil)

-- (fi s t)
abbrev pub function : ℕ → Tree → Tree → Tree
function i s t = app (i + 2) (cons s (cons t nil))

-- (fi 0 y) -> y
abbrev pub base_rule : ℕ → RewriteRule
base_rule i = record { left = function i zero_term (var 0); right = var 0 }

-- (s (f0 x y)), and (fi x (f(i-1) y y)) of each later i
abbrev pub step_right : ℕ → Tree
step_right zero = successor (function 0 (var 0) (var 1))
step_right (suc i) = function (suc i) (var 0) (function i (var 1) (var 1))

-- (fi (s x) y) -> that
abbrev pub step_rule : ℕ → RewriteRule
step_rule i = record { left = function i (successor (var 0)) (var 1); right = step_right i }

-- the two rules of each function before fn
abbrev pub rules_to : ℕ → List RewriteRule
rules_to zero = []
rules_to (suc n) = rules_to n ++ base_rule n ∷ step_rule n ∷ []

abbrev pub function_name : ℕ → List ℕ
function_name i = codes "f" ++ decimal i

abbrev pub names_to : ℕ → List (List ℕ)
names_to zero = codes "0" ∷ codes "s" ∷ []
names_to (suc n) = names_to n ++ function_name n ∷ []

abbrev pub arities_to : ℕ → List ℕ
arities_to n = 0 ∷ 1 ∷ replicate n 2

-- the system of the functions before fn
abbrev pub sample : ℕ → NamedSystem
sample n = record { names = names_to n; system = record { arities = arities_to n; rules = rules_to n } }
