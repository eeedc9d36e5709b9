-- Unique normal forms. (Baader and Nipkow, section 2.1.)
use Rattle.std.specs.Prelude.{◌≡◌, ◌≢◌}
use Rattle.trs_defs.specs.Derivation.{Reaches}
use Rattle.trs_defs.specs.NormalForm.{IsNormalForm}
use Rattle.trs_defs.specs.Tree.{Tree}
use Rattle.trs_defs.specs.WellFormed.{IsWellFormed}
use Rattle.trs_defs.specs.System.{System}
use Rattle.trs_defs.specs.Step.{Step}

-- t is a normal form that s reaches
abbrev pub HasNormalForm : System → Tree → Tree → Type 0
HasNormalForm system s t = Reaches (Step system.rules) s t × IsNormalForm (Step system.rules) t

-- a well-formed term reaches at most one normal form
abbrev pub HasUniqueNormalForms : System → Type 0
HasUniqueNormalForms system =
    (s t u : Tree) → IsWellFormed system.arities s → HasNormalForm system s t → HasNormalForm system s u → t ≡ u

-- some well-formed term reaches two different normal forms
abbrev pub IsSplit : System → Type 0
IsSplit system =
    (s : Tree) × (t : Tree) × (u : Tree) × IsWellFormed system.arities s × HasNormalForm system s t
    × HasNormalForm system s u × (t ≢ u)
