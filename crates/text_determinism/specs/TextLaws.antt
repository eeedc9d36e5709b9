-- One worker finds one text.
use Rattle.std.specs.Prelude.{◌≡◌, ◌≤◌, ℕ, List}
use Rattle.names_text.specs.Named.{NamedSystem, IsNamed}
use Rattle.ari_text.specs.Problem.{SaysSystem}
use Rattle.conclusion.specs.tree_definitions.declared.question.Question.{Question}
use Rattle.conclusion.specs.SerialText.{IsSerialText}
use Rattle.sampling.specs.Line.{IsSerialLine}

abbrev pub SerialTextsAreOne : Type 0
SerialTextsAreOne =
    (named : NamedSystem) (question : Question) (budget : ℕ) (text other : List ℕ) → IsNamed named
    → IsSerialText named question budget text → IsSerialText named question budget other → text ≡ other

-- so they are where one problem text says the system
abbrev pub ProblemTextsHaveOneText : Type 0
ProblemTextsHaveOneText =
    (problem : List ℕ) (named again : NamedSystem) (question : Question) (budget : ℕ) (text other : List ℕ)
    → SaysSystem problem named → SaysSystem problem again
    → IsSerialText named question budget text → IsSerialText again question budget other → text ≡ other

abbrev pub SampleLinesAreOne : Type 0
SampleLinesAreOne =
    (size budget : ℕ) (line other : List ℕ) → size ≤ 512 → IsSerialLine size budget line → IsSerialLine size budget other → line ≡ other
