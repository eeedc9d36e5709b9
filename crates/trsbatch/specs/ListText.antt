-- What the text of a list says: names, one on a line.
use Rattle.std.specs.Prelude.{◌≡◌, ◌≢◌, ◌≤◌, ◌<◌, ◌⊎◌, ℕ, List, [], ◌∷◌, ◌++◌, length, if◌then◌else◌, ◌==◌}
use Rattle.std.specs.List.{All}
use Rattle.std.specs.Str.{IsUtf8}

-- a byte in front of the first line
abbrev pub on_first : ℕ → List (List ℕ) → List (List ℕ)
on_first b [] = (b ∷ []) ∷ []
on_first b (line ∷ rest) = (b ∷ line) ∷ rest

-- the lines of a text: line feeds stand between them
abbrev pub lines_of : List ℕ → List (List ℕ)
lines_of [] = [] ∷ []
lines_of (b ∷ bs) = if b == 10 then [] ∷ lines_of bs else on_first b (lines_of bs)

-- a line without the carriage return at its end
abbrev pub bare : List ℕ → List ℕ
bare [] = []
bare (b ∷ []) = if b == 13 then [] else b ∷ []
bare (b ∷ c ∷ rest) = b ∷ bare (c ∷ rest)

-- a byte is no control byte
abbrev pub IsPlain : ℕ → Type 0
IsPlain b = (32 ≤ b) × (b ≢ 127)

-- what stands on a line is text without control bytes
abbrev pub IsGoodLine : List ℕ → Type 0
IsGoodLine line = IsUtf8 (bare line) × All IsPlain (bare line)

-- the names on lines: empty lines are passed over
abbrev pub named : List ℕ → List (List ℕ)
named [] = []
named (b ∷ bs) = (b ∷ bs) ∷ []

abbrev pub names_on : List (List ℕ) → List (List ℕ)
names_on [] = []
names_on (line ∷ rest) = named (bare line) ++ names_on rest

-- each line is good
abbrev pub AreGood : List (List ℕ) → Type 0
AreGood [] = Unit {0}
AreGood (line ∷ rest) = IsGoodLine line × AreGood rest

-- the most names of a list
abbrev pub most_names : ℕ
most_names = 256

-- these lines are not refused: they are good, and there are not too many names on them
pub record ArePassed (lines : List (List ℕ)) : Type 0 where
  pub good : AreGood lines
  pub few : length (names_on lines) ≤ most_names

-- the text says these names
pub record SaysNames (text : List ℕ) (names : List (List ℕ)) : Type 0 where
  pub passed : ArePassed (lines_of text)
  pub said : names ≡ names_on (lines_of text)

-- a line is refused behind others: it is not good, or has one name too many
abbrev pub IsRefusedBehind : List (List ℕ) → List ℕ → Type 0
IsRefusedBehind front line = (IsGoodLine line → ⊥) ⊎ (most_names < length (names_on (front ++ line ∷ [])))

-- the line of this number, from 0, is the first that is refused
pub record IsListRefused (text : List ℕ) (number : ℕ) : Type 0 where
  pub front : List (List ℕ)
  pub line : List ℕ
  pub rest : List (List ℕ)
  pub lines : lines_of text ≡ front ++ line ∷ rest
  pub number_is : number ≡ length front
  pub passed : ArePassed front
  pub refused : IsRefusedBehind front line
