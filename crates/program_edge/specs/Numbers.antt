-- Numbers in lines.
use Rattle.std.specs.Prelude.{ℕ, List, [], ◌∷◌, ◌++◌, decimal, Option, Some, None}

-- numbers in decimal, with a blank before each
abbrev pub fields_text : List ℕ → List ℕ
fields_text [] = []
fields_text (n ∷ ns) = (32 ∷ decimal n) ++ fields_text ns

-- none or one
abbrev pub listed : Option ℕ → List ℕ
listed None = []
listed (Some n) = n ∷ []
