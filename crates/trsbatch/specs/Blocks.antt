-- What is written for the problems of a list: a block for each.
use Rattle.std.specs.Prelude.{ℕ, List, [], ◌∷◌, ◌++◌, codes, decimal}
use Rattle.program_edge.specs.declared.status.Status.{Status}
use Rattle.program_edge.specs.Statuses.{code_of}

-- a name, a status, and the text that is written with it
pub record PlainBlock : Type 0 where
  pub name : List ℕ
  pub status : Status
  pub text : List ℕ

-- the line that names the problem and the status
abbrev pub block_line : PlainBlock → List ℕ
block_line b = codes "problem " ++ (b.name ++ (32 ∷ (decimal (code_of b.status) ++ 10 ∷ [])))

-- the line, and then the text
abbrev pub block_text : PlainBlock → List ℕ
block_text b = block_line b ++ b.text

-- the blocks, one after the other
abbrev pub blocks_text : List PlainBlock → List ℕ
blocks_text [] = []
blocks_text (b ∷ bs) = block_text b ++ blocks_text bs
