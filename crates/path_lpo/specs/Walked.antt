-- Filtered terms, and lists of them, by what stands for them where they are compared.
use Rattle.std.specs.Prelude.{◌≡◌, ◌<◌, ◌≤◌, ℕ, Option, Some, None}
use Rattle.trs_defs.specs.Tree.{Tree, Trees, app, nil, cons}
use Rattle.path_lpo.specs.Comparison.{IsComparison}
use Rattle.path_lpo.specs.declared.comparison.Comparison.{Comparison}

-- what nodes and lists stand for; a node's size, which is above the bound of its list of arguments; the bound of a list, which no
-- node of the list passes; and how long a list is at most
pub record Walked (N L : Type 0) : Type 0 where
  pub tree : N → Tree
  pub trees : L → Trees
  pub size : N → ℕ
  pub bound : L → ℕ
  pub most : L → ℕ

module _ {N L : Type 0} (walked : Walked N L) where
  -- the first term of the list, and the others
  pub record IsFirst (list : L) (first : N) (rest : L) : Type 0 where
    pub list_is : walked.trees list ≡ cons (walked.tree first) (walked.trees rest)
    pub first_within : walked.size first ≤ walked.bound list
    pub rest_within : walked.bound rest ≤ walked.bound list
    pub shorter : walked.most rest < walked.most list

  abbrev pub IsSplit : L → Option (N × L) → Type 0
  IsSplit list None = walked.trees list ≡ nil
  IsSplit list (Some p) = IsFirst list p.0 p.1

  -- two terms have one root over these arguments
  pub record HaveOneRoot (s t : N) (ss ts : L) : Type 0 where
    pub symbol : ℕ
    pub first : app symbol (walked.trees ss) ≡ walked.tree s
    pub second : app symbol (walked.trees ts) ≡ walked.tree t
    pub first_within : walked.bound ss < walked.size s
    pub second_within : walked.bound ts < walked.size t

  abbrev pub Compares : (ℕ → ℕ) → N → N → Comparison → Type 0
  Compares rank s t c = IsComparison rank (walked.tree s) (walked.tree t) c

  -- the last term is there, and is this one
  abbrev pub IsAgain : Option N → N → Type 0
  IsAgain None b = ⊥
  IsAgain (Some a) b = walked.tree a ≡ walked.tree b
