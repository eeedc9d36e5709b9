-- Terms as lists of tokens, in preorder: each symbol comes with the number of its arguments, which follow.
use Rattle.std.specs.Prelude.{◌≡◌, ℕ, List, [], ◌∷◌, ◌++◌, take, drop}
use Rattle.trs_defs.specs.Tree.{Tree, Trees, var, app, nil, cons, trees, count}
use Rattle.loop_find.specs.declared.tokens.Token.{Token}
use Rattle.loop_find.specs.declared.tokens.Token.TheVariants.{Var, App}
use Rattle.loop_find.specs.declared.tokens.SideTokens.{SideTokens}

abbrev mutual
  pub tokens_of : Tree → List Token
  tokens_of (var v) = Var v ∷ []
  tokens_of (app f ts) = App f (count ts) ∷ tokens_of_all ts

  pub tokens_of_all : Trees → List Token
  tokens_of_all nil = []
  tokens_of_all (cons t ts) = tokens_of t ++ tokens_of_all ts

-- the terms that a token makes of those that follow
abbrev pub terms_with : Token → List Tree → List Tree
terms_with (Var v) ts = var v ∷ ts
terms_with (App f n) ts = app f (trees (take n ts)) ∷ drop n ts

-- the terms that the tokens say, one after another
abbrev pub terms_of : List Token → List Tree
terms_of [] = []
terms_of (k ∷ ks) = terms_with k (terms_of ks)

abbrev pub first_term : List Tree → Tree
first_term [] = var 0
first_term (t ∷ ts) = t

-- the first term that the tokens say
abbrev pub term_of : List Token → Tree
term_of ks = first_term (terms_of ks)

-- the tokens of the token's image under a substitution
abbrev pub image : (ℕ → Tree) → Token → List Token
image σ (Var v) = tokens_of (σ v)
image σ (App f n) = App f n ∷ []

abbrev pub images : (ℕ → Tree) → List Token → List Token
images σ [] = []
images σ (k ∷ ks) = image σ k ++ images σ ks

-- how many terms a token stands over
abbrev pub arguments : Token → ℕ
arguments (Var v) = 0
arguments (App f n) = n

-- the tokens of these two terms
pub record AreTokensOf (s : SideTokens) (left right : Tree) : Type 0 where
  pub left_is : s.left.items ≡ tokens_of left
  pub right_is : s.right.items ≡ tokens_of right
