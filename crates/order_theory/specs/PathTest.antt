-- The path order as a test.
use Rattle.std.specs.Prelude.{ℕ, List, [], ◌∷◌, Bool, true, false, cond, ◌||◌, ◌&&◌, nat_eq, nat_lt}
use Rattle.trs_defs.specs.Tree.{Tree, Trees, var, app, nil, cons, count}

-- whether two terms are equal
abbrev mutual
  pub same_tree : Tree → Tree → Bool
  same_tree (var x) (var y) = nat_eq x y
  same_tree (var x) (app g ts) = false
  same_tree (app f ss) (var y) = false
  same_tree (app f ss) (app g ts) = nat_eq f g && same_trees ss ts

  pub same_trees : Trees → Trees → Bool
  same_trees nil nil = true
  same_trees nil (cons t ts) = false
  same_trees (cons s ss) nil = false
  same_trees (cons s ss) (cons t ts) = same_tree s t && same_trees ss ts

-- some of the terms is t, or its test passes t
abbrev pub some_at_least : Trees → List (Tree → Bool) → Tree → Bool
some_at_least nil tests t = false
some_at_least (cons s ss) [] t = false
some_at_least (cons s ss) (test ∷ tests) t = same_tree s t || (test t || some_at_least ss tests t)

-- at the first place where they differ the test passes, with as many terms after it
abbrev pub lex_greater : Trees → List (Tree → Bool) → Trees → Bool
lex_greater nil tests ts = false
lex_greater (cons s ss) [] ts = false
lex_greater (cons s ss) (test ∷ tests) nil = false
lex_greater (cons s ss) (test ∷ tests) (cons t ts) =
    cond (same_tree s t) (lex_greater ss tests ts) (test t && nat_eq (count ss) (count ts))

-- f(ss) against t, where the tests say what each of ss is greater than
abbrev mutual
  pub app_greater : (ℕ → ℕ) → ℕ → Trees → List (Tree → Bool) → Tree → Bool
  app_greater rank f ss tests (var y) = some_at_least ss tests (var y)
  app_greater rank f ss tests (app g ts) =
      some_at_least ss tests (app g ts)
      || ((nat_lt (rank g) (rank f) || (nat_eq f g && lex_greater ss tests ts)) && app_greater_than_all rank f ss tests ts)

  pub app_greater_than_all : (ℕ → ℕ) → ℕ → Trees → List (Tree → Bool) → Trees → Bool
  app_greater_than_all rank f ss tests nil = true
  app_greater_than_all rank f ss tests (cons t ts) = app_greater rank f ss tests t && app_greater_than_all rank f ss tests ts

-- whether s is greater than t
abbrev mutual
  pub path_greater : (ℕ → ℕ) → Tree → Tree → Bool
  path_greater rank (var x) t = false
  path_greater rank (app f ss) t = app_greater rank f ss (path_greater_each rank ss) t

  pub path_greater_each : (ℕ → ℕ) → Trees → List (Tree → Bool)
  path_greater_each rank nil = []
  path_greater_each rank (cons s ss) = path_greater rank s ∷ path_greater_each rank ss
