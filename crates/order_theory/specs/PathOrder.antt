-- The lexicographic path order, with a rank for each symbol. (Baader and Nipkow, section 5.4. Ranks may be equal;
-- symbols of one rank compare only with themselves.)
use Rattle.std.specs.Prelude.{◌≡◌, ℕ, ◌<◌}
use Rattle.trs_defs.specs.Tree.{Tree, Trees, app, nil, cons, count}

mutual
  pub data PathGreater (rank : ℕ → ℕ) : Tree → Tree → Type 0 where
    by_arg : {f : ℕ} {ss : Trees} {t : Tree} → SomeAtLeast rank ss t → PathGreater rank (app f ss) t
    by_rank : {f g : ℕ} {ss ts : Trees} → rank g < rank f → GreaterThanAll rank (app f ss) ts → PathGreater rank (app f ss) (app g ts)
    by_lex : {f : ℕ} {ss ts : Trees} → LexGreater rank ss ts → GreaterThanAll rank (app f ss) ts → PathGreater rank (app f ss) (app f ts)

  -- some of the terms is t, or greater
  pub data SomeAtLeast (rank : ℕ → ℕ) : Trees → Tree → Type 0 where
    equal_here : {t : Tree} {ss : Trees} → SomeAtLeast rank (cons t ss) t
    greater_here : {s t : Tree} {ss : Trees} → PathGreater rank s t → SomeAtLeast rank (cons s ss) t
    further : {s t : Tree} {ss : Trees} → SomeAtLeast rank ss t → SomeAtLeast rank (cons s ss) t

  -- s is greater than each of the terms
  pub data GreaterThanAll (rank : ℕ → ℕ) : Tree → Trees → Type 0 where
    all_nil : {s : Tree} → GreaterThanAll rank s nil
    all_cons : {s t : Tree} {ts : Trees} → PathGreater rank s t → GreaterThanAll rank s ts → GreaterThanAll rank s (cons t ts)

  -- greater at the first place where they differ, with as many terms after it: without equal counts
  -- f(b) > f(a, b) > f(a, a, b) > .. would have no end
  pub data LexGreater (rank : ℕ → ℕ) : Trees → Trees → Type 0 where
    lex_here : {s t : Tree} {ss ts : Trees} → PathGreater rank s t → count ss ≡ count ts → LexGreater rank (cons s ss) (cons t ts)
    lex_later : {s : Tree} {ss ts : Trees} → LexGreater rank ss ts → LexGreater rank (cons s ss) (cons s ts)
