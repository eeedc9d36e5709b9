-- Caps that no term has: two symbols clash where both caps have one.
use Rattle.std.specs.Prelude.{Bool, true, false, not, ◌||◌, ◌==◌}
use Rattle.trs_defs.specs.Tree.{Tree, Trees, var, app, nil, cons}

-- the caps have two symbols, or two numbers of arguments, at one place
abbrev mutual
  pub clash : Tree → Tree → Bool
  clash (var v) d = false
  clash (app f cs) (var w) = false
  clash (app f cs) (app g ds) = not (f == g) || some_clash cs ds

  pub some_clash : Trees → Trees → Bool
  some_clash nil nil = false
  some_clash nil (cons d ds) = true
  some_clash (cons c cs) nil = true
  some_clash (cons c cs) (cons d ds) = clash c d || some_clash cs ds
