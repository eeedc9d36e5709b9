-- An entry as a pair of a symbol and a list.
use Rattle.std.specs.Prelude.{ℕ, List, Vec}
use Rattle.std.specs.declared.alloc.Global.{Global}

abbrev pub plain : ℕ × Vec ℕ Global → ℕ × List ℕ
plain e = (e.0, e.1.items)
