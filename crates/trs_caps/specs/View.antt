-- How the code's caps stand for terms with holes.
use Rattle.std.specs.Prelude.{List, map}
use Rattle.trs_caps.specs.HoledTree.{HoledTree, HoledTrees, hole, own, symbol, holed_trees}
use Rattle.trs_caps.specs.declared.holed.Cap.{Cap}
use Rattle.trs_caps.specs.declared.holed.Cap.TheVariants.{Open, Own, Symbol}

abbrev pub holed : Cap → HoledTree
holed Open = hole
holed (Own v) = own v
holed (Symbol f cs) = symbol f (holed_trees cs)

-- an argument list of these caps
abbrev pub holed_all : List Cap → HoledTrees
holed_all cs = holed_trees (map holed cs)
