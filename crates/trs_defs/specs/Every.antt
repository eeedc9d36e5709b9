-- What holds of each item of an argument list.
use Rattle.trs_defs.specs.Tree.{Tree, Trees, nil, cons}

pub data Every (P : Tree → Type 0) : Trees → Type 0 where
  every_nil : Every P nil
  every_cons : {t : Tree} {ts : Trees} → P t → Every P ts → Every P (cons t ts)
