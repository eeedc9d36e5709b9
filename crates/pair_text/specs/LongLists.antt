-- Lists with so many members.
use Rattle.std.specs.Prelude.{ℕ, zero, suc, Bool, true, false, List, Err, if◌then◌else◌}
use Rattle.sexp_core.specs.Items.{Item, a_word, a_list, Items, no_items, item}
use Rattle.text_reading.specs.Reading.{Read, ◌<*>◌, Parts, ended, many}

-- fewer than so many items
abbrev pub lacks : ℕ → Items → Bool
lacks zero xs = false
lacks (suc n) no_items = true
lacks (suc n) (item x xs) = lacks n xs

-- the first so many
abbrev pub first_items : ℕ → Items → Items
first_items zero xs = no_items
first_items (suc n) no_items = no_items
first_items (suc n) (item x xs) = item x (first_items n xs)

-- those behind the first so many
abbrev pub items_behind : ℕ → Items → Items
items_behind zero xs = xs
items_behind (suc n) no_items = no_items
items_behind (suc n) (item x xs) = items_behind n xs

-- exactly so many further members
abbrev pub exactly : {A B : Type 0} → ℕ → (Item → Read A) → Parts (List A → B) B
exactly n read at r xs = if lacks n xs then Err at else ended (r <*> many read (first_items n xs)) (items_behind n xs)

-- a list with at least so many members; one that lacks a member has its own place
abbrev pub long_list : {A : Type 0} → ℕ → (Item → Read A) → Item → Read A
long_list n read (a_word w at) = Err at
long_list n read (a_list xs at) = if lacks n xs then Err at else read (a_list xs at)

-- further members, whatever they are
abbrev pub anything : {B : Type 0} → Parts B B
anything at r xs = r
