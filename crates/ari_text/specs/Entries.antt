-- What the items of a problem text say.
use Rattle.std.specs.Prelude.{ℕ, ◌==◌, Bool, false, List, [], ◌∷◌, codes, if◌then◌else◌}
use Rattle.std.specs.Str.{bytes_eq}
use Rattle.sexp_core.specs.Items.{Item, a_word, a_list, Items, no_items, item}

pub data Saying : Type 0 where
  -- `(fun name arity)`, with the places of the two words
  declares : (name : List ℕ) → (name_at : ℕ) → (arity : List ℕ) → (arity_at : ℕ) → Saying
  -- `(rule left right)`
  rewrites : (left : Item) → (right : Item) → Saying
  -- one of these with an attribute behind it, a word at a place that begins with a colon
  attributed : (saying : Saying) → (at : ℕ) → Saying
  says_nothing : Saying

abbrev pub declaration : Item → Item → Saying
declaration (a_word name q) (a_word arity r) = declares name q arity r
declaration (a_word name q) (a_list ys r) = says_nothing
declaration (a_list xs q) y = says_nothing

-- what three members say
abbrev pub three : List ℕ → Item → Item → Saying
three head x y =
    if bytes_eq head (codes "fun") then declaration x y
    else (if bytes_eq head (codes "rule") then rewrites x y else says_nothing)

abbrev pub begins_with_colon : List ℕ → Bool
begins_with_colon [] = false
begins_with_colon (b ∷ bs) = b == 58

-- the saying, by what stands behind its three members
abbrev pub ended : Saying → Items → Saying
ended saying no_items = saying
ended saying (item (a_list xs q) more) = says_nothing
ended saying (item (a_word w q) more) = if begins_with_colon w then attributed saying q else says_nothing

abbrev pub list_entry : Items → Saying
list_entry (item (a_word head p) (item x (item y more))) = ended (three head x y) more
list_entry _ = says_nothing

abbrev pub entry_of : Item → Saying
entry_of (a_word w at) = says_nothing
entry_of (a_list xs at) = list_entry xs
