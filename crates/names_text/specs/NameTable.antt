-- Names that are numbered by 32 bits, and the slots and trees by which they are found.
use Rattle.std.specs.Prelude.{◌≡◌, ◌<◌, ◌-◌, ◌^◌, ◌++◌, ◌∷◌, [], ◌⊎◌, ℕ, Bool, true, false, List, length, slice_get, take, Option, Some, None, Vec, bit_and, bit_xor, get_or, if◌then◌else◌}
use Rattle.std.specs.Cmp.Lexicographic.{slice_cmp}
use Rattle.std.specs.Global.{Global}
use Rattle.std.specs.Hash.FoldHasher.{initial, write, finish}
use Rattle.std.specs.Option.{option_and_then, option_map_or, option_or}
use Rattle.std.specs.Ordering.{nat_cmp}
use Rattle.std.specs.Str.{bytes_eq}
use Rattle.std.specs.BTreeMap.{BTreeMap, get, get_by}
use Rattle.names_text.specs.Names.{are_distinct, number_among}
use Rattle.names_text.specs.declared.index.Index.{Index}
use Rattle.names_text.specs.declared.index.Look.{Look}
use Rattle.names_text.specs.declared.index.Look.TheVariants.{Free, Own, Taken}
use Rattle.names_text.specs.declared.trees.NameTrees.{NameTrees}

-- what is hashed of a name
abbrev pub front : List ℕ → List ℕ
front name = take 256 name

-- the last of some bytes, and 0 of none
abbrev pub last_byte : List ℕ → ℕ
last_byte bytes = get_or bytes (length bytes - 1) 0

-- the others
abbrev pub stem : List ℕ → List ℕ
stem bytes = take (length bytes - 1) bytes

abbrev pub hash_of : List ℕ → ℕ
hash_of name = bit_xor (finish (write initial (stem (front name)))) (last_byte (front name))

-- another hash
abbrev pub second_hash_of : List ℕ → ℕ
second_hash_of name = finish (write (write initial (1 ∷ [])) (front name))

-- what is said of the number of a name is that it has none, or it is true
abbrev pub IsTrueOf : List (List ℕ) → List ℕ → Option ℕ → Type 0
IsTrueOf names name said = (said ≡ None) ⊎ (said ≡ number_among names name)

-- ---- trees

abbrev pub is_at : List (List ℕ) → List ℕ → ℕ → Bool
is_at names name i = option_map_or (λ n. bytes_eq n name) (slice_get names i) false

-- the number of a name: the one that it has itself, or else that of the first name of its hash, if it is this name
abbrev pub number_by : List (List ℕ) → Option ℕ → Option ℕ → List ℕ → Option ℕ
number_by names own first name = option_or own (option_and_then (λ i. if is_at names name i then Some i else None) first)

-- the number that a tree has for a name
abbrev pub own_number : BTreeMap (Vec ℕ Global) ℕ → List ℕ → Option ℕ
own_number others name = get_by (λ k. slice_cmp nat_cmp name k.items) others

-- the number of a name by trees
abbrev pub number_by_trees : List (List ℕ) → NameTrees → List ℕ → Option ℕ
number_by_trees names trees name = number_by names (own_number trees.others name) (get nat_cmp trees.first (second_hash_of name)) name

-- each number is that of a name
abbrev pub AreWithin : List (List ℕ) → NameTrees → Type 0
AreWithin names trees = (hash i : ℕ) → get nat_cmp trees.first hash ≡ Some i → i < length names

-- trees that have one name more, which is the last one
pub record HaveMore (names : List (List ℕ)) (name : List ℕ) (old new : NameTrees) : Type 0 where
  pub within : AreWithin (names ++ name ∷ []) new
  pub found : (q : List ℕ) → number_by_trees (names ++ name ∷ []) new q
      ≡ option_or (number_by_trees names old q) (if bytes_eq q name then Some (length names) else None)

-- ---- slots in front of trees

-- the number of no name
abbrev pub free : ℕ
free = 4294967295

-- the slot for a hash, of so many
abbrev pub slot_of : ℕ → ℕ → ℕ
slot_of slots hash = bit_and hash (slots - 1)

-- the number of a name by what its slot has: none where this is no number of a name, and that by other means where another
-- name has the slot
abbrev pub number_by_slot : List (List ℕ) → Option ℕ → Option ℕ → List ℕ → Option ℕ
number_by_slot names None others name = others
number_by_slot names (Some i) others name = option_and_then (λ n. if bytes_eq n name then Some i else others) (slice_get names i)

-- the same by what is seen there
abbrev pub number_by_look : Look → Option ℕ → Option ℕ
number_by_look Free others = None
number_by_look (Own i) others = Some i
number_by_look Taken others = others

-- what stands in the slot for a hash
abbrev pub slot_for : Index → ℕ → Option ℕ
slot_for index hash = slice_get index.slots.items (slot_of (length index.slots.items) hash)

-- the number of a name by its second slot and the trees
abbrev pub number_behind_slot : List (List ℕ) → Index → List ℕ → Option ℕ
number_behind_slot names index name = number_by_slot names (slot_for index (second_hash_of name)) (number_by_trees names index.trees name) name

-- the number of a name by an index
abbrev pub number_by_index : List (List ℕ) → Index → List ℕ → Option ℕ
number_by_index names index name = number_by_slot names (slot_for index (hash_of name)) (number_behind_slot names index name) name

-- a number is that of a name
abbrev pub IsNumber : List (List ℕ) → ℕ → Type 0
IsNumber names i = (name : List ℕ) × (slice_get names i ≡ Some name) × (number_among names name ≡ Some i)

pub record IsIndex (names : List (List ℕ)) (index : Index) : Type 0 where
  pub slots : (k i : ℕ) → slice_get index.slots.items k ≡ Some i → (i ≡ free) ⊎ IsNumber names i
  pub within : AreWithin names index.trees
  pub true_of : (name : List ℕ) → IsTrueOf names name (number_by_trees names index.trees name)
  pub found : (name : List ℕ) → number_by_index names index name ≡ number_among names name

-- an index of names, which gets one more name of this number, becomes an index of them all
abbrev pub Adds : Index → Index → List ℕ → ℕ → Type 0
Adds old new name number =
    (names : List (List ℕ)) → IsIndex names old → length names ≡ number → number_among names name ≡ None → IsIndex (names ++ name ∷ []) new

pub record IsNameTable (names : List (List ℕ)) (index : Index) : Type 0 where
  pub distinct : are_distinct names ≡ true
  pub small : length names < 2 ^ 32
  pub indexed : IsIndex names index
