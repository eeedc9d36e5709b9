-- Items that are read one after another, each by what was read of those before it.
use Rattle.std.specs.Prelude.{ℕ, suc, nat_le, List, [], ◌∷◌, Ok, Err, if◌then◌else◌}
use Rattle.sexp_core.specs.Items.{Item, Items, no_items, item}
use Rattle.text_reading.specs.Reading.{Read, ◌<*>◌, place_of}
use Rattle.text_reading.specs.Numbers.{number}

-- a value, and those of the items behind; behind an item that is refused no place is less
abbrev pub before_others : {A : Type 0} → Read A → (A → Read (List A)) → Read (List A)
before_others (Ok a) others = Ok (λ as'. a ∷ as') <*> others a
before_others (Err p) others = Err p

-- each item is read by a state, which is the next one behind it
abbrev pub in_turn : {S A : Type 0} → (S → A → S) → (S → Item → Read A) → Items → S → Read (List A)
in_turn next read no_items state = Ok []
in_turn next read (item x xs) state = before_others (read state x) (λ a. in_turn next read xs (next state a))

-- what holds of each value, by the state at it
abbrev pub AllInTurn : {S A : Type 0} → (S → A → S) → (S → A → Type 0) → List A → S → Type 0
AllInTurn next P [] state = Unit {0}
AllInTurn next P (a ∷ as') state = P state a × AllInTurn next P as' (next state a)

-- ---- numbers that ascend strictly

abbrev pub number_that : ℕ → ℕ → Read ℕ → Read ℕ
number_that low at (Ok n) = if nat_le low n then Ok n else Err at
number_that low at (Err p) = Err p

-- a number from low up to the limit
abbrev pub number_from : ℕ → ℕ → Item → Read ℕ
number_from limit low x = number_that low (place_of x) (number limit x)

-- the least number that may come next
abbrev pub above : ℕ → ℕ → ℕ
above low n = suc n

-- numbers from low up to the limit, each greater than the one before it
abbrev pub ascending : ℕ → Items → ℕ → Read (List ℕ)
ascending limit xs low = in_turn above (number_from limit) xs low
