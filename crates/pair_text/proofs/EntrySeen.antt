-- Entries, as the code sees them.
use Rattle.std.proofs.Common.{◌≡◌, ℕ, zero, suc, ◌+◌, ◌<◌, Bool, true, false, cond, List, [], ◌∷◌, length, Ok, Err, refl, ap, ◌∙◌, arith}
use Rattle.sexp_core.specs.declared.sexp.Sexp.{Sexp}
use Rattle.sexp_core.specs.Items.{Item, a_list, Items, item, view, views}
use Rattle.names_text.specs.Named.{NamedSystem}
use Rattle.names_text.specs.declared.table.Symbol.{Symbol}
use Rattle.text_reading.specs.Reading.{Read, Form}
use Rattle.pair_text.specs.LongLists.{lacks}
use Rattle.pair_text.specs.Symbols.{marked_symbol}
use Rattle.pair_text.specs.Entries.{new_symbol, by_symbol, entry}
use Rattle.pair_text.proofs.LongListLaws.{lacking_views}

module _ {B : Type 0} (named : NamedSystem) (least : ℕ) (more : Symbol → Form B) (known : List ℕ) where
  -- a list that lacks a member
  pub entry_lacks : (at : ℕ) (xs : List Sexp) → length xs < least + 2 → entry named least more known (a_list (views xs) at) ≡ Err at
  entry_lacks at [] lt = refl
  entry_lacks at (x ∷ []) lt = refl
  entry_lacks at (x ∷ y ∷ ys) lt =
      ap (λ (b : Bool). cond b (Err at) (by_symbol (new_symbol known at (marked_symbol named (view x) (view y))) more at (views ys))) (lacking_views least ys (omega arith))

  -- the members behind the symbol, whether it is read or refused
  pub entry_seen : (x head name : Item) (xs : Items) (at : ℕ) (r : Read Symbol) → x ≡ a_list (item head (item name xs)) at → lacks least xs ≡ false
      → r ≡ new_symbol known at (marked_symbol named head name) → entry named least more known x ≡ by_symbol r more at xs
  entry_seen x head name xs at r shape long is =
      ap (entry named least more known) shape
      ∙ ap (λ (b : Bool). cond b (Err at) (by_symbol (new_symbol known at (marked_symbol named head name)) more at xs)) long
      ∙ ap (λ (q : Read Symbol). by_symbol q more at xs) (let back : new_symbol known at (marked_symbol named head name) ≡ r = cc in back)
