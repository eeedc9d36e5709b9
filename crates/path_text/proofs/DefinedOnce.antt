-- What is read of a definition: its word is new, and its path has its weight.
use Rattle.std.proofs.Common.{◌≡◌, ℕ, Bool, true, false, cond, List, [], ◌∷◌, length, Some, Ok, Err, IfOk, ◌<◌, arith, refl, sym, ap, ◌∙◌}
use Rattle.sexp_core.specs.Items.{Item, a_word, a_list, Items, no_items, item, views}
use Rattle.sexp_core.specs.declared.sexp.Sexp.{Sexp}
use Rattle.trs_defs.specs.Path.{PlacedRule}
use Rattle.text_reading.specs.Reading.{Read, ◌<*>◌, ended}
use Rattle.text_reading.specs.Seen.{seen}
use Rattle.text_reading.proofs.Made.{ok_same}
use Rattle.path_text.specs.declared.sharing.Shared.{Shared}
use Rattle.path_text.specs.Sharing.{Definition, behind_read, with_definition}
use Rattle.path_text.specs.Defining.{is_defined, new_word, definition, define}
use Rattle.path_text.specs.Defined.{one_more_defined}

parts_read : (h : Read (Unit {0})) (w : Read (List ℕ)) (p : Read (List PlacedRule)) (more : Items) (e : Definition) → ended (Ok definition <*> h <*> w <*> p) more ≡ Ok e
    → (w ≡ Ok e.0) × (p ≡ Ok e.1)
parts_read (Ok u) (Ok v) (Ok q) no_items e is = let same : (v, q) ≡ e = ok_same (v, q) e is in (ap (λ (d : Definition). (let x : Read (List ℕ) = Ok d.0 in x)) same, ap (λ (d : Definition). (let x : Read (List PlacedRule) = Ok d.1 in x)) same)
parts_read (Ok u) (Ok v) (Ok q) (item y ys) e is = absurd cc
parts_read (Ok u) (Ok v) (Err r) no_items e is = absurd cc
parts_read (Ok u) (Ok v) (Err r) (item y ys) e is = absurd cc
parts_read (Ok u) (Err p) (Ok q) no_items e is = absurd cc
parts_read (Ok u) (Err p) (Ok q) (item y ys) e is = absurd cc
parts_read (Ok u) (Err p) (Err r) no_items e is = absurd cc
parts_read (Ok u) (Err p) (Err r) (item y ys) e is = absurd cc
parts_read (Err o) (Ok v) (Ok q) no_items e is = absurd cc
parts_read (Err o) (Ok v) (Ok q) (item y ys) e is = absurd cc
parts_read (Err o) (Ok v) (Err r) no_items e is = absurd cc
parts_read (Err o) (Ok v) (Err r) (item y ys) e is = absurd cc
parts_read (Err o) (Err p) (Ok q) no_items e is = absurd cc
parts_read (Err o) (Err p) (Ok q) (item y ys) e is = absurd cc
parts_read (Err o) (Err p) (Err r) no_items e is = absurd cc
parts_read (Err o) (Err p) (Err r) (item y ys) e is = absurd cc

word_is_new : (definitions : List Definition) (x : Item) (w : List ℕ) → new_word definitions x ≡ Ok w → is_defined definitions w ≡ false
word_is_new definitions (a_list xs at) w e = absurd cc
word_is_new definitions (a_word v at) w e = by_test (is_defined definitions v) refl e
  where
    by_test : (b : Bool) → is_defined definitions v ≡ b → cond b (Err at) (Ok v) ≡ Ok w → is_defined definitions w ≡ false
    by_test true is e = absurd cc
    by_test false is e = ap (is_defined definitions) (sym (ok_same v w e)) ∙ is

module _ (shared mid : Shared) (h : Read (Unit {0})) (x : Item) (p : Read (List PlacedRule)) (more : Items) (left : Some mid ≡ behind_read (Some shared) p) where
  same_definitions : (q : Read (List PlacedRule)) → Some mid ≡ behind_read (Some shared) q → mid.definitions ≡ shared.definitions
  same_definitions (Ok q) e = cc
  same_definitions (Err at) e = cc

  pub read_is_new : (d : Read Definition) → d ≡ ended (Ok definition <*> h <*> new_word shared.definitions x <*> p) more → IfOk d (λ e. is_defined mid.definitions e.0 ≡ false)
  read_is_new (Err at) is = tt
  read_is_new (Ok e) is =
      let (word, path) = parts_read h (new_word shared.definitions x) p more e (sym is) in
      ap (λ (ds : List Definition). is_defined ds e.0) (same_definitions p left) ∙ word_is_new shared.definitions x e.0 word

  pub read_is_added : (d : Read Definition) → d ≡ ended (Ok definition <*> h <*> new_word shared.definitions x <*> p) more → seen (one_more_defined mid) d ≡ seen (with_definition shared) d
  read_is_added (Err at) is = refl
  read_is_added (Ok e) is =
      let (word, path) = parts_read h (new_word shared.definitions x) p more e (sym is) in
      let mid_is = left ∙ ap (behind_read (Some shared)) path in
      cc

-- a list that lacks a member
pub define_lacks : (shared : Shared) (at : ℕ) (xs : List Sexp) → length xs < 3 → define shared (a_list (views xs) at) ≡ Err at
define_lacks shared at [] lt = refl
define_lacks shared at (x ∷ []) lt = refl
define_lacks shared at (x ∷ y ∷ []) lt = refl
define_lacks shared at (x ∷ y ∷ z ∷ zs) lt = absurd (omega (arith, lt))

pub if_seen : {X A : Type 0} (view : X → A) (P : A → Type 0) (r : Read X) → IfOk (seen view r) P → IfOk r (λ x. P (view x))
if_seen view P (Ok x) h = h
if_seen view P (Err p) h = tt

pub seen_twice : {X A B : Type 0} (f : A → B) (view : X → A) (r : Read X) → seen (λ x. f (view x)) r ≡ seen f (seen view r)
seen_twice f view (Ok x) = refl
seen_twice f view (Err p) = refl
