-- No fault of items is one of the text.
use Rattle.std.proofs.Common.{◌≡◌, ℕ, zero, suc, ◌+◌, ◌==◌, ◌||◌, Bool, true, false, cond, List, [], ◌∷◌, ◌++◌, Option, Some, None, Ok, Err, inl, inr, sym, subst}
use Rattle.std.specs.Option.{option_or}
use Rattle.std.specs.Prelude.{codes}
use Rattle.std.specs.Str.{bytes_eq}
use Rattle.sexp_core.specs.Items.{Item, a_word, a_list, Items, no_items, item}
use Rattle.numerals.specs.Numerals.{digits_value}
use Rattle.text_reading.specs.Reading.{place_of}
use Rattle.names_text.specs.declared.table.Symbol.{Symbol}
use Rattle.names_text.specs.Symbols.{Declared, symbol_named}
use Rattle.term_text.specs.declared.fault.TermFault.{TermFault}
use Rattle.term_text.specs.declared.fault.TermFault.TheVariants.{EmptyList, ListAsHead, Undeclared, ArgumentLacks, ArgumentExtra, LoneSymbol, NewVariable}
use Rattle.term_text.specs.Checked as checked
use Rattle.term_text.specs.Checked.{Faults, a_fault, Checked}
use Rattle.term_text.specs.Limits.{nodes_of}
use Rattle.ari_text.specs.declared.fault.AriFault.{AriFault}
use Rattle.ari_text.specs.declared.fault.AriFault.TheVariants as fault
use Rattle.ari_text.specs.Entries.{Saying, declares, rewrites, attributed, says_nothing, entry_of}
use Rattle.ari_text.specs.Rules.{rules_of}
use Rattle.ari_text.specs.Least.{noted, IsAmong}
use Rattle.ari_text.specs.Faults.{ari_fault, ari_faults, faults_in, deep_faults, all_deep_faults, left_faults, lone_faults, side_faults, all_side_faults, twice_faults, arity_faults, declaration_faults, symbols_after, symbols_of, Room, whole_room, room_after, passes, count_faults, all_declaration_faults, faults_of}
use Rattle.ari_text.specs.Problem.{is_trs, format_list_fault, format_fault, problem_fault}
use Rattle.ari_text.proofs.Leasts.{is_among}

-- a fault that is not one of the text
abbrev pub IsOfItems : AriFault → Type 0
IsOfItems (fault.Text f) = ⊥
IsOfItems fault.NoFormat = Unit {0}
IsOfItems (fault.OtherFormat p) = Unit {0}
IsOfItems (fault.BadItem p) = Unit {0}
IsOfItems (fault.Twice p) = Unit {0}
IsOfItems (fault.BadArity p) = Unit {0}
IsOfItems (fault.Unknown p) = Unit {0}
IsOfItems (fault.WrongArity p) = Unit {0}
IsOfItems (fault.LeftIsVariable p) = Unit {0}
IsOfItems (fault.ExtraVariable p) = Unit {0}
IsOfItems (fault.Attribute p) = Unit {0}
IsOfItems (fault.TooMany p) = Unit {0}
IsOfItems (fault.TooDeep p) = Unit {0}
IsOfItems fault.OutOfMemory = Unit {0}

abbrev AreOfItems : List AriFault → Type 0
AreOfItems [] = Unit {0}
AreOfItems (f ∷ fs) = IsOfItems f × AreOfItems fs

both : (fs gs : List AriFault) → AreOfItems fs → AreOfItems gs → AreOfItems (fs ++ gs)
both [] gs h k = k
both (f ∷ fs) gs h k = (h.0, both fs gs h.1 k)

of_test : (b : Bool) (fs gs : List AriFault) → AreOfItems fs → AreOfItems gs → AreOfItems (cond b fs gs)
of_test true fs gs h k = h
of_test false fs gs h k = k

of_term_fault : (f : TermFault) → IsOfItems (ari_fault f)
of_term_fault (EmptyList at) = tt
of_term_fault (ListAsHead at head_at) = tt
of_term_fault (Undeclared head_at) = tt
of_term_fault (ArgumentLacks at) = tt
of_term_fault (ArgumentExtra at extra_at) = tt
of_term_fault (LoneSymbol at) = tt
of_term_fault (NewVariable at) = tt

of_faults : (ps : Faults) → AreOfItems (ari_faults ps)
of_faults (a_fault f) = (of_term_fault f, tt)
of_faults (checked.both ps qs) = both (ari_faults ps) _ (of_faults ps) (of_faults qs)

of_read : {A : Type 0} (r : Checked A) → AreOfItems (faults_in r)
of_read (Ok x) = tt
of_read (Err ps) = of_faults ps

mutual
  of_deep : (n : ℕ) (x : Item) → AreOfItems (deep_faults n x)
  of_deep zero x = (tt, tt)
  of_deep (suc n) (a_word name at) = tt
  of_deep (suc n) (a_list no_items at) = tt
  of_deep (suc n) (a_list (item head args) at) = of_all_deep n args

  of_all_deep : (n : ℕ) (xs : Items) → AreOfItems (all_deep_faults n xs)
  of_all_deep n no_items = tt
  of_all_deep n (item x xs) = both (deep_faults n x) _ (of_deep n x) (of_all_deep n xs)

of_lone : (at : ℕ) (symbol : Option Symbol) → AreOfItems (lone_faults at symbol)
of_lone at None = (tt, tt)
of_lone at (Some s) = tt

of_left : (symbols : List Declared) (left : Item) → AreOfItems (left_faults symbols left)
of_left symbols (a_word name at) = of_lone at (symbol_named symbols name)
of_left symbols (a_list members at) = tt

of_sides : (symbols : List Declared) (s : Saying) → AreOfItems (side_faults symbols s)
of_sides symbols (declares name q arity r) = tt
of_sides symbols (rewrites left right) =
    both (left_faults symbols left) _ (of_left symbols left) (both (deep_faults 256 left) _ (of_deep 256 left) (of_deep 256 right))
of_sides symbols (attributed s at) = of_sides symbols s
of_sides symbols says_nothing = tt

of_twice : (at : ℕ) (symbol : Option Symbol) → AreOfItems (twice_faults at symbol)
of_twice at None = tt
of_twice at (Some n) = (tt, tt)

of_arity : (at : ℕ) (value : Option ℕ) → AreOfItems (arity_faults at value)
of_arity at None = (tt, tt)
of_arity at (Some n) = tt

of_declaration : (symbols : List Declared) (at : ℕ) (s : Saying) → AreOfItems (declaration_faults symbols at s)
of_declaration symbols at (declares name q arity r) =
    both (twice_faults q (symbol_named symbols name)) _ (of_twice q (symbol_named symbols name)) (of_arity r (digits_value 255 arity))
of_declaration symbols at (rewrites left right) = tt
of_declaration symbols at (attributed s q) = both (declaration_faults symbols at s) _ (of_declaration symbols at s) (tt, tt)
of_declaration symbols at says_nothing = (tt, tt)

of_count : (room : Room) (at : ℕ) (s : Saying) → AreOfItems (count_faults room at s)
of_count room at (declares name q arity r) = of_test (room.funs == 1) _ _ (tt, tt) tt
of_count room at (rewrites left right) = of_test (room.rules == 1 || passes (nodes_of left + nodes_of right) room.nodes) _ _ (tt, tt) tt
of_count room at (attributed s q) = of_count room at s
of_count room at says_nothing = tt

of_declarations : (symbols : List Declared) (room : Room) (xs : Items) → AreOfItems (all_declaration_faults symbols room xs)
of_declarations symbols room no_items = tt
of_declarations symbols room (item x xs) =
    both (count_faults room (place_of x) (entry_of x) ++ declaration_faults symbols (place_of x) (entry_of x)) _
    (both (count_faults room (place_of x) (entry_of x)) _ (of_count room (place_of x) (entry_of x)) (of_declaration symbols (place_of x) (entry_of x)))
    (of_declarations (symbols_after symbols (entry_of x)) (room_after room (entry_of x)) xs)

of_all_sides : (symbols : List Declared) (xs : Items) → AreOfItems (all_side_faults symbols xs)
of_all_sides symbols no_items = tt
of_all_sides symbols (item x xs) = both (side_faults symbols (entry_of x)) _ (of_sides symbols (entry_of x)) (of_all_sides symbols xs)

of_all : (xs : Items) → AreOfItems (faults_of xs)
of_all xs =
    both (all_declaration_faults [] whole_room xs) _ (of_declarations [] whole_room xs)
    (both (all_side_faults (symbols_of [] xs) xs) _ (of_all_sides (symbols_of [] xs) xs) (of_read (rules_of (symbols_of [] xs) xs)))

among : (f : AriFault) (fs : List AriFault) → IsAmong f fs → AreOfItems fs → IsOfItems f
among f [] h k = absurd h
among f (g ∷ gs) (inl e) k = subst IsOfItems (sym e) k.0
among f (g ∷ gs) (inr h) k = among f gs h k.1

of_format_test : (b : Bool) (at : ℕ) (f : AriFault) → cond b None (Some (fault.OtherFormat at)) ≡ Some f → IsOfItems f
of_format_test true at f e = absurd cc
of_format_test false at f e = let same : fault.OtherFormat at ≡ f = cc in subst IsOfItems same tt

no_format : (f : AriFault) → Some fault.NoFormat ≡ Some f → IsOfItems f
no_format f e = let same : fault.NoFormat ≡ f = cc in subst IsOfItems same tt

of_head_test : (b c : Bool) (at : ℕ) (f : AriFault) → cond b (cond c None (Some (fault.OtherFormat at))) (Some fault.NoFormat) ≡ Some f → IsOfItems f
of_head_test true c at f e = of_format_test c at f e
of_head_test false c at f e = no_format f e

of_format_list : (at : ℕ) (xs : Items) (f : AriFault) → format_list_fault at xs ≡ Some f → IsOfItems f
of_format_list at no_items f e = no_format f e
of_format_list at (item (a_list ys p) more) f e = no_format f e
of_format_list at (item (a_word w p) more) f e = of_head_test (bytes_eq w (codes "format")) (is_trs more) at f e

of_format : (x : Item) (f : AriFault) → format_fault x ≡ Some f → IsOfItems f
of_format (a_word w p) f e = no_format f e
of_format (a_list xs p) f e = of_format_list p xs f e

of_either : (o p : Option AriFault) (f : AriFault) → (o ≡ Some f → IsOfItems f) → (p ≡ Some f → IsOfItems f) → option_or o p ≡ Some f → IsOfItems f
of_either None p f h k e = k e
of_either (Some g) p f h k e = h e

-- the fault of items is not one of the text
pub of_problem : (xs : Items) (f : AriFault) → problem_fault xs ≡ Some f → IsOfItems f
of_problem no_items f e = no_format f e
of_problem (item x xs) f e =
    of_either (format_fault x) (noted None (faults_of xs)) f (of_format x f) (λ k. among f (faults_of xs) (is_among (faults_of xs) f k) (of_all xs)) e
