-- What items say, and whether they have a fault, does not depend on their places.
use Rattle.std.proofs.Common.{◌≡◌, ℕ, zero, suc, ◌+◌, ◌||◌, Bool, true, false, cond, List, [], ◌∷◌, ◌++◌, length, codes, Option, Some, None, Ok, Err, refl, ap, ap₂, sym, ◌∙◌, arith, nat_eq}
use Rattle.std.specs.Result.{result_ok}
use Rattle.std.specs.Str.{bytes_eq}
use Rattle.std.proofs.lemmas.List.{length-append}
use Rattle.sexp_core.specs.Items.{Item, a_word, a_list, Items, no_items, item}
use Rattle.sexp_core.specs.Printed.{bare, placeless}
use Rattle.trs_defs.specs.System.{RewriteRule}
use Rattle.numerals.specs.Numerals.{digits_value}
use Rattle.text_reading.specs.Reading.{place_of}
use Rattle.names_text.specs.declared.table.Symbol.{Symbol}
use Rattle.names_text.specs.Symbols.{Declared, symbol_named}
use Rattle.term_text.specs.Checked.{Checked}
use Rattle.term_text.specs.Terms.{variables_after, term}
use Rattle.term_text.specs.Limits.{nodes_of, nodes_of_all}
use Rattle.term_text.proofs.CheckedParts.{ok_same}
use Rattle.term_text.proofs.PlacelessTerms.{same_values, variables_bare, term_bare}
use Rattle.ari_text.specs.declared.fault.AriFault.{AriFault}
use Rattle.ari_text.specs.declared.fault.AriFault.TheVariants as fault
use Rattle.ari_text.specs.Entries.{Saying, declares, rewrites, attributed, says_nothing, declaration, three, begins_with_colon, ended, list_entry, entry_of}
use Rattle.ari_text.specs.Rules.{both_sides, rule, with_rule, rules_of}
use Rattle.ari_text.specs.Faults.{deep_faults, all_deep_faults, lone_faults, left_faults, side_faults, all_side_faults, twice_faults, arity_faults, declaration_faults, symbols_after, symbols_of, Room, whole_room, room_after, passes, count_faults, all_declaration_faults}
use Rattle.ari_text.specs.Problem.{is_trs, format_fault}

-- ---- sayings

-- what an item says, with 0 for each place
abbrev pub bare_saying : Saying → Saying
bare_saying (declares name q arity r) = declares name 0 arity 0
bare_saying (rewrites left right) = rewrites (bare left) (bare right)
bare_saying (attributed s at) = attributed (bare_saying s) 0
bare_saying says_nothing = says_nothing

cond_saying : (b : Bool) (s t : Saying) → cond b (bare_saying s) (bare_saying t) ≡ bare_saying (cond b s t)
cond_saying true s t = refl
cond_saying false s t = refl

declaration_bare : (x y : Item) → declaration (bare x) (bare y) ≡ bare_saying (declaration x y)
declaration_bare (a_word n p) (a_word a q) = refl
declaration_bare (a_word n p) (a_list ys q) = refl
declaration_bare (a_list xs p) y = refl

three_bare : (head : List ℕ) (x y : Item) → three head (bare x) (bare y) ≡ bare_saying (three head x y)
three_bare head x y =
    ap₂ (cond (bytes_eq head (codes "fun"))) (declaration_bare x y) (cond_saying (bytes_eq head (codes "rule")) (rewrites x y) says_nothing)
    ∙ cond_saying (bytes_eq head (codes "fun")) (declaration x y) (cond (bytes_eq head (codes "rule")) (rewrites x y) says_nothing)

ended_bare : (s : Saying) (more : Items) → ended (bare_saying s) (placeless more) ≡ bare_saying (ended s more)
ended_bare s no_items = refl
ended_bare s (item (a_list xs q) more) = refl
ended_bare s (item (a_word w q) more) = cond_saying (begins_with_colon w) (attributed s q) says_nothing

list_entry_bare : (xs : Items) → list_entry (placeless xs) ≡ bare_saying (list_entry xs)
list_entry_bare no_items = refl
list_entry_bare (item (a_list ys p) xs) = refl
list_entry_bare (item (a_word h p) no_items) = refl
list_entry_bare (item (a_word h p) (item x no_items)) = refl
list_entry_bare (item (a_word h p) (item x (item y more))) =
    ap (λ (s : Saying). ended s (placeless more)) (three_bare h x y) ∙ ended_bare (three h x y) more

entry_bare : (x : Item) → entry_of (bare x) ≡ bare_saying (entry_of x)
entry_bare (a_word w p) = refl
entry_bare (a_list xs p) = list_entry_bare xs

-- ---- rules

rule_bare : (symbols : List Declared) (left right : Item) → result_ok (rule symbols (bare left) (bare right)) ≡ result_ok (rule symbols left right)
rule_bare symbols left right =
    same_values both_sides (term true symbols [] (bare left)) (term true symbols [] left)
    (term false symbols (variables_after true symbols [] (bare left)) (bare right)) (term false symbols (variables_after true symbols [] left) right)
    (term_bare true symbols [] left)
    (ap (λ vs. result_ok (term false symbols vs (bare right))) (variables_bare true symbols [] left) ∙ term_bare false symbols (variables_after true symbols [] left) right)

with_rule_bare : (symbols : List Declared) (s : Saying) (more more' : Checked (List RewriteRule)) → result_ok more ≡ result_ok more'
    → result_ok (with_rule symbols (bare_saying s) more) ≡ result_ok (with_rule symbols s more')
with_rule_bare symbols (declares name q arity r) more more' e = e
with_rule_bare symbols (rewrites left right) more more' e =
    same_values (λ r rs. r ∷ rs) (rule symbols (bare left) (bare right)) (rule symbols left right) more more' (rule_bare symbols left right) e
with_rule_bare symbols (attributed s at) more more' e = with_rule_bare symbols s more more' e
with_rule_bare symbols says_nothing more more' e = e

all_rules_bare : (symbols : List Declared) (xs : Items) → result_ok (rules_of symbols (placeless xs)) ≡ result_ok (rules_of symbols xs)
all_rules_bare symbols no_items = refl
all_rules_bare symbols (item x xs) =
    ap (λ s. result_ok (with_rule symbols s (rules_of symbols (placeless xs)))) (entry_bare x)
    ∙ with_rule_bare symbols (entry_of x) (rules_of symbols (placeless xs)) (rules_of symbols xs) (all_rules_bare symbols xs)

value_is : {A : Type 0} (r q : Checked A) (x : A) → result_ok r ≡ result_ok q → r ≡ Ok x → q ≡ Ok x
value_is (Ok y) (Ok z) x e h = let same : y ≡ z = cc in ap Ok (sym same ∙ ok_same y x h)
value_is (Ok y) (Err q) x e h = absurd cc
value_is (Err p) q x e h = absurd cc

-- the rules that are read without the places are read with them
pub rules_bare : (symbols : List Declared) (xs : Items) (rules : List RewriteRule) → rules_of symbols (placeless xs) ≡ Ok rules → rules_of symbols xs ≡ Ok rules
rules_bare symbols xs rules e = value_is (rules_of symbols (placeless xs)) (rules_of symbols xs) rules (all_rules_bare symbols xs) e

-- ---- symbols

symbols_after_bare : (symbols : List Declared) (s : Saying) → symbols_after symbols (bare_saying s) ≡ symbols_after symbols s
symbols_after_bare symbols (declares name q arity r) = refl
symbols_after_bare symbols (rewrites left right) = refl
symbols_after_bare symbols (attributed s at) = refl
symbols_after_bare symbols says_nothing = refl

symbols_entry : (symbols : List Declared) (x : Item) → symbols_after symbols (entry_of (bare x)) ≡ symbols_after symbols (entry_of x)
symbols_entry symbols x = ap (symbols_after symbols) (entry_bare x) ∙ symbols_after_bare symbols (entry_of x)

pub symbols_bare : (symbols : List Declared) (xs : Items) → symbols_of symbols (placeless xs) ≡ symbols_of symbols xs
symbols_bare symbols no_items = refl
symbols_bare symbols (item x xs) =
    ap (λ ss. symbols_of ss (placeless xs)) (symbols_entry symbols x) ∙ symbols_bare (symbols_after symbols (entry_of x)) xs

-- ---- as many faults

both_lengths : (as' bs cs ds : List AriFault) → length as' ≡ length bs → length cs ≡ length ds → length (as' ++ cs) ≡ length (bs ++ ds)
both_lengths as' bs cs ds e f = length-append as' cs ∙ ap₂ (λ m n. m + n) e f ∙ sym (length-append bs ds)

one_if : (b : Bool) (f g : AriFault) → length (cond b (f ∷ []) []) ≡ length (cond b (g ∷ []) [])
one_if true f g = refl
one_if false f g = refl

mutual
  deep_bare : (n : ℕ) (x : Item) → length (deep_faults n (bare x)) ≡ length (deep_faults n x)
  deep_bare zero x = refl
  deep_bare (suc n) (a_word w p) = refl
  deep_bare (suc n) (a_list no_items p) = refl
  deep_bare (suc n) (a_list (item h args) p) = all_deep_bare n args

  all_deep_bare : (n : ℕ) (xs : Items) → length (all_deep_faults n (placeless xs)) ≡ length (all_deep_faults n xs)
  all_deep_bare n no_items = refl
  all_deep_bare n (item x xs) = both_lengths _ _ _ _ (deep_bare n x) (all_deep_bare n xs)

lone_at : (p q : ℕ) (o : Option Symbol) → length (lone_faults p o) ≡ length (lone_faults q o)
lone_at p q None = refl
lone_at p q (Some s) = refl

left_faults_bare : (symbols : List Declared) (x : Item) → length (left_faults symbols (bare x)) ≡ length (left_faults symbols x)
left_faults_bare symbols (a_list xs p) = refl
left_faults_bare symbols (a_word w p) = lone_at 0 p (symbol_named symbols w)

side_faults_bare : (symbols : List Declared) (s : Saying) → length (side_faults symbols (bare_saying s)) ≡ length (side_faults symbols s)
side_faults_bare symbols (declares name q arity r) = refl
side_faults_bare symbols (rewrites left right) =
    both_lengths _ _ _ _ (left_faults_bare symbols left) (both_lengths _ _ _ _ (deep_bare 256 left) (deep_bare 256 right))
side_faults_bare symbols (attributed s at) = side_faults_bare symbols s
side_faults_bare symbols says_nothing = refl

twice_at : (p q : ℕ) (o : Option Symbol) → length (twice_faults p o) ≡ length (twice_faults q o)
twice_at p q None = refl
twice_at p q (Some n) = refl

arity_at : (p q : ℕ) (o : Option ℕ) → length (arity_faults p o) ≡ length (arity_faults q o)
arity_at p q None = refl
arity_at p q (Some n) = refl

declaration_faults_bare : (symbols : List Declared) (p : ℕ) (s : Saying) → length (declaration_faults symbols 0 (bare_saying s)) ≡ length (declaration_faults symbols p s)
declaration_faults_bare symbols p (declares name q arity r) =
    both_lengths _ _ _ _ (twice_at 0 q (symbol_named symbols name)) (arity_at 0 r (digits_value 255 arity))
declaration_faults_bare symbols p (rewrites left right) = refl
declaration_faults_bare symbols p (attributed s at) = both_lengths _ _ (fault.Attribute 0 ∷ []) (fault.Attribute at ∷ []) (declaration_faults_bare symbols p s) refl
declaration_faults_bare symbols p says_nothing = refl

mutual
  nodes_bare : (x : Item) → nodes_of (bare x) ≡ nodes_of x
  nodes_bare (a_word w p) = refl
  nodes_bare (a_list no_items p) = refl
  nodes_bare (a_list (item h args) p) = ap (λ n. 1 + n) (all_nodes_bare args)

  all_nodes_bare : (xs : Items) → nodes_of_all (placeless xs) ≡ nodes_of_all xs
  all_nodes_bare no_items = refl
  all_nodes_bare (item x xs) = ap₂ (λ m n. m + n) (nodes_bare x) (all_nodes_bare xs)

room_bare : (room : Room) (s : Saying) → room_after room (bare_saying s) ≡ room_after room s
room_bare room (declares name q arity r) = refl
room_bare room (rewrites left right) = rw (nodes_bare left, nodes_bare right) refl
room_bare room (attributed s at) = room_bare room s
room_bare room says_nothing = refl

count_faults_bare : (room : Room) (p : ℕ) (s : Saying) → length (count_faults room 0 (bare_saying s)) ≡ length (count_faults room p s)
count_faults_bare room p (declares name q arity r) = one_if (nat_eq room.funs 1) (fault.TooMany 0) (fault.TooMany p)
count_faults_bare room p (rewrites left right) =
    rw (nodes_bare left, nodes_bare right) (one_if (nat_eq room.rules 1 || passes (nodes_of left + nodes_of right) room.nodes) (fault.TooMany 0) (fault.TooMany p))
count_faults_bare room p (attributed s at) = count_faults_bare room p s
count_faults_bare room p says_nothing = refl

place_bare : (x : Item) → place_of (bare x) ≡ 0
place_bare (a_word w p) = refl
place_bare (a_list xs p) = refl

all_declaration_faults_bare : (symbols : List Declared) (room : Room) (xs : Items)
    → length (all_declaration_faults symbols room (placeless xs)) ≡ length (all_declaration_faults symbols room xs)
all_declaration_faults_bare symbols room no_items = refl
all_declaration_faults_bare symbols room (item x xs) =
    rw (entry_bare x, place_bare x)
    (both_lengths _ _ _ _
    (both_lengths _ _ _ _ (count_faults_bare room (place_of x) (entry_of x)) (declaration_faults_bare symbols (place_of x) (entry_of x)))
    (ap₂ (λ ss r. length (all_declaration_faults ss r (placeless xs))) (symbols_after_bare symbols (entry_of x)) (room_bare room (entry_of x))
    ∙ all_declaration_faults_bare (symbols_after symbols (entry_of x)) (room_after room (entry_of x)) xs))

all_side_faults_bare : (symbols : List Declared) (xs : Items) → length (all_side_faults symbols (placeless xs)) ≡ length (all_side_faults symbols xs)
all_side_faults_bare symbols no_items = refl
all_side_faults_bare symbols (item x xs) =
    both_lengths _ _ _ _ (ap (λ s. length (side_faults symbols s)) (entry_bare x) ∙ side_faults_bare symbols (entry_of x)) (all_side_faults_bare symbols xs)

no_faults : (fs : List AriFault) → length fs ≡ 0 → fs ≡ []
no_faults [] e = refl
no_faults (f ∷ fs) e = absurd (omega arith)

-- items have no such fault where they have none without their places
pub declarations_bare : (xs : Items) → all_declaration_faults [] whole_room (placeless xs) ≡ [] → all_declaration_faults [] whole_room xs ≡ []
declarations_bare xs e = no_faults _ (sym (all_declaration_faults_bare [] whole_room xs) ∙ ap length e)

pub sides_bare : (symbols : List Declared) (xs : Items) → all_side_faults symbols (placeless xs) ≡ [] → all_side_faults symbols xs ≡ []
sides_bare symbols xs e = no_faults _ (sym (all_side_faults_bare symbols xs) ∙ ap length e)

-- ---- the format

trs_bare : (xs : Items) → is_trs (placeless xs) ≡ is_trs xs
trs_bare no_items = refl
trs_bare (item (a_list ys p) xs) = refl
trs_bare (item (a_word w p) no_items) = refl
trs_bare (item (a_word w p) (item x xs)) = refl

format_behind : (a b : Bool) (p q : ℕ) → cond a (cond b None (Some (fault.OtherFormat p))) (Some fault.NoFormat) ≡ None
    → cond a (cond b None (Some (fault.OtherFormat q))) (Some fault.NoFormat) ≡ None
format_behind true true p q e = refl
format_behind true false p q e = absurd cc
format_behind false b p q e = absurd cc

pub format_bare : (x : Item) → format_fault (bare x) ≡ None → format_fault x ≡ None
format_bare (a_word w p) e = absurd cc
format_bare (a_list no_items p) e = absurd cc
format_bare (a_list (item (a_list ys q) xs) p) e = absurd cc
format_bare (a_list (item (a_word w q) xs) p) e = format_behind (bytes_eq w (codes "format")) (is_trs xs) 0 p (rw (trs_bare xs) at e)
