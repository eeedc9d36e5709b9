-- What the rules of items are that were read without a fault.
use Rattle.std.proofs.Common.{◌≡◌, inl, inr, ℕ, zero, suc, ◌==◌, Bool, cond, ◌<◌, ◌≤◌, true, false, nat_le, List, [], ◌∷◌, length, Option, Some, None, Ok, Err, IsTrue, refl, ap, subst, ◌∙◌, arith}
use Rattle.std.proofs.lemmas.Bool.{and_from, le-leb}
use Rattle.sexp_core.specs.Items.{Item, a_word, a_list, Items, no_items, item}
use Rattle.trs_defs.specs.Tree.{Tree, Trees, app, nil}
use Rattle.trs_defs.specs.Size.{depth_of}
use Rattle.trs_defs.specs.Variable.{has_var, IsVariable}
use Rattle.trs_defs.specs.System.{RewriteRule, IsRule}
use Rattle.names_text.specs.declared.table.Symbol.{Symbol}
use Rattle.names_text.specs.Symbols.{Declared, arities_of, symbol_named}
use Rattle.names_text.specs.Named.{is_shallow, is_numbered, next_number}
use Rattle.names_text.proofs.NumberedTerms.{below_has}
use Rattle.term_text.specs.Checked.{Checked, a_fault}
use Rattle.term_text.specs.declared.fault.TermFault.TheVariants.{LoneSymbol}
use Rattle.term_text.specs.Terms.{variables_after, lone, head, term, terms}
use Rattle.term_text.specs.Limits as text
use Rattle.term_text.specs.Limits.{nodes_of}
use Rattle.term_text.proofs.CheckedParts.{ok_same, two_parts}
use Rattle.term_text.proofs.Numbering.{below_each, numbered_next, numbered_below}
use Rattle.term_text.proofs.ReadTerms.{term_read}
use Rattle.ari_text.specs.Entries.{rewrites}
use Rattle.ari_text.specs.Rules.{both_sides, rule, with_rule}
use Rattle.ari_text.specs.Faults.{deep_faults, all_deep_faults, left_faults, lone_faults}
use Rattle.ari_text.proofs.NoFaults.{none_of}

-- ---- depth

mutual
  -- a side in which nothing stands deeper
  pub not_deep : (n : ℕ) (x : Item) → deep_faults n x ≡ [] → text.depth_of x ≤ n
  not_deep zero x e = absurd cc
  not_deep (suc n) (a_word name at) e = omega arith
  not_deep (suc n) (a_list no_items at) e = omega arith
  not_deep (suc n) (a_list (item h args) at) e = omega (arith, none_deep n args e)

  none_deep : (n : ℕ) (xs : Items) → all_deep_faults n xs ≡ [] → text.depth_of_all xs ≤ n
  none_deep n no_items e = omega arith
  none_deep n (item x xs) e =
      let parts = none_of (deep_faults n x) _ e in
      omega (arith, not_deep n x parts.0, none_deep n xs parts.1)

mutual
  pub shallow_side : (n : ℕ) (x : Item) → text.depth_of x ≤ n → deep_faults n x ≡ []
  shallow_side zero (a_word name at) h = absurd (omega arith)
  shallow_side zero (a_list xs at) h = absurd (omega arith)
  shallow_side (suc n) (a_word name at) h = refl
  shallow_side (suc n) (a_list no_items at) h = refl
  shallow_side (suc n) (a_list (item y args) at) h = shallow_args n args (omega arith)

  shallow_args : (n : ℕ) (xs : Items) → text.depth_of_all xs ≤ n → all_deep_faults n xs ≡ []
  shallow_args n no_items h = refl
  shallow_args n (item x xs) h = rw (shallow_side n x (omega arith)) (shallow_args n xs (omega arith))

-- ---- a left side is no variable

not_variable : (f : ℕ) (ts : Trees) → IsVariable (app f ts) → ⊥
not_variable f ts h = let is = h.1 in cc

module _ (symbols : List Declared) where
  left_symbol : (left : Item) (t : Tree) → left_faults symbols left ≡ [] → term true symbols [] left ≡ Ok t → IsVariable t → ⊥
  left_symbol (a_word w at) t e read = go (symbol_named symbols w) e read
    where
      constant : (b : Bool) (f : ℕ) → (let r : Checked Tree = cond b (Ok (app f nil)) (Err (a_fault (LoneSymbol at))) in r ≡ Ok t) → IsVariable t → ⊥
      constant true f h = let P : Tree → Type 0 = λ u. IsVariable u → ⊥ in subst P (ok_same (app f nil) t h) (not_variable f nil)
      constant false f h = absurd cc

      go : (o : Option Symbol) → lone_faults at o ≡ [] → lone true [] w at o ≡ Ok t → IsVariable t → ⊥
      go None h r = absurd cc
      go (Some s) h r = constant (s.arity == 0) s.number r
  left_symbol (a_list no_items at) t e read = absurd cc
  left_symbol (a_list (item (a_list ys p) args) at) t e read = absurd cc
  left_symbol (a_list (item (a_word w p) args) at) t e read =
      let parts = two_parts (λ f ts. app f ts) (head at p args (symbol_named symbols w)) (terms true symbols [] args) t read in
      let P : Tree → Type 0 = λ u. IsVariable u → ⊥ in
      subst P parts.made (not_variable parts.first parts.second)

  -- ---- rules

  pub record IsGood (r : RewriteRule) : Type 0 where
    pub is_rule : IsRule (arities_of symbols) r
    pub shallow : is_shallow r ≡ true
    pub numbered : is_numbered r ≡ true

  pub good_sides : (left right : Item) (l r : Tree) → term true symbols [] left ≡ Ok l → term false symbols (variables_after true symbols [] left) right ≡ Ok r
      → left_faults symbols left ≡ [] → deep_faults 256 left ≡ [] → deep_faults 256 right ≡ [] → IsGood (both_sides l r)
  good_sides left right l r on_left on_right e f g =
      let variables = variables_after true symbols [] left in
      let a = term_read symbols true [] left l on_left in
      let b = term_read symbols false variables right r on_right in
      let next : next_number 0 l ≡ Some (length variables) = numbered_next 0 l (length variables) a.numbered in
      let below = (numbered_below (length variables) r _ b.numbered).0 in
      let of_left : (v : ℕ) → v < length variables → IsTrue (has_var v l) =
      λ v lt. elim (below_has 0 l (length variables) next v lt) as (λ _. IsTrue (has_var v l)) [ inl none ↦ absurd (omega arith) | inr there ↦ there ] in
      record {
        is_rule = record {
          left_well_formed = a.well_formed;
          right_well_formed = b.well_formed;
          left_no_variable = left_symbol left l e on_left;
          variables = λ v h. of_left v (below_each (length variables) r below v h);
        };
        shallow = and_from (nat_le (depth_of l) 256) (nat_le (depth_of r) 256) (le-leb (depth_of l) 256 (omega (arith, a.deep, not_deep 256 left f))) (le-leb (depth_of r) 256 (omega (arith, b.deep, not_deep 256 right g)));
        numbered = rw next refl;
      }

  -- the rule that an item says, and those behind it
  pub record IsNext (left right : Item) (more : Checked (List RewriteRule)) (rules : List RewriteRule) : Type 0 where
    pub l : Tree
    pub r : Tree
    pub others : List RewriteRule
    pub is_left : term true symbols [] left ≡ Ok l
    pub is_right : term false symbols (variables_after true symbols [] left) right ≡ Ok r
    pub behind : more ≡ Ok others
    pub made : both_sides l r ∷ others ≡ rules

  pub is_next : (left right : Item) (more : Checked (List RewriteRule)) (rules : List RewriteRule) → with_rule symbols (rewrites left right) more ≡ Ok rules → IsNext left right more rules
  is_next left right more rules e =
      let whole = two_parts (λ q qs. q ∷ qs) (rule symbols left right) more rules e in
      let sides = two_parts both_sides (term true symbols [] left) (term false symbols (variables_after true symbols [] left) right) whole.first whole.is_first in
      record {
        l = sides.first;
        r = sides.second;
        others = whole.second;
        is_left = sides.is_first;
        is_right = sides.is_second;
        behind = whole.is_second;
        made = ap (λ (q : RewriteRule). q ∷ whole.second) sides.made ∙ whole.made;
      }
