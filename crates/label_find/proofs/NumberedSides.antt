-- Numbers of the sides of peaks in a table of their rules.
use Rattle.std.specs.Prelude.{◌≡◌, ◌≤◌, ℕ, Bool, true, false, cond, nat_eq, List, [], ◌∷◌, ◌++◌, Some, None, is_some, length, slice_get, refl}
use Rattle.std.proofs.Common.{ap, sym, ◌∙◌, subst, append_assoc, arith}
use Rattle.std.proofs.lemmas.List.{length-take}
use Rattle.std.proofs.lemmas.Option.{same_Some}
use Rattle.trs_defs.specs.Tree.{Tree}
use Rattle.trs_defs.specs.System.{RewriteRule}
use Rattle.trs_defs.proofs.ListItems.{kept_item, last_item}
use Rattle.term_pool.proofs.ReachedIds.{length_listed}
use Rattle.indexmap.specs.IndexMap.{get}
use Rattle.join_find.specs.KeptLists.{list_of, IsPut}
use Rattle.join_find.proofs.KeptOfSides.{same_id, nothing_there}
use Rattle.term_pool.specs.Pooled.{tree_at}
use Rattle.path_lists.specs.PathList.{no_steps}
use Rattle.path_lists.specs.Adding.{Entry}
use Rattle.label_find.specs.declared.listed_sides.ListedSides.{ListedSides}
use Rattle.label_find.specs.declared.side_rules.SideRules.{SideRules}
use Rattle.label_find.specs.SideRules.{IsSideOf}
use Rattle.label_find.specs.ConstraintPuzzle.{IsSmallSide}
use Rattle.label_find.specs.ListedSides.{IsPathsOf, AreListed, number_of, IsNumbered, AreNumbered, HasSameLists, IsFrontOf}

-- no side has a number
pub none_numbered : (sides : ListedSides) (table : List SideRules) → ((id : ℕ) → number_of sides id ≡ None) → AreNumbered sides table
none_numbered sides table none = record { each = λ id number is. absurd (nothing_there (number_of sides id) number (none id) is) }

module _ (old new : ListedSides) (table : List SideRules) (same : new.numbers ≡ old.numbers) (before : AreNumbered old table) where
  numbered_before : (id number : ℕ) → number_of new id ≡ Some number → IsNumbered old table id number
  numbered_before id number is = before.each id number (sym (ap (λ m. get nat_eq m id) same) ∙ is)

  -- the lists are the same
  pub numbered_still : new.lists ≡ old.lists → AreNumbered new table
  numbered_still lists = record {
    each = λ id number is. (let h = numbered_before id number is in
        record { paths = h.paths; side = h.side; listed = ap (λ l. list_of l id) lists ∙ h.listed; there = h.there; of_paths = h.of_paths });
  }

  -- a list is put where none was
  pub numbered_with : (id : ℕ) (found : List Entry) → IsPut id found old.lists new.lists → is_some (list_of old.lists id) ≡ false → AreNumbered new table
  numbered_with id found put none = record {
    each = λ i number is. (let h = numbered_before i number is in
        record { paths = h.paths; side = h.side; listed = put i ∙ go i h.paths h.listed (nat_eq id i) refl; there = h.there; of_paths = h.of_paths });
  }
    where
      go : (i : ℕ) (paths : List Entry) → list_of old.lists i ≡ Some paths → (b : Bool) → nat_eq id i ≡ b → cond b (Some found) (list_of old.lists i) ≡ Some paths
      go i paths listed true e =
          let there : is_some (list_of old.lists id) ≡ true = ap (λ j. is_some (list_of old.lists j)) (same_id id i e) ∙ ap is_some listed in
          absurd (cc (none, there))
      go i paths listed false e = listed

-- the side of one more id is put behind the table
module _ (old new : ListedSides) (table grown : List SideRules) (id : ℕ) (side : SideRules) (paths : List Entry) (lists : new.lists ≡ old.lists) (listed : list_of old.lists id ≡ Some paths)
    (of_paths : IsSideOf paths side) (is : grown ≡ table ++ side ∷ []) (last : ℕ) (last_is : last ≡ length table) where
  pub side_numbered : IsNumbered new grown id last
  side_numbered = record {
    paths = paths;
    side = side;
    listed = ap (λ l. list_of l id) lists ∙ listed;
    there = ap (λ (ss : List SideRules). slice_get ss last) is ∙ (ap (slice_get (table ++ side ∷ [])) last_is ∙ last_item table side []);
    of_paths = of_paths;
  }

  pub sides_numbered : ((i : ℕ) → number_of new i ≡ cond (nat_eq id i) (Some last) (number_of old i)) → AreNumbered old table → AreNumbered new grown
  sides_numbered numbers before = record { each = λ i number h. go i number (nat_eq id i) refl (sym (numbers i) ∙ h) }
    where
      go : (i number : ℕ) (b : Bool) → nat_eq id i ≡ b → cond b (Some last) (number_of old i) ≡ Some number → IsNumbered new grown i number
      go i number true e h =
          let P : ℕ → Type 0 = λ j. IsNumbered new grown j last in
          subst (IsNumbered new grown i) (same_Some last number h) (subst P (same_id id i e) side_numbered)
      go i number false e h =
          let was = before.each i number h in
          record {
            paths = was.paths;
            side = was.side;
            listed = ap (λ l. list_of l i) lists ∙ was.listed;
            there = ap (λ (ss : List SideRules). slice_get ss number) is ∙ kept_item table (side ∷ []) number was.side was.there;
            of_paths = was.of_paths;
          }

-- a side that has a number, after the table has grown
pub still_numbered : (old new : ListedSides) (table grown : List SideRules) (id number : ℕ) → HasSameLists old new → IsFrontOf table grown → IsNumbered old table id number → IsNumbered new grown id number
still_numbered old new table grown id number same front h = record {
  paths = h.paths;
  side = h.side;
  listed = ap (λ l. list_of l id) same.lists ∙ h.listed;
  there = ap (λ (ss : List SideRules). slice_get ss number) front.is ∙ kept_item table front.more number h.side h.there;
  of_paths = h.of_paths;
}

-- a table that has grown twice
pub front_on : (a b c : List SideRules) → IsFrontOf a b → IsFrontOf b c → IsFrontOf a c
front_on a b c first second = record { more = first.more ++ second.more; is = second.is ∙ (ap (λ (ss : List SideRules). ss ++ second.more) first.is ∙ append_assoc a first.more second.more) }

few_paths : (rules : List RewriteRule) (pool : List Tree) (id : ℕ) (found : List Entry) → IsPathsOf rules pool id found → length found ≤ 256
few_paths rules pool id found h =
    let count = length_listed pool found in
    let listed = ap length h.list.listed in
    let few = length-take 256 (no_steps (tree_at pool id) ∷ h.list.candidates) in
    omega (arith, count, listed, few)

-- few paths, and so few groups
pub small_side : (rules : List RewriteRule) (from : List Tree) (sides : ListedSides) (table : List SideRules) (id number : ℕ) → AreListed rules from sides → IsNumbered sides table id number → IsSmallSide table number
small_side rules from sides table id number listed h =
    let few = few_paths rules sides.pool id h.paths (listed.lists id h.paths h.listed) in
    let groups = h.of_paths.few in
    record { side = h.side; there = h.there; few = omega (arith, few, groups) }
