-- The first two terms of two lists that never meet, by their ids.
use Rattle.std.specs.Prelude.{◌≡◌, ◌↔◌, ℕ, List, [], ◌∷◌, refl}
use Rattle.std.proofs.Common.{sym, subst}
use Rattle.trs_defs.specs.Tree.{Tree}
use Rattle.trs_defs.specs.System.{RewriteRule}
use Rattle.term_pool.specs.Listed.{Listed}
use Rattle.term_pool.specs.ListedIds.{listed, listed_at}
use Rattle.join_find.specs.CommonIds.{Reached}
use Rattle.join_find.specs.First.{Some_in, None_in, Along, along_end, along_item}
use Rattle.conf_find.specs.Marks.{AreParted}
use Rattle.conf_find.specs.Parted.{IsFirstPair, HasNoPair}
use Rattle.conf_find.proofs.Pairs.{IsFirstOfTerms, first_terms, no_pair}

abbrev IsEntryOf : List Tree → Listed → Reached → Type 0
IsEntryOf pool e x = e ≡ listed pool x

along_entries : (pool : List Tree) (xs : List Reached) → Along (IsEntryOf pool) (listed_at pool xs) xs
along_entries pool [] = along_end
along_entries pool (x ∷ xs) = along_item refl (along_entries pool xs)

module _ (never_meet : List RewriteRule → Tree → Tree → Type 0) (rules : List RewriteRule) (pool : List Tree) where
  abbrev pub NeverMeet : Listed → Listed → Type 0
  NeverMeet u v = never_meet rules u.term v.term

  same : (e f : Listed) (x y : Reached) → IsEntryOf pool e x → IsEntryOf pool f y → AreParted never_meet rules pool x y ↔ NeverMeet e f
  same e f x y m n =
      let E : Listed → Type 0 = λ u. never_meet rules u.term f.term in
      let X : Listed → Type 0 = λ v. never_meet rules (listed pool x).term v.term in
      (λ h. subst E (sym m) (subst X (sym n) h), λ h. subst X n (subst E m h))

  module _ (lefts rights : List Reached) where
    pub parted_terms : (pair : ℕ × ℕ) → IsFirstPair (AreParted never_meet rules pool) lefts rights pair → IsFirstOfTerms NeverMeet (listed_at pool lefts) (listed_at pool rights) pair
    parted_terms pair h =
        first_terms (IsEntryOf pool) (AreParted never_meet rules pool) NeverMeet same (listed_at pool lefts) (listed_at pool rights) lefts rights
        (along_entries pool lefts) (along_entries pool rights) pair h

    pub none_parted : HasNoPair (AreParted never_meet rules pool) lefts rights → None_in (λ (e : Listed). Some_in (NeverMeet e) (listed_at pool rights)) (listed_at pool lefts)
    none_parted h =
        no_pair (IsEntryOf pool) (AreParted never_meet rules pool) NeverMeet same (listed_at pool lefts) (listed_at pool rights) lefts rights
        (along_entries pool lefts) (along_entries pool rights) h
