-- Two paths of a peak: what is read has numbers in range, and what is printed is read again.
use Rattle.std.proofs.Common.{◌≡◌, ◌+◌, ◌<◌, true, ℕ, List, [], ◌∷◌, length, Ok, Err, codes, refl, ap, ap₂, subst, ◌∙◌, arith}
use Rattle.sexp_core.specs.Items.{Items, a_list, views}
use Rattle.sexp_core.specs.declared.sexp.Sexp.{Sexp}
use Rattle.trs_defs.specs.Path.{PlacedRule}
use Rattle.rewrite_core.specs.PathsOfJoin.{PathsOfJoin}
use Rattle.text_reading.specs.Reading.{Read, ◌<*>◌, ended, done, keyword}
use Rattle.text_reading.proofs.Words.{is_plain_word}
use Rattle.text_reading.proofs.Made.{Makes, applied, ok_same, made_done, made_part, made_list, made_any}
use Rattle.text_reading.proofs.Again.{Spells, spells_done, spells_part, spells_list, spells_keyword}
use Rattle.path_text.specs.Sharing.{Sharing, path_weight, paths_weight, behind_path, behind_read, behind_paths}
use Rattle.path_text.specs.Ranges.{AreDefinedInRange}
use Rattle.path_text.specs.Paths.{part_path, no_path}
use Rattle.path_text.specs.Carrying.{Carries}
use Rattle.path_text.proofs.PathMade.{made_part_path, made_no_path}
use Rattle.path_text.proofs.SharedAgain.{path_again, spells_part_path, carries_less, carries_behind}
use Rattle.path_text.proofs.InTurn.{ended_read}
use Rattle.peak_text.specs.TwoPaths.{two_paths, two_behind, paths_of_two, two_item, join, join_item, pair, pair_item}
use Rattle.peak_text.specs.Ranges.{AreTwoInRange}

two_made : (head : List ℕ) (sharing : Sharing) → AreDefinedInRange sharing → Makes (two_behind head sharing) AreTwoInRange
two_made head sharing defined x v e =
    let (h, k, (left, left_in, (right, right_in, same))) =
    made_list _ _ two_paths
    (made_part (keyword head) _ (λ _. Unit {0}) _ (made_any (keyword head))
    (made_part_path (part_path (no_path done)) _ (made_part_path (no_path done) (λ f w. f ≡ w) (made_no_path done (λ f w. f ≡ w) made_done)) sharing defined))
    x v e
    in
    subst AreTwoInRange same (left_in, right_in)

two_again : (head : List ℕ) → is_plain_word head ≡ true → (names : List (List PlacedRule)) (sharing : Sharing) (two : PathsOfJoin) → AreTwoInRange two
    → Carries sharing names (paths_weight (paths_of_two two)) → Spells (two_behind head sharing) 4 (two_item head names two) two
two_again head plain names sharing two h c =
    let all = carries_less sharing names (path_weight two.left + path_weight two.right) (paths_weight (paths_of_two two)) (omega arith) c in
    let first = carries_less sharing names (path_weight two.left) (paths_weight (paths_of_two two)) (omega arith) c in
    let second = carries_behind sharing names two.left (path_weight two.right) all in
    spells_list two_paths
    (spells_part 3 two_paths (spells_keyword head plain)
    (spells_part_path (part_path (no_path done)) 3 sharing (two_paths tt) (path_again sharing names two.left h.0 first)
    (spells_part_path (no_path done) 3 (behind_path sharing two.left) (two_paths tt two.left) (path_again (behind_path sharing two.left) names two.right h.1 second) (spells_done two)
    (omega arith) (omega arith)) (omega arith) (omega arith)) (omega arith) (omega arith))

pub join_made : (sharing : Sharing) → AreDefinedInRange sharing → Makes (join sharing) AreTwoInRange
join_made = two_made (codes "join")

pub join_again : (names : List (List PlacedRule)) (sharing : Sharing) (two : PathsOfJoin) → AreTwoInRange two → Carries sharing names (paths_weight (paths_of_two two))
    → Spells (join sharing) 4 (join_item names two) two
join_again = two_again (codes "join") refl

pub pair_made : (sharing : Sharing) → AreDefinedInRange sharing → Makes (pair sharing) AreTwoInRange
pair_made = two_made (codes "pair")

pub pair_again : (names : List (List PlacedRule)) (sharing : Sharing) (two : PathsOfJoin) → AreTwoInRange two → Carries sharing names (paths_weight (paths_of_two two))
    → Spells (pair sharing) 4 (pair_item names two) two
pair_again = two_again (codes "pair") refl

-- what two paths leave that were read
pub two_left : (s mid t : Sharing) (h : Read (Unit {0})) (p q : Read (List PlacedRule)) (more : Items) (two : PathsOfJoin) → mid ≡ behind_read s p → t ≡ behind_read mid q
    → ended (Ok two_paths <*> h <*> p <*> q) more ≡ Ok two → t ≡ behind_paths s (paths_of_two two)
two_left s mid t h p q more two first second e =
    let b = applied (Ok two_paths <*> h <*> p) q two (ended_read (Ok two_paths <*> h <*> p <*> q) more two e) in
    let a = applied (Ok two_paths <*> h) p b.make b.is_make in
    let z = applied (Ok two_paths) h a.make a.is_make in
    let same : two_paths z.value a.value b.value ≡ two =
    ap (λ (f : Unit {0} → List PlacedRule → List PlacedRule → PathsOfJoin). f z.value a.value b.value) (ok_same two_paths z.make z.is_make)
    ∙ ap (λ (f : List PlacedRule → List PlacedRule → PathsOfJoin). f a.value b.value) z.made
    ∙ ap (λ (f : List PlacedRule → PathsOfJoin). f b.value) a.made ∙ b.made in
    second ∙ ap₂ behind_read (first ∙ ap (behind_read s) a.is_value) b.is_value ∙ ap (λ (j : PathsOfJoin). behind_paths s (paths_of_two j)) same

-- a list that lacks a member
pub two_lack : (head : List ℕ) (sharing : Sharing) (at : ℕ) (xs : List Sexp) → length xs < 3 → two_behind head sharing (a_list (views xs) at) ≡ Err at
two_lack head sharing at [] lt = refl
two_lack head sharing at (x ∷ []) lt = refl
two_lack head sharing at (x ∷ y ∷ []) lt = refl
two_lack head sharing at (x ∷ y ∷ z ∷ zs) lt = absurd (omega (arith, lt))
