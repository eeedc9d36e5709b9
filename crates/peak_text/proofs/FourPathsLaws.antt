-- Four paths of a peak: what is read has numbers in range, and what is printed is read again.
use Rattle.std.proofs.Common.{◌≡◌, ◌+◌, ◌<◌, ℕ, List, [], ◌∷◌, length, Ok, Err, codes, refl, ap, ap₂, subst, ◌∙◌, arith}
use Rattle.sexp_core.specs.Items.{Item, Items, item, views}
use Rattle.sexp_core.specs.declared.sexp.Sexp.{Sexp}
use Rattle.trs_defs.specs.Path.{PlacedRule}
use Rattle.closed_pairs.specs.StronglyClosed.{FourPaths}
use Rattle.text_reading.specs.Reading.{Read, ◌<*>◌, ended, done, keyword}
use Rattle.text_reading.proofs.Made.{Makes, applied, ok_same, made_done, made_part, made_list, made_any}
use Rattle.text_reading.proofs.Again.{Spells, spells_done, spells_part, spells_list, spells_keyword}
use Rattle.path_text.specs.Sharing.{Sharing, path_weight, paths_weight, behind_path, behind_read, behind_paths}
use Rattle.path_text.specs.Ranges.{AreDefinedInRange}
use Rattle.path_text.specs.Paths.{path, part_path, no_path}
use Rattle.path_text.specs.Carrying.{Carries}
use Rattle.path_text.proofs.PathMade.{made_part_path, made_no_path}
use Rattle.path_text.proofs.SharedAgain.{path_again, spells_part_path, carries_less, carries_behind}
use Rattle.path_text.proofs.InTurn.{ended_read}
use Rattle.peak_text.specs.FourPaths.{four_paths, paths_behind_pair, four, paths_of_four, four_item}
use Rattle.peak_text.specs.Ranges.{AreFourInRange}

pub four_made : (sharing : Sharing) → AreDefinedInRange sharing → Makes (four sharing) AreFourInRange
four_made sharing defined x v e =
    let (h, k, (left_u, a, (right_u, b, (right_v, c, (left_v, d, same))))) =
    made_list _ _ four_paths
    (made_part (keyword (codes "pair")) _ (λ _. Unit {0}) _ (made_any (keyword (codes "pair")))
    (made_part_path (part_path (part_path (part_path (no_path done)))) _
    (made_part_path (part_path (part_path (no_path done))) _
    (made_part_path (part_path (no_path done)) _
    (made_part_path (no_path done) (λ f w. f ≡ w) (made_no_path done (λ f w. f ≡ w) made_done)))) sharing defined))
    x v e
    in
    subst AreFourInRange same (record { left_u = a; right_u = b; right_v = c; left_v = d })

pub four_again : (names : List (List PlacedRule)) (sharing : Sharing) (f : FourPaths) → AreFourInRange f → Carries sharing names (paths_weight (paths_of_four f))
    → Spells (four sharing) 4 (four_item names f) f
four_again names sharing f h c =
    let s1 = behind_path sharing f.left_u in
    let s2 = behind_path s1 f.right_u in
    let s3 = behind_path s2 f.right_v in
    let c1 = carries_behind sharing names f.left_u (path_weight f.right_u + (path_weight f.right_v + path_weight f.left_v)) (carries_less sharing names _ (paths_weight (paths_of_four f)) (omega arith) c) in
    let c2 = carries_behind s1 names f.right_u (path_weight f.right_v + path_weight f.left_v) c1 in
    let c3 = carries_behind s2 names f.right_v (path_weight f.left_v) c2 in
    spells_list four_paths
    (spells_part 3 four_paths (spells_keyword (codes "pair") refl)
    (spells_part_path (part_path (part_path (part_path (no_path done)))) 3 sharing (four_paths tt) (path_again sharing names f.left_u h.left_u (carries_less sharing names _ (paths_weight (paths_of_four f)) (omega arith) c))
    (spells_part_path (part_path (part_path (no_path done))) 3 s1 (four_paths tt f.left_u) (path_again s1 names f.right_u h.right_u (carries_less s1 names _ (path_weight f.right_u + (path_weight f.right_v + path_weight f.left_v)) (omega arith) c1))
    (spells_part_path (part_path (no_path done)) 3 s2 (four_paths tt f.left_u f.right_u) (path_again s2 names f.right_v h.right_v (carries_less s2 names _ (path_weight f.right_v + path_weight f.left_v) (omega arith) c2))
    (spells_part_path (no_path done) 3 s3 (four_paths tt f.left_u f.right_u f.right_v) (path_again s3 names f.left_v h.left_v c3) (spells_done f)
    (omega arith) (omega arith)) (omega arith) (omega arith)) (omega arith) (omega arith)) (omega arith) (omega arith)) (omega arith) (omega arith))

-- what four paths leave that were read
pub four_left : (s s1 s2 s3 t : Sharing) (h : Read (Unit {0})) (p q r o : Read (List PlacedRule)) (more : Items) (f : FourPaths) → s1 ≡ behind_read s p → s2 ≡ behind_read s1 q
    → s3 ≡ behind_read s2 r → t ≡ behind_read s3 o → ended (Ok four_paths <*> h <*> p <*> q <*> r <*> o) more ≡ Ok f → t ≡ behind_paths s (paths_of_four f)
four_left s s1 s2 s3 t h p q r o more f first second third fourth e =
    let d = applied (Ok four_paths <*> h <*> p <*> q <*> r) o f (ended_read (Ok four_paths <*> h <*> p <*> q <*> r <*> o) more f e) in
    let c = applied (Ok four_paths <*> h <*> p <*> q) r d.make d.is_make in
    let b = applied (Ok four_paths <*> h <*> p) q c.make c.is_make in
    let a = applied (Ok four_paths <*> h) p b.make b.is_make in
    let z = applied (Ok four_paths) h a.make a.is_make in
    let same : four_paths z.value a.value b.value c.value d.value ≡ f =
    ap (λ (g : Unit {0} → List PlacedRule → List PlacedRule → List PlacedRule → List PlacedRule → FourPaths). g z.value a.value b.value c.value d.value) (ok_same four_paths z.make z.is_make)
    ∙ ap (λ (g : List PlacedRule → List PlacedRule → List PlacedRule → List PlacedRule → FourPaths). g a.value b.value c.value d.value) z.made
    ∙ ap (λ (g : List PlacedRule → List PlacedRule → List PlacedRule → FourPaths). g b.value c.value d.value) a.made
    ∙ ap (λ (g : List PlacedRule → List PlacedRule → FourPaths). g c.value d.value) b.made
    ∙ ap (λ (g : List PlacedRule → FourPaths). g d.value) c.made ∙ d.made in
    let left1 = first ∙ ap (behind_read s) a.is_value in
    let left2 = second ∙ ap₂ behind_read left1 b.is_value in
    let left3 = third ∙ ap₂ behind_read left2 c.is_value in
    fourth ∙ ap₂ behind_read left3 d.is_value ∙ ap (λ (g : FourPaths). behind_paths s (paths_of_four g)) same

-- a list that lacks a path
pub four_lack : (sharing : Sharing) (at : ℕ) (h : Read (Unit {0})) (xs : List Sexp) → length xs < 4 → paths_behind_pair sharing at (Ok four_paths <*> h) (views xs) ≡ Err at
four_lack sharing at h [] lt = refl
four_lack sharing at h (x ∷ []) lt = refl
four_lack sharing at h (x ∷ y ∷ []) lt = refl
four_lack sharing at h (x ∷ y ∷ z ∷ []) lt = refl
four_lack sharing at h (x ∷ y ∷ z ∷ w ∷ ws) lt = absurd (omega (arith, lt))

-- each path is read with what those before it left
pub in_this_order : (s s1 s2 s3 : Sharing) (h : Read (Unit {0})) (x y z w : Item) (more : Items) → s1 ≡ behind_read s (path s x) → s2 ≡ behind_read s1 (path s1 y) → s3 ≡ behind_read s2 (path s2 z)
    → (at : ℕ) → ended (Ok four_paths <*> h <*> path s x <*> path s1 y <*> path s2 z <*> path s3 w) more
    ≡ paths_behind_pair s at (Ok four_paths <*> h) (item x (item y (item z (item w more))))
in_this_order s s1 s2 s3 h x y z w more first second third at = rw (third, second, first) refl
