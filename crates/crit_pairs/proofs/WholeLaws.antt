-- Whole right sides as results: rules and sides come to them, they are counted by their numbers of nodes, and the top alone gets new numbers.
use Rattle.std.proofs.Common.{◌≡◌, ◌<◌, ℕ, ◌+◌, List, [], ◌∷◌, ◌++◌, take, length, length-append, get_or, slice_get, Option, Some, None, IfSome, Result, Ok, Err, IfOk, IfErr, IsTrue, refl, ap, sym, ◌∙◌, subst, arith}
use Rattle.std.proofs.lemmas.List.{take_more}
use Rattle.std.proofs.lemmas.Option.{slice_get_read, same_Some}
use Rattle.std.specs.Borrow.{Bor}
use Rattle.std.specs.Option.{option_copied}
use Rattle.std.specs.Slice.{IsItemAt}
use Rattle.trs_defs.specs.Tree.{Tree, var}
use Rattle.trs_defs.specs.Position.{replaced_at}
use Rattle.trs_defs.specs.Substitution.{apply}
use Rattle.trs_defs.specs.System.{RewriteRule}
use Rattle.trs_core.specs.View.{tree}
use Rattle.term_pool.specs.LeftSides.{IsGround}
use Rattle.term_pool.proofs.LeftSideLaws.{ground_stays}
use Rattle.crit_pairs.specs.Apart.{renamed_apart}
use Rattle.crit_pairs.specs.MadePairs.{CountsTop}
use Rattle.crit_pairs.specs.Sides.{are_small, AreRenumbered, KeepsLimits, PassesLimit}
use Rattle.crit_pairs.specs.WholeSides.{IsWholeSide, AreWholeSides, IsRightOf, HaveWholeResults, AreResults, TopPasses}
use Rattle.crit_pairs.specs.declared.faults.PeakFault.{PeakFault}
use Rattle.crit_pairs.specs.declared.faults.PeakFault.TheVariants as peak
use Rattle.crit_pairs.specs.declared.results.Results.TheVariants as made
use Rattle.crit_pairs.specs.declared.whole_sides.WholeSide.{WholeSide}
use Rattle.crit_pairs.proofs.GroundRights.{item_behind}

-- ---- the sides of all rules

wholes_behind : (rules : List RewriteRule) (r : RewriteRule) (sides : List (Option WholeSide)) (side : Option WholeSide) → IfSome side (IsWholeSide r.right)
    → AreWholeSides rules sides → AreWholeSides (rules ++ r ∷ []) (sides ++ side ∷ [])
wholes_behind rules r sides side some h = record {
  count = omega (arith, h.count, length-append rules (r ∷ []), length-append sides (side ∷ []));
  each = item_behind (λ (z : RewriteRule). IsWholeSide z.right) rules r sides side h.count some h.each;
}

pub one_whole_more : (rules : List RewriteRule) (k : ℕ) (rule : RewriteRule) (old new : List (Option WholeSide)) (side : Option WholeSide) → k < length rules → rule ≡ get_or rules k rule
    → IfSome side (IsWholeSide rule.right) → new ≡ old ++ side ∷ [] → AreWholeSides (take k rules) old → AreWholeSides (take (k + 1) rules) new
one_whole_more rules k rule old new side less read some put h =
    let taken : take (k + 1) rules ≡ take k rules ++ rule ∷ [] = take_more rules k rule less ∙ ap (λ x. take k rules ++ x ∷ []) (sym read) in
    let N : List (Option WholeSide) → Type 0 = AreWholeSides (take (k + 1) rules) in
    let T : List RewriteRule → Type 0 = λ rs. AreWholeSides rs (old ++ side ∷ []) in
    subst N (sym put) (subst T (sym taken) (wholes_behind (take k rules) rule old side some h))

-- the term of a side is what it stands for
itself_whole : (t : Tree) (side : WholeSide) → IsWholeSide t side → IsWholeSide (tree side.term.now) side
itself_whole t side h =
    let W : Tree → Type 0 = λ u. IsWholeSide u side in
    subst W (sym h.is) h

-- the side of a rule, as it is read
pub side_read : (rules : List RewriteRule) (sides items : List (Option WholeSide)) (i : ℕ) (got : Option (Bor (Option WholeSide))) (side : Bor (Option WholeSide)) (result : Option (Bor WholeSide))
    → AreWholeSides rules sides → items ≡ sides → IsItemAt items i got → got ≡ Some side → option_copied result ≡ side.now → IfSome result (λ (s : Bor WholeSide). IsRightOf rules i s.now)
side_read rules sides items i got side None h same at is copied = tt
side_read rules sides items i got side (Some s) h same at is copied =
    let item : IsItemAt items i (Some side) = subst (IsItemAt items i) is at in
    let read : slice_get items i ≡ Some side.now = slice_get_read items (length items) i side.now refl item.3.0 item.1 in
    let there : slice_get sides i ≡ Some (Some s.now) = ap (λ xs. slice_get xs i) (sym same) ∙ (read ∙ ap (λ o. Some o) (sym copied)) in
    λ r numbered. h.each i s.now r there numbered

-- ---- one peak

-- the inner right side, which has no variable, is the reduct
pub whole_reduct : (inner outer : RewriteRule) (place : List ℕ) (side : WholeSide) → place ≡ [] → IsWholeSide inner.right side
    → replaced_at place outer.left (renamed_apart inner).right ≡ Some (tree side.term.now)
whole_reduct inner outer place side root h =
    ap (λ q. replaced_at q outer.left (renamed_apart inner).right) root ∙ ap (λ z. Some z) (ground_stays (λ v. var (65536 + v)) inner.right h.ground ∙ sym h.is)

-- the right sides of the rules, as they were looked up
pub both_whole : (rules : List RewriteRule) (outer inner : RewriteRule) (place : List ℕ) (j i : ℕ) (left right : Bor WholeSide) → slice_get rules j ≡ Some outer → slice_get rules i ≡ Some inner
    → HaveWholeResults rules place i j left.now right.now → AreResults outer inner place (made.Whole left right)
both_whole rules outer inner place j i left right outer_is inner_is h =
    let l : IsWholeSide inner.right left.now = h.left_side inner inner_is in
    record { replaced = whole_reduct inner outer place left.now h.root l; whole = (itself_whole inner.right left.now l, h.right_side outer outer_is) }

module _ (unifier : ℕ → Tree) (top reduct outer_right : Tree) (left right : WholeSide) (l : IsWholeSide reduct left) (r : IsWholeSide outer_right right) where
  left_stays : reduct ≡ apply unifier reduct
  left_stays = sym (ground_stays unifier reduct l.ground)

  right_stays : outer_right ≡ apply unifier outer_right
  right_stays = sym (ground_stays unifier outer_right r.ground)

  whole_counted : (nodes total : ℕ) → CountsTop top left.size right.size nodes total → KeepsLimits nodes total top (apply unifier reduct) (apply unifier outer_right)
  whole_counted nodes total counts =
      let all_small : IsTrue (are_small top reduct outer_right) = rw (counts.small, l.small, r.small) refl in
      let limits : KeepsLimits nodes total top reduct outer_right =
      record { small = all_small; few = omega (arith, counts.counted, counts.few, l.size, r.size); counted = omega (arith, counts.counted, l.size, r.size) } in
      let K : Tree → Type 0 = λ z. KeepsLimits nodes total top z outer_right in
      let M : Tree → Type 0 = λ z. KeepsLimits nodes total top (apply unifier reduct) z in
      subst M right_stays (subst K left_stays limits)

  passes : (fault : PeakFault) (nodes : ℕ) → TopPasses fault nodes top left.size right.size → PassesLimit fault nodes top reduct outer_right
  passes peak.TooLarge nodes h = rw h refl
  passes peak.TooMany nodes h = (rw (h.0, l.small, r.small) refl, omega (arith, h.1, l.size, r.size))
  passes peak.OutOfMemory nodes h = tt

  whole_passes : (fault : PeakFault) (nodes : ℕ) → TopPasses fault nodes top left.size right.size → PassesLimit fault nodes top (apply unifier reduct) (apply unifier outer_right)
  whole_passes fault nodes h =
      let K : Tree → Type 0 = λ z. PassesLimit fault nodes top z outer_right in
      let M : Tree → Type 0 = λ z. PassesLimit fault nodes top (apply unifier reduct) z in
      subst M right_stays (subst K left_stays (passes fault nodes h))

  pub whole_limits : (nodes : ℕ) (answer : Result ℕ PeakFault) → IfOk answer (CountsTop top left.size right.size nodes)
      → IfOk answer (λ total. KeepsLimits nodes total top (apply unifier reduct) (apply unifier outer_right))
  whole_limits nodes (Ok total) counts = whole_counted nodes total counts
  whole_limits nodes (Err fault) counts = tt

  pub whole_fault : (nodes : ℕ) (answer : Result ℕ PeakFault) → IfErr answer (λ fault. TopPasses fault nodes top left.size right.size)
      → IfErr answer (λ fault. PassesLimit fault nodes top (apply unifier reduct) (apply unifier outer_right))
  whole_fault nodes (Ok total) passed = tt
  whole_fault nodes (Err fault) passed = whole_passes fault nodes passed

  -- the top beside any results with no variable is that beside these
  pub whole_renumbered : (t a b : Tree) → ((x y : Tree) → IsGround x → IsGround y → AreRenumbered top x y t x y) → a ≡ tree left.term.now → b ≡ tree right.term.now
      → AreRenumbered top (apply unifier reduct) (apply unifier outer_right) t a b
  whole_renumbered t a b beside first second =
      let A : Tree → Type 0 = λ z. AreRenumbered top z outer_right t reduct outer_right in
      let B : Tree → Type 0 = λ z. AreRenumbered top (apply unifier reduct) z t reduct outer_right in
      let C : Tree → Type 0 = λ z. AreRenumbered top (apply unifier reduct) (apply unifier outer_right) t z outer_right in
      let D : Tree → Type 0 = λ z. AreRenumbered top (apply unifier reduct) (apply unifier outer_right) t a z in
      subst D (sym (second ∙ r.is)) (subst C (sym (first ∙ l.is)) (subst B right_stays (subst A left_stays (beside reduct outer_right l.ground r.ground))))

-- what holds of one reduct holds of each
module _ (place : List ℕ) (left by t : Tree) where
  pub of_the_reduct : (P : Tree → ℕ → Type 0) (answer : Result ℕ PeakFault) → replaced_at place left by ≡ Some t → IfOk answer (P t) → IfOk answer (λ total. (u : Tree) → replaced_at place left by ≡ Some u → P u total)
  of_the_reduct P (Ok total) is h = λ u there. (let Q : Tree → Type 0 = λ v. P v total in subst Q (same_Some t u (sym is ∙ there)) h)
  of_the_reduct P (Err fault) is h = tt

  pub fault_of_the_reduct : (P : Tree → PeakFault → Type 0) (answer : Result ℕ PeakFault) → replaced_at place left by ≡ Some t → IfErr answer (P t)
      → IfErr answer (λ fault. (u : Tree) → replaced_at place left by ≡ Some u → P u fault)
  fault_of_the_reduct P (Ok total) is h = tt
  fault_of_the_reduct P (Err fault) is h = λ u there. (let Q : Tree → Type 0 = λ v. P v fault in subst Q (same_Some t u (sym is ∙ there)) h)
