-- A constraint that is made of paths by the ids of their ends says the same of the paths with their ends.
use Rattle.std.specs.Prelude.{◌≡◌, ◌<◌, ◌≤◌, ℕ, Bool, ◌||◌, ◌==◌, List, [], ◌∷◌, ◌++◌, All, Option, Some, Ok, Err, Result, IsTrue, IfOk, length, map, slice_get, refl}
use Rattle.std.proofs.Common.{arith, ap, ap₂, sym, ◌∙◌, subst, length-append}
use Rattle.std.proofs.lemmas.List.Elements.{All-head, All-tail}
use Rattle.std.proofs.lemmas.Bool.{or_right, or_left}
use Rattle.std.proofs.lemmas.Option.{slice_get_within}
use Rattle.trs_defs.specs.Member.{In, in_first, in_rest}
use Rattle.trs_defs.specs.Tree.{Tree}
use Rattle.trs_defs.specs.Variable.{is_listed}
use Rattle.trs_defs.specs.Path.{PlacedRule}
use Rattle.trs_defs.specs.System.{RewriteRule}
use Rattle.trs_defs.proofs.Members.{in_map, of_map}
use Rattle.trs_defs.proofs.ListItems.{item_there, kept_item}
use Rattle.confluence_theory.specs.RanksFit.{RanksFit}
use Rattle.confluence_theory.specs.RuleRanks.{rank_of}
use Rattle.term_pool.specs.Pooled.{AreDistinct, Extends, StandsFor, tree_at}
use Rattle.term_pool.specs.Listed.{Listed}
use Rattle.term_pool.specs.ListedIds.{listed, listed_at}
use Rattle.term_pool.proofs.PoolTrees.{stands}
use Rattle.term_pool.proofs.ReachedIds.{same_listed}
use Rattle.rewrite_core.specs.PlacedPeak.{PlacedPeak}
use Rattle.rule_label.specs.Labelled.{ranks_along}
use Rattle.path_lists.specs.PathList.{IsPathList}
use Rattle.path_lists.specs.Adding.{Entry}
use Rattle.join_find.specs.KeptLists.{list_of}
use Rattle.join_find.specs.declared.kept_lists.KeptLists.{KeptLists}
use Rattle.join_find.specs.First.{Along, along_end, along_item}
use Rattle.label_find.specs.declared.side_rules.SideRules.{SideRules}
use Rattle.label_find.specs.declared.constraint.PeakConstraint.{PeakConstraint}
use Rattle.label_find.specs.declared.rule_list.RuleList.{RuleList}
use Rattle.label_find.specs.RuleList.{rules_listed}
use Rattle.label_find.specs.LabelRow.{PeakPaths, ArePathsOf, rules_along, rules_of, rules_used, CanClose}
use Rattle.label_find.specs.Lists.{rules_in, IsAlong, AreListsTo}
use Rattle.label_find.specs.Grouping.{HasEnd, count_of, lists_at}
use Rattle.label_find.specs.Meetings.{MeetAt, AreMeetings}
use Rattle.label_find.specs.SideRules.{IsSideOf}
use Rattle.label_find.specs.Constraint.{some_meet}
use Rattle.label_find.specs.ConstraintPuzzle.{used_by, IsConstraintOf, UsesLists, SaysOf, IsConstraintFor}
use Rattle.label_find.specs.declared.listed_sides.ListedSides.{ListedSides}
use Rattle.label_find.specs.ListedSides.{AreListed, IsNumbered, IsFrontOf}
use Rattle.label_find.proofs.PathsOfSides.{list_from, ends_below}
use Rattle.label_find.proofs.FitTests.{same_ranks_along, some_fit_has, some_fit_from, some_meet_has, some_meet_from}
use Rattle.label_find.proofs.RuleLists.{listed_append, of_left as among_left, of_right as among_right}
use Rattle.label_find.proofs.Groupings.{place_there, end_within, group_lists}

pub same_rules_of : (pool : List Tree) (es : List Entry) → rules_of (listed_at pool es) ≡ rules_in es
same_rules_of pool [] = refl
same_rules_of pool (e ∷ es) = ap (λ (xs : List ℕ). rules_along e.1.items ++ xs) (same_rules_of pool es)

-- the rules along one of the paths are among those along all of them
listed_in_rules : (es : List Entry) (e : Entry) (k : ℕ) → In e es → IsTrue (is_listed k (rules_along e.1.items)) → IsTrue (is_listed k (rules_in es))
listed_in_rules [] e k i h = elim i [ ]
listed_in_rules (x ∷ es) e k in_first h = listed_append k (rules_along x.1.items) (rules_in es) ∙ or_left (is_listed k (rules_along x.1.items)) (is_listed k (rules_in es)) h
listed_in_rules (x ∷ es) e k (in_rest i) h =
    listed_append k (rules_along x.1.items) (rules_in es) ∙ or_right (is_listed k (rules_along x.1.items)) (is_listed k (rules_in es)) (listed_in_rules es e k i h)

-- the rules of a list to an end are among those of its path
along : (es : List Entry) (end : ℕ) (l : RuleList) (k : ℕ) → IsAlong es end (rules_listed l) → IsTrue (is_listed k (rules_listed l)) → IsTrue (is_listed k (rules_in es))
along es end l k (e, there, facts) listed_k = listed_in_rules es e k there (subst (λ (xs : List ℕ). IsTrue (is_listed k xs)) facts.1 listed_k)

-- a constraint of these two rules, over sides that have the rules along the paths from the left and from the right
module _ (lefts rights : List Entry) (left right : SideRules) (d : PeakConstraint) (of_left : IsSideOf lefts left) (of_right : IsSideOf rights right)
    (meetings : AreMeetings left.groups right.groups (count_of left.groups) d.meetings.items) where
  -- the lists of both sides at a meeting
  record MeetsAt (m : ℕ × ℕ) : Type 0 where
    end : ℕ
    from_left : AreListsTo lefts end (lists_at left.groups m.0)
    from_right : AreListsTo rights end (lists_at right.groups m.1)

  lists_of_meeting : (m : ℕ × ℕ) (end : ℕ) → MeetAt left.groups right.groups end m → MeetsAt m
  lists_of_meeting m end meet = record {
    end = end;
    from_left = group_lists lefts left.groups end m.0 of_left.groups meet.0;
    from_right = group_lists rights right.groups end m.1 of_right.groups meet.1;
  }

  each_meets : (m : ℕ × ℕ) → In m d.meetings.items → MeetsAt m
  each_meets m i = let (end, meet) = meetings.each m i in lists_of_meeting m end meet

  -- the meeting at the end of a path from the left that a path from the right has too
  meeting_of : (e f : Entry) → In e lefts → In f rights → e.0 ≡ f.0 → (m : ℕ × ℕ) × In m d.meetings.items × AreListsTo lefts e.0 (lists_at left.groups m.0) × AreListsTo rights e.0 (lists_at right.groups m.1)
  meeting_of e f i j same =
      let (x, x_there, x_is) = of_left.groups.complete e i in
      let (y, y_there, y_is) = of_right.groups.complete f j in
      let there_too : HasEnd right.groups e.0 = (y, y_there, y_is.0 ∙ sym same) in
      let (number, at) = place_there left.groups e.0 (x, x_there, x_is.0) in
      let (m, k, meet) = meetings.all number e.0 (end_within left.groups number e.0 at) at there_too in
      (m, k, group_lists lefts left.groups e.0 m.0 of_left.groups meet.0, group_lists rights right.groups e.0 m.1 of_right.groups meet.1)

  uses_lists : UsesLists (Some left) (Some right) d
  uses_lists = record {
    lefts = λ m l k i j listed_k. (let meets = each_meets m i in
        among_left d.inner d.outer left.used.items right.used.items k (of_left.used.each k ∙ along lefts meets.end l k (meets.from_left.sound l j) listed_k));
    rights = λ m l k i j listed_k. (let meets = each_meets m i in
        among_right d.inner d.outer left.used.items right.used.items k (of_right.used.each k ∙ along rights meets.end l k (meets.from_right.sound l j) listed_k));
  }

  module _ (inner outer : ℕ) (ranks : List ℕ) where
    -- two paths with one end that fit
    record MeetIds : Type 0 where
      left_path : Entry
      right_path : Entry
      in_lefts : In left_path lefts
      in_rights : In right_path rights
      meet : left_path.0 ≡ right_path.0
      left_fits : RanksFit (rank_of ranks inner) (rank_of ranks outer) (ranks_along ranks left_path.1.items)
      right_fits : RanksFit (rank_of ranks outer) (rank_of ranks inner) (ranks_along ranks right_path.1.items)

    abbrev Met : Type 0
    Met = IsTrue (some_meet ranks (rank_of ranks inner) (rank_of ranks outer) (lists_at left.groups) (lists_at right.groups) d.meetings.items)

    fits_along : (a b : ℕ) (l : RuleList) (path : List PlacedRule) → (rules_listed l) ≡ rules_along path → RanksFit a b (map (rank_of ranks) (rules_listed l)) → RanksFit a b (ranks_along ranks path)
    fits_along a b l path is fits = subst (RanksFit a b) (ap (map (rank_of ranks)) is ∙ same_ranks_along ranks path) fits

    fits_list : (a b : ℕ) (l : RuleList) (path : List PlacedRule) → (rules_listed l) ≡ rules_along path → RanksFit a b (ranks_along ranks path) → RanksFit a b (map (rank_of ranks) (rules_listed l))
    fits_list a b l path is fits = subst (RanksFit a b) (sym (ap (map (rank_of ranks)) is ∙ same_ranks_along ranks path)) fits

    meet_ids : Met → MeetIds
    meet_ids met =
        let (m, i, tests) = some_meet_has ranks (lists_at left.groups) (lists_at right.groups) (rank_of ranks inner) (rank_of ranks outer) d.meetings.items met in
        let meets = each_meets m i in
        let (l, j, left_fits) = some_fit_has ranks (rank_of ranks inner) (rank_of ranks outer) (lists_at left.groups m.0) tests.0 in
        let (r, k, right_fits) = some_fit_has ranks (rank_of ranks outer) (rank_of ranks inner) (lists_at right.groups m.1) tests.1 in
        let (e, e_there, e_is) = meets.from_left.sound l j in
        let (f, f_there, f_is) = meets.from_right.sound r k in
        record {
          left_path = e;
          right_path = f;
          in_lefts = e_there;
          in_rights = f_there;
          meet = e_is.0 ∙ sym f_is.0;
          left_fits = fits_along (rank_of ranks inner) (rank_of ranks outer) l e.1.items e_is.1 left_fits;
          right_fits = fits_along (rank_of ranks outer) (rank_of ranks inner) r f.1.items f_is.1 right_fits;
        }

    met_by_ids : MeetIds → Met
    met_by_ids x =
        let (m, i, from_left, from_right) = meeting_of x.left_path x.right_path x.in_lefts x.in_rights x.meet in
        let (l, j, l_is) = from_left.complete x.left_path x.in_lefts refl in
        let (r, k, r_is) = from_right.complete x.right_path x.in_rights (sym x.meet) in
        some_meet_from ranks (lists_at left.groups) (lists_at right.groups) (rank_of ranks inner) (rank_of ranks outer) d.meetings.items m i (
          some_fit_from ranks (rank_of ranks inner) (rank_of ranks outer) (lists_at left.groups m.0) l j (fits_list (rank_of ranks inner) (rank_of ranks outer) l x.left_path.1.items l_is x.left_fits),
          some_fit_from ranks (rank_of ranks outer) (rank_of ranks inner) (lists_at right.groups m.1) r k (fits_list (rank_of ranks outer) (rank_of ranks inner) r x.right_path.1.items r_is x.right_fits),
        )

entry_below : (n : ℕ) (es : List Entry) (e : Entry) → All (λ x. x.0 < n) es → In e es → e.0 < n
entry_below n [] e below i = elim i [ ]
entry_below n (x ∷ es) e below in_first = All-head (λ (y : Entry). y.0 < n) x es below
entry_below n (x ∷ es) e below (in_rest i) = entry_below n es e (All-tail (λ (y : Entry). y.0 < n) x es below) i

pub paths_of : (rules : List RewriteRule) (a b : List Tree) (lefts rights : List Entry) (peak : PlacedPeak) (left right : Tree) → Extends a b → All (λ e. e.0 < length a) lefts → left ≡ peak.left
    → right ≡ peak.right → IsPathList rules left (listed_at a lefts) → IsPathList rules right (listed_at b rights) → ArePathsOf rules peak (record { peak = peak; lefts = listed_at b lefts; rights = listed_at b rights })
paths_of rules a b lefts rights peak left right extends below left_is right_is from_left from_right = record {
  is = refl;
  from_left = subst (λ (t : Tree). IsPathList rules t (listed_at b lefts)) left_is (subst (λ (es : List Listed). IsPathList rules left es) (sym (same_listed a b extends lefts below)) from_left);
  from_right = subst (λ (t : Tree). IsPathList rules t (listed_at b rights)) right_is from_right;
}

pub says_of : (pool : List Tree) (peak : PlacedPeak) (lefts rights : List Entry) (left right : SideRules) (d : PeakConstraint) → AreDistinct pool → All (λ e. e.0 < length pool) lefts
    → All (λ e. e.0 < length pool) rights → d.inner ≡ peak.inner → d.outer ≡ peak.outer → IsSideOf lefts left → IsSideOf rights right
    → AreMeetings left.groups right.groups (count_of left.groups) d.meetings.items
    → SaysOf (record { peak = peak; lefts = listed_at pool lefts; rights = listed_at pool rights }) (Some left) (Some right) d
says_of pool peak lefts rights left right d distinct lefts_below rights_below inner_is outer_is of_left of_right meetings = record {
  used = same_used;
  met = λ ranks. (
    λ t. closes ranks (meet_ids lefts rights left right d of_left of_right meetings d.inner d.outer ranks t),
    λ c. met_by_ids lefts rights left right d of_left of_right meetings d.inner d.outer ranks (meets ranks c),
  );
  lists = uses_lists lefts rights left right d of_left of_right meetings;
}
  where
    same_used : (k : ℕ) → is_listed k (used_by (Some left) (Some right) d) ≡ is_listed k (rules_used (record { peak = peak; lefts = listed_at pool lefts; rights = listed_at pool rights }))
    same_used k =
        let all : ℕ → ℕ → Bool → Bool = λ i o rest. (i == k) || ((o == k) || rest) in
        let sides : is_listed k (left.used.items ++ right.used.items) ≡ is_listed k (rules_of (listed_at pool lefts) ++ rules_of (listed_at pool rights)) =
        listed_append k left.used.items right.used.items
        ∙ (ap₂ (λ x y. x || y) (of_left.used.each k ∙ ap (is_listed k) (sym (same_rules_of pool lefts))) (of_right.used.each k ∙ ap (is_listed k) (sym (same_rules_of pool rights)))
        ∙ sym (listed_append k (rules_of (listed_at pool lefts)) (rules_of (listed_at pool rights)))) in
        ap (all d.inner d.outer) sides
        ∙ (ap (λ i. all i d.outer (is_listed k (rules_of (listed_at pool lefts) ++ rules_of (listed_at pool rights)))) inner_is
        ∙ ap (λ o. all peak.inner o (is_listed k (rules_of (listed_at pool lefts) ++ rules_of (listed_at pool rights)))) outer_is)

    closes : (ranks : List ℕ) → MeetIds lefts rights left right d of_left of_right meetings d.inner d.outer ranks
        → CanClose ranks (record { peak = peak; lefts = listed_at pool lefts; rights = listed_at pool rights })
    closes ranks x = (
      listed pool x.left_path,
      in_map (listed pool) x.in_lefts,
      (
        listed pool x.right_path,
        in_map (listed pool) x.in_rights,
        record {
          meet = ap (tree_at pool) x.meet;
          left_fits = subst (λ (o : ℕ). RanksFit (rank_of ranks peak.inner) (rank_of ranks o) (ranks_along ranks x.left_path.1.items)) outer_is
              (subst (λ (i : ℕ). RanksFit (rank_of ranks i) (rank_of ranks d.outer) (ranks_along ranks x.left_path.1.items)) inner_is x.left_fits);
          right_fits = subst (λ (o : ℕ). RanksFit (rank_of ranks o) (rank_of ranks peak.inner) (ranks_along ranks x.right_path.1.items)) outer_is
              (subst (λ (i : ℕ). RanksFit (rank_of ranks d.outer) (rank_of ranks i) (ranks_along ranks x.right_path.1.items)) inner_is x.right_fits);
        },
      ),
    )

    meets : (ranks : List ℕ) → CanClose ranks (record { peak = peak; lefts = listed_at pool lefts; rights = listed_at pool rights })
        → MeetIds lefts rights left right d of_left of_right meetings d.inner d.outer ranks
    meets ranks (t, i, (u, j, c)) =
        let (e, e_there, e_is) = of_map (listed pool) lefts i in
        let (f, f_there, f_is) = of_map (listed pool) rights j in
        let e_below = entry_below (length pool) lefts e lefts_below e_there in
        let f_below = entry_below (length pool) rights f rights_below f_there in
        let same : tree_at pool e.0 ≡ tree_at pool f.0 = sym (ap (λ (x : Listed). x.term) e_is) ∙ (c.meet ∙ ap (λ (x : Listed). x.term) f_is) in
        record {
          left_path = e;
          right_path = f;
          in_lefts = e_there;
          in_rights = f_there;
          meet = distinct.same e.0 f.0 (tree_at pool f.0) (stands pool e.0 e_below ∙ ap (λ (x : Tree). Some x) same) (stands pool f.0 f_below);
          left_fits = subst (λ (o : ℕ). RanksFit (rank_of ranks d.inner) (rank_of ranks o) (ranks_along ranks e.1.items)) (sym outer_is)
              (subst (λ (i : ℕ). RanksFit (rank_of ranks i) (rank_of ranks peak.outer) (ranks_along ranks e.1.items)) (sym inner_is)
              (subst (λ (x : Listed). RanksFit (rank_of ranks peak.inner) (rank_of ranks peak.outer) (ranks_along ranks x.path)) e_is c.left_fits));
          right_fits = subst (λ (o : ℕ). RanksFit (rank_of ranks o) (rank_of ranks d.inner) (ranks_along ranks f.1.items)) (sym outer_is)
              (subst (λ (i : ℕ). RanksFit (rank_of ranks peak.outer) (rank_of ranks i) (ranks_along ranks f.1.items)) (sym inner_is)
              (subst (λ (x : Listed). RanksFit (rank_of ranks peak.outer) (rank_of ranks peak.inner) (ranks_along ranks x.path)) f_is c.right_fits));
        }

-- the constraint of a peak, of paths that were listed in a pool one side after the other, and of their sides in a table
pub constraint_for : (rules : List RewriteRule) (pool : List Tree) (sides : List SideRules) (lefts rights : List Entry) (peak : PlacedPeak) (left right : SideRules) (inner outer i j : ℕ) (d : PeakConstraint)
    → AreDistinct pool → All (λ e. e.0 < length pool) lefts → All (λ e. e.0 < length pool) rights → inner ≡ peak.inner → outer ≡ peak.outer
    → IsPathList rules peak.left (listed_at pool lefts) → IsPathList rules peak.right (listed_at pool rights) → slice_get sides i ≡ Some left → slice_get sides j ≡ Some right
    → IsSideOf lefts left → IsSideOf rights right → IsConstraintOf inner outer i j sides d → IsConstraintFor rules sides peak d
constraint_for rules pool sides lefts rights peak left right inner outer i j d distinct lefts_below rights_below inner_is outer_is from_left from_right left_at right_at of_left of_right h =
    let p : PeakPaths = record { peak = peak; lefts = listed_at pool lefts; rights = listed_at pool rights } in
    let left_is : slice_get sides d.left ≡ Some left = ap (slice_get sides) h.left_is ∙ left_at in
    let right_is : slice_get sides d.right ≡ Some right = ap (slice_get sides) h.right_is ∙ right_at in
    let says : SaysOf p (Some left) (Some right) d =
    says_of pool peak lefts rights left right d distinct lefts_below rights_below (h.inner_is ∙ inner_is) (h.outer_is ∙ outer_is) of_left of_right (h.meetings left right left_at right_at) in
    record {
      paths = p;
      are_paths = record { is = refl; from_left = from_left; from_right = from_right };
      says = record {
        there = record { left = slice_get_within sides d.left left left_is; right = slice_get_within sides d.right right right_is };
        says = subst (λ (o : Option SideRules). SaysOf p o (slice_get sides d.right) d) (sym left_is) (subst (λ (o : Option SideRules). SaysOf p (Some left) o d) (sym right_is) says);
      };
    }

-- the constraint of a peak, of sides that have numbers in the table
pub constraint_of_numbered : (rules : List RewriteRule) (from : List Tree) (listed numbered : ListedSides) (table : List SideRules) (peak : PlacedPeak) (left_tree right_tree : Tree) (left_id right_id inner outer left right : ℕ)
    (d : PeakConstraint) → numbered.lists ≡ listed.lists → AreListed rules from listed → AreDistinct listed.pool → StandsFor listed.pool left_id left_tree → StandsFor listed.pool right_id right_tree
    → left_tree ≡ peak.left → right_tree ≡ peak.right → inner ≡ peak.inner → outer ≡ peak.outer → IsNumbered numbered table left_id left → IsNumbered numbered table right_id right
    → IsConstraintOf inner outer left right table d → IsConstraintFor rules table peak d
constraint_of_numbered rules from listed numbered table peak left_tree right_tree left_id right_id inner outer left right d same sides distinct left_stands right_stands left_is right_is inner_is outer_is of_left of_right h =
    let left_at : list_of listed.lists left_id ≡ Some of_left.paths = ap (λ (lists : KeptLists). list_of lists left_id) (sym same) ∙ of_left.listed in
    let right_at : list_of listed.lists right_id ≡ Some of_right.paths = ap (λ (lists : KeptLists). list_of lists right_id) (sym same) ∙ of_right.listed in
    let P : List Entry → Tree → Type 0 = λ paths t. IsPathList rules t (listed_at listed.pool paths) in
    constraint_for rules listed.pool table of_left.paths of_right.paths peak of_left.side of_right.side inner outer left right d distinct
    (ends_below rules from listed sides left_id left_tree of_left.paths left_at) (ends_below rules from listed sides right_id right_tree of_right.paths right_at) inner_is outer_is
    (subst (P of_left.paths) left_is (list_from rules from listed sides left_id left_tree of_left.paths left_at left_stands))
    (subst (P of_right.paths) right_is (list_from rules from listed sides right_id right_tree of_right.paths right_at right_stands)) of_left.there of_right.there of_left.of_paths of_right.of_paths h

-- a constraint over a table that has grown
pub constraint_still : (rules : List RewriteRule) (old new : List SideRules) (peak : PlacedPeak) (d : PeakConstraint) → IsFrontOf old new → IsConstraintFor rules old peak d → IsConstraintFor rules new peak d
constraint_still rules old new peak d front h =
    let there = h.says.there in
    let same : (i : ℕ) → i < length old → slice_get new i ≡ slice_get old i =
    λ i below. (let (side, at) = item_there old i below in ap (λ (ss : List SideRules). slice_get ss i) front.is ∙ (kept_item old front.more i side at ∙ sym at)) in
    let longer : length old ≤ length new = (let e = ap length front.is in let n = length-append old front.more in omega (arith, e, n)) in
    record {
      paths = h.paths;
      are_paths = h.are_paths;
      says = record {
        there = record { left = omega (arith, there.left, longer); right = omega (arith, there.right, longer) };
        says = subst (λ (o : Option SideRules). SaysOf h.paths o (slice_get new d.right) d) (sym (same d.left there.left))
            (subst (λ (o : Option SideRules). SaysOf h.paths (slice_get old d.left) o d) (sym (same d.right there.right)) h.says.says);
      };
    }

pub constraints_still : (rules : List RewriteRule) (old new : List SideRules) {peaks : List PlacedPeak} {ds : List PeakConstraint} → IsFrontOf old new → Along (IsConstraintFor rules old) peaks ds
    → Along (IsConstraintFor rules new) peaks ds
constraints_still rules old new front along_end = along_end
constraints_still rules old new front (along_item {a = peak} {b = d} h rest) = along_item (constraint_still rules old new peak d front h) (constraints_still rules old new front rest)

pub ok_map : {A E : Type 0} (r : Result A E) (P Q : A → Type 0) → ((a : A) → P a → Q a) → IfOk r P → IfOk r Q
ok_map (Ok a) P Q f h = f a h
ok_map (Err e) P Q f h = tt
