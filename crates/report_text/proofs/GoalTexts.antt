-- The texts of a goal's members, and the lines of goals, as they are written one after another.
use Rattle.std.specs.Prelude.{slice_get, Some, codes}
use Rattle.std.proofs.Common.{◌≡◌, ℕ, ◌+◌, ◌<◌, ◌≤◌, suc, List, [], ◌∷◌, ◌++◌, map, length, drop, get_or, refl, ap, ap₂, sym, ◌∙◌, arith, append_assoc, append-nil}
use Rattle.std.proofs.Math.Seq.{drop-cons}
use Rattle.std.proofs.lemmas.List.{drop_all}
use Rattle.sexp_core.specs.Items.{Item, items_of}
use Rattle.sexp_core.specs.Printed.{text_of, spaced, lines}
use Rattle.text_reading.specs.Printed.{word_item, list_item}
use Rattle.names_text.specs.Named.{NamedSystem}
use Rattle.tree_definitions.specs.declared.report.GoalReport.{GoalReport}
use Rattle.tree_definitions.specs.Reports.{part_of}
use Rattle.tree_definitions.proofs.cert_step.dp_core.Collecting.{next_item}
use Rattle.report_text.specs.GoalLines.{goal_item, goal_items}

pub spaced_joined : (xs ys : List Item) → spaced (items_of (xs ++ ys)) ≡ spaced (items_of xs) ++ spaced (items_of ys)
spaced_joined [] ys = refl
spaced_joined (x ∷ xs) ys =
    ap (λ (l : List ℕ). 32 ∷ (text_of x ++ l)) (spaced_joined xs ys)
    ∙ ap (λ (l : List ℕ). 32 ∷ l) (sym (append_assoc (text_of x) (spaced (items_of xs)) (spaced (items_of ys))))

-- what is put one after another, all behind the first
put_in_turn : (old start word steps stuck failed end : List ℕ)
    → (((((old ++ start) ++ word) ++ steps) ++ stuck) ++ failed) ++ end ≡ old ++ (start ++ (word ++ (steps ++ (stuck ++ (failed ++ end)))))
put_in_turn old start word steps stuck failed end =
    append_assoc ((((old ++ start) ++ word) ++ steps) ++ stuck) failed end
    ∙ append_assoc (((old ++ start) ++ word) ++ steps) stuck (failed ++ end)
    ∙ append_assoc ((old ++ start) ++ word) steps (stuck ++ (failed ++ end))
    ∙ append_assoc (old ++ start) word (steps ++ (stuck ++ (failed ++ end)))
    ∙ append_assoc old start (word ++ (steps ++ (stuck ++ (failed ++ end))))

members_ended : (word steps stuck failed : List ℕ)
    → ((word ++ (steps ++ (stuck ++ failed))) ++ 41 ∷ []) ++ 10 ∷ [] ≡ word ++ (steps ++ (stuck ++ (failed ++ 41 ∷ 10 ∷ [])))
members_ended word steps stuck failed =
    append_assoc (word ++ (steps ++ (stuck ++ failed))) (41 ∷ []) (10 ∷ [])
    ∙ append_assoc word (steps ++ (stuck ++ failed)) (41 ∷ 10 ∷ [])
    ∙ ap (λ (l : List ℕ). word ++ l) (append_assoc steps (stuck ++ failed) (41 ∷ 10 ∷ []))
    ∙ ap (λ (l : List ℕ). word ++ (steps ++ l)) (append_assoc stuck failed (41 ∷ 10 ∷ []))

-- the line of a goal, when its members were put one after another
pub goal_put : (word : List ℕ) (steps : List Item) (stuck : Item) (failed : List Item) (old o1 o2 o3 o4 o5 new : List ℕ)
    → o1 ≡ old ++ codes "(goal " → o2 ≡ o1 ++ word → o3 ≡ o2 ++ spaced (items_of steps) → o4 ≡ o3 ++ 32 ∷ text_of stuck
    → o5 ≡ o4 ++ spaced (items_of failed) → new ≡ o5 ++ 41 ∷ 10 ∷ []
    → new ≡ old ++ (text_of (list_item (word_item (codes "goal") ∷ word_item word ∷ steps ++ stuck ∷ failed)) ++ 10 ∷ [])
goal_put word steps stuck failed old o1 o2 o3 o4 o5 new p1 p2 p3 p4 p5 p6 =
    let start : List ℕ = codes "(goal " in
    let end : List ℕ = 41 ∷ 10 ∷ [] in
    let s : List ℕ = spaced (items_of steps) in
    let t : List ℕ = 32 ∷ text_of stuck in
    let f : List ℕ = spaced (items_of failed) in
    let q2 : o2 ≡ (old ++ start) ++ word = p2 ∙ ap (λ (l : List ℕ). l ++ word) p1 in
    let q3 : o3 ≡ ((old ++ start) ++ word) ++ s = p3 ∙ ap (λ (l : List ℕ). l ++ s) q2 in
    let q4 : o4 ≡ (((old ++ start) ++ word) ++ s) ++ t = p4 ∙ ap (λ (l : List ℕ). l ++ t) q3 in
    let q5 : o5 ≡ ((((old ++ start) ++ word) ++ s) ++ t) ++ f = p5 ∙ ap (λ (l : List ℕ). l ++ f) q4 in
    p6 ∙ ap (λ (l : List ℕ). l ++ end) q5 ∙ put_in_turn old start word s t f end
    ∙ ap (λ (l : List ℕ). old ++ (start ++ l)) (sym (members_ended word s t f))
    ∙ ap (λ (l : List ℕ). old ++ (start ++ (((word ++ l) ++ 41 ∷ []) ++ 10 ∷ []))) (sym (spaced_joined steps (stuck ∷ failed)))

-- the line of the next goal, before those behind it
pub line_before : (named : NamedSystem) (words : List (List ℕ)) (goals : List GoalReport) (i : ℕ) (word : List ℕ) (goal : GoalReport) (old new : List ℕ)
    → slice_get words i ≡ Some word → i < length goals → goal ≡ get_or goals i goal
    → new ≡ old ++ (text_of (goal_item named word (part_of goal)) ++ 10 ∷ [])
    → new ++ lines (items_of (goal_items named (drop (i + 1) words) (map part_of (drop (i + 1) goals))))
    ≡ old ++ lines (items_of (goal_items named (drop i words) (map part_of (drop i goals))))
line_before named words goals i word goal old new there below is made =
    let behind : List (List ℕ) → List GoalReport → List ℕ = λ ws gs. lines (items_of (goal_items named ws (map part_of gs))) in
    let rest : List ℕ = behind (drop (suc i) words) (drop (suc i) goals) in
    let text : List ℕ = text_of (goal_item named word (part_of goal)) in
    let next : drop i goals ≡ goal ∷ drop (suc i) goals = drop-cons goals i goal below ∙ ap (λ g. g ∷ drop (suc i) goals) (sym is) in
    let n : i + 1 ≡ suc i = omega arith in
    ap (λ k. new ++ behind (drop k words) (drop k goals)) n
    ∙ ap (λ (l : List ℕ). l ++ rest) made ∙ append_assoc old (text ++ 10 ∷ []) rest
    ∙ ap (λ (l : List ℕ). old ++ l) (append_assoc text (10 ∷ []) rest)
    ∙ sym (ap₂ (λ ws gs. old ++ behind ws gs) (next_item words i word there ∙ ap (λ k. word ∷ drop k words) n) next)

no_goals : (named : NamedSystem) (words : List (List ℕ)) → goal_items named words [] ≡ []
no_goals named [] = refl
no_goals named (word ∷ words) = refl

-- behind the last goal no line is left
pub lines_done : (named : NamedSystem) (words : List (List ℕ)) (goals : List GoalReport) (i : ℕ) (out whole : List ℕ) → length goals ≤ i
    → out ++ lines (items_of (goal_items named words (map part_of (drop i goals)))) ≡ whole → out ≡ whole
lines_done named words goals i out whole all is =
    let none : lines (items_of (goal_items named words (map part_of (drop i goals)))) ≡ [] =
    (ap (λ gs. lines (items_of (goal_items named words (map part_of gs)))) (drop_all i goals all)
    ∙ ap (λ items. lines (items_of items)) (no_goals named words)) in
    sym (append-nil out) ∙ ap (λ (l : List ℕ). out ++ l) (sym none) ∙ is
