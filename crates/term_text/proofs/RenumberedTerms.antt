-- Terms whose variables are numbered in the order of their first occurrences.
use Rattle.std.proofs.Common.{◌≡◌, ℕ, suc, ◌+◌, ◌^◌, ◌<◌, ◌≤◌, ◌||◌, Bool, true, false, cond, List, [], ◌∷◌, ◌++◌, length, Some, IsTrue, nat_eq, nat_le, refl, max, ap, ap₂, sym, ◌∙◌, append_assoc, arith, eq-eqb}
use Rattle.std.proofs.lemmas.Bool.{or_parts, and_parts, leb-true, lt-ltb, le-ltb}
use Rattle.std.proofs.lemmas.List.{append-nil, length-append}
use Rattle.trs_defs.specs.Tree.{Tree, Trees, var, app, nil, cons, count}
use Rattle.trs_defs.specs.Size.{size_of, size_of_all, depth_of, depth_of_all, within_limits}
use Rattle.trs_defs.specs.Variable.{is_listed, with_variables, with_variables_of_all, variables_of}
use Rattle.trs_defs.specs.WellFormed.{IsWellFormed, AreWellFormed}
use Rattle.names_text.specs.Named.{next_number, next_number_behind}
use Rattle.names_text.proofs.NumberedTerms.{has_below}
use Rattle.term_text.proofs.Numbering.{IsBelow, below_from}
use Rattle.term_text.specs.Renumbered.{number_among, with_numbers, all_with_numbers, in_order}

-- ---- numbers of variables

listed_by : (b rest : Bool) (i l : ℕ) → (b || rest) ≡ true → (rest ≡ true → i < l) → cond b 0 (suc i) < suc l
listed_by true rest i l e h = omega arith
listed_by false rest i l e h = omega (arith, h e)

number_listed : (known more : List ℕ) (v : ℕ) → is_listed v known ≡ true → number_among (known ++ more) v < length known
number_listed [] more v e = absurd cc
number_listed (n ∷ ns) more v e = listed_by (nat_eq n v) (is_listed v ns) (number_among (ns ++ more) v) (length ns) e (number_listed ns more v)

number_new : (known more : List ℕ) (v : ℕ) → is_listed v known ≡ false → number_among (known ++ v ∷ more) v ≡ length known
number_new [] more v e = rw (eq-eqb v v refl) refl
number_new (n ∷ ns) more v e =
    let parts = or_parts (nat_eq n v) (is_listed v ns) e in
    rw parts.0 (ap suc (number_new ns more v parts.1))

-- ---- the variables of a term stand behind those that are known

added_by : (b : Bool) (known : List ℕ) (n : ℕ) → (more : List ℕ) × (cond b known (known ++ n ∷ []) ≡ known ++ more)
added_by true known n = ([], sym (append-nil known))
added_by false known n = (n ∷ [], refl)

mutual
  added : (t : Tree) (known : List ℕ) → (more : List ℕ) × (with_variables known t ≡ known ++ more)
  added (var n) known = added_by (is_listed n known) known n
  added (app f ts) known = all_added ts known

  all_added : (ts : Trees) (known : List ℕ) → (more : List ℕ) × (with_variables_of_all known ts ≡ known ++ more)
  all_added nil known = ([], sym (append-nil known))
  all_added (cons t ts) known =
      let first = added t known in
      let rest = all_added ts (with_variables known t) in
      (first.0 ++ rest.0, rest.1 ∙ ap (λ (xs : List ℕ). xs ++ rest.0) first.1 ∙ append_assoc known first.0 rest.0)

count_by : (b : Bool) (known : List ℕ) (n : ℕ) → length (cond b known (known ++ n ∷ [])) ≤ length known + 1
count_by true known n = omega arith
count_by false known n = omega (arith, length-append known (n ∷ []))

mutual
  variables_count : (t : Tree) (known : List ℕ) → length (with_variables known t) ≤ length known + size_of t
  variables_count (var n) known = count_by (is_listed n known) known n
  variables_count (app f ts) known = omega (arith, all_variables_count ts known)

  all_variables_count : (ts : Trees) (known : List ℕ) → length (with_variables_of_all known ts) ≤ length known + size_of_all ts
  all_variables_count nil known = omega arith
  all_variables_count (cons t ts) known = omega (arith, variables_count t known, all_variables_count ts (with_variables known t))

-- ---- each variable is one that came before, or has the next number

next_by : (b : Bool) (known rest : List ℕ) (n : ℕ) → is_listed n known ≡ b
    → next_number (length known) (var (number_among (cond b known (known ++ n ∷ []) ++ rest) n)) ≡ Some (length (cond b known (known ++ n ∷ [])))
next_by true known rest n e = rw (lt-ltb (number_among (known ++ rest) n) (length known) (number_listed known rest n e)) refl
next_by false known rest n e =
    let number : number_among ((known ++ n ∷ []) ++ rest) n ≡ length known =
    ap (λ xs. number_among xs n) (append_assoc known (n ∷ []) rest) ∙ number_new known rest n e in
    let last : suc (length known) ≡ length (known ++ n ∷ []) = omega (arith, length-append known (n ∷ [])) in
    rw (number, le-ltb (length known) (length known) (omega arith), eq-eqb (length known) (length known) refl) (ap (λ m. Some m) last)

mutual
  numbers_next : (t : Tree) (known rest : List ℕ)
      → next_number (length known) (with_numbers (with_variables known t ++ rest) t) ≡ Some (length (with_variables known t))
  numbers_next (var n) known rest = next_by (is_listed n known) known rest n refl
  numbers_next (app f ts) known rest = all_numbers_next ts known rest

  all_numbers_next : (ts : Trees) (known rest : List ℕ)
      → next_number_behind (length known) (all_with_numbers (with_variables_of_all known ts ++ rest) ts) ≡ Some (length (with_variables_of_all known ts))
  all_numbers_next nil known rest = refl
  all_numbers_next (cons t ts) known rest =
      let all = with_variables_of_all (with_variables known t) ts ++ rest in
      let more = all_added ts (with_variables known t) in
      let same : all ≡ with_variables known t ++ (more.0 ++ rest) =
      ap (λ (xs : List ℕ). xs ++ rest) more.1 ∙ append_assoc (with_variables known t) more.0 rest in
      let first : next_number (length known) (with_numbers all t) ≡ Some (length (with_variables known t)) =
      ap (λ xs. next_number (length known) (with_numbers xs t)) same ∙ numbers_next t known (more.0 ++ rest) in
      rw first (all_numbers_next ts (with_variables known t) rest)

in_order_next : (t : Tree) → next_number 0 (in_order t) ≡ Some (length (variables_of t))
in_order_next t =
    ap (λ xs. next_number 0 (with_numbers xs t)) (sym (append-nil (variables_of t))) ∙ numbers_next t [] []

-- ---- the shape stays

count_numbered : (vs : List ℕ) (ts : Trees) → count (all_with_numbers vs ts) ≡ count ts
count_numbered vs nil = refl
count_numbered vs (cons t ts) = ap (λ n. 1 + n) (count_numbered vs ts)

mutual
  well_formed_numbered : (arities vs : List ℕ) (t : Tree) → IsWellFormed arities t → IsWellFormed arities (with_numbers vs t)
  well_formed_numbered arities vs (var n) wf = tt
  well_formed_numbered arities vs (app f ts) wf =
      (wf.0 ∙ ap (λ n. Some n) (sym (count_numbered vs ts)), all_well_formed_numbered arities vs ts wf.1)

  all_well_formed_numbered : (arities vs : List ℕ) (ts : Trees) → AreWellFormed arities ts → AreWellFormed arities (all_with_numbers vs ts)
  all_well_formed_numbered arities vs nil wf = tt
  all_well_formed_numbered arities vs (cons t ts) wf = (well_formed_numbered arities vs t wf.0, all_well_formed_numbered arities vs ts wf.1)

mutual
  size_numbered : (vs : List ℕ) (t : Tree) → size_of (with_numbers vs t) ≡ size_of t
  size_numbered vs (var n) = refl
  size_numbered vs (app f ts) = ap (λ n. 1 + n) (all_size_numbered vs ts)

  all_size_numbered : (vs : List ℕ) (ts : Trees) → size_of_all (all_with_numbers vs ts) ≡ size_of_all ts
  all_size_numbered vs nil = refl
  all_size_numbered vs (cons t ts) = ap₂ (λ m n. m + n) (size_numbered vs t) (all_size_numbered vs ts)

mutual
  depth_numbered : (vs : List ℕ) (t : Tree) → depth_of (with_numbers vs t) ≡ depth_of t
  depth_numbered vs (var n) = refl
  depth_numbered vs (app f ts) = ap (λ n. 1 + n) (all_depth_numbered vs ts)

  all_depth_numbered : (vs : List ℕ) (ts : Trees) → depth_of_all (all_with_numbers vs ts) ≡ depth_of_all ts
  all_depth_numbered vs nil = refl
  all_depth_numbered vs (cons t ts) = ap₂ (λ m n. max m n) (depth_numbered vs t) (all_depth_numbered vs ts)

-- a term with its own numbers, as it can be printed
pub record IsOwn (arities : List ℕ) (t : Tree) : Type 0 where
  pub number : ℕ
  pub next : next_number 0 t ≡ Some number
  pub well_formed : IsWellFormed arities t
  pub below : IsBelow number t
  pub small : IsBelow (2 ^ 64) t
  pub size : size_of t ≤ 65536
  pub depth : depth_of t ≤ 1024

pub own : (arities : List ℕ) (t : Tree) → IsWellFormed arities t → IsTrue (within_limits t) → IsOwn arities (in_order t)
own arities t wf limits =
    let next = in_order_next t in
    let parts = and_parts (nat_le (size_of t) 65536) (nat_le (depth_of t) 1024) limits in
    let size : size_of t ≤ 65536 = leb-true (size_of t) 65536 parts.0 in
    let depth : depth_of t ≤ 1024 = leb-true (depth_of t) 1024 parts.1 in
    let few : length (variables_of t) ≤ size_of t = omega (arith, variables_count t []) in
    let each = has_below 0 (in_order t) (length (variables_of t)) next in
    record {
      number = length (variables_of t);
      next = next;
      well_formed = well_formed_numbered arities (variables_of t) t wf;
      below = below_from (length (variables_of t)) (in_order t) each;
      small = below_from (2 ^ 64) (in_order t) (λ v h. omega (arith, each v h, few, size));
      size = omega (arith, size_numbered (variables_of t) t, size);
      depth = omega (arith, depth_numbered (variables_of t) t, depth);
    }
