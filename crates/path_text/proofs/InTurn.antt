-- Items that are read in turn, in a loop.
use Rattle.std.proofs.Common.{◌≡◌, ℕ, ◌+◌, ◌<◌, ◌≤◌, List, [], ◌∷◌, ◌++◌, length, get_or, drop, Ok, Err, IfOk, refl, sym, ap, ◌∙◌, append_assoc}
use Rattle.std.proofs.lemmas.List.{drop_all, append-nil}
use Rattle.sexp_core.specs.declared.sexp.Sexp.{Sexp}
use Rattle.sexp_core.specs.Items.{Item, Items, no_items, item, view, views}
use Rattle.trs_defs.specs.Path.{PlacedRule}
use Rattle.text_reading.specs.Reading.{Read, ◌<*>◌, ended}
use Rattle.text_reading.specs.Seen.{seen}
use Rattle.path_text.specs.Sharing.{Sharing, behind_path, behind_paths}
use Rattle.path_text.specs.Paths.{◌then_read◌, in_turn, paths_in}
use Rattle.path_text.proofs.Weighing.{next_of}

-- these values, and what is read behind them
abbrev pub behind_values : {A : Type 0} → List A → Read (List A) → Read (List A)
behind_values vs r = Ok (λ ws. vs ++ ws) <*> r

one_value : {A : Type 0} (vs : List A) (v : A) (r : Read (List A)) → behind_values (vs ++ v ∷ []) r ≡ behind_values vs (Ok (λ ws. v ∷ ws) <*> r)
one_value vs v (Ok ws) = ap Ok (append_assoc vs (v ∷ []) ws)
one_value vs v (Err p) = refl

pub no_value : {A : Type 0} (vs : List A) → behind_values vs (Ok []) ≡ Ok vs
no_value vs = ap Ok (append-nil vs)

pub paths_joined : {A : Type 0} (paths : A → List (List PlacedRule)) (xs ys : List A) → paths_in paths (xs ++ ys) ≡ paths_in paths xs ++ paths_in paths ys
paths_joined paths [] ys = refl
paths_joined paths (x ∷ xs) ys = ap (λ ps. paths x ++ ps) (paths_joined paths xs ys) ∙ sym (append_assoc (paths x) (paths_in paths xs) (paths_in paths ys))

pub behind_joined : (s : Sharing) (ps qs : List (List PlacedRule)) → behind_paths s (ps ++ qs) ≡ behind_paths (behind_paths s ps) qs
behind_joined s [] qs = refl
behind_joined s (p ∷ ps) qs = behind_joined (behind_path s p) ps qs

-- what was left behind values, and behind one more
pub left_more : {A : Type 0} (paths : A → List (List PlacedRule)) (s0 s t : Sharing) (vs : List A) (v : A) → s ≡ behind_paths s0 (paths_in paths vs) → t ≡ behind_paths s (paths v)
    → t ≡ behind_paths s0 (paths_in paths (vs ++ v ∷ []))
left_more {A} paths s0 s t vs v is more =
    more ∙ ap (λ (u : Sharing). behind_paths u (paths v)) is ∙ sym (behind_joined s0 (paths_in paths vs) (paths v))
    ∙ ap (behind_paths s0) (sym (paths_joined paths vs (v ∷ []) ∙ ap (λ ps. paths_in paths vs ++ ps) (append-nil (paths v))))

module _ {A : Type 0} (read : Sharing → Item → Read A) (paths : A → List (List PlacedRule)) (s : Sharing) (xs : List Sexp) (x : Sexp) (i : ℕ) (vs : List A) (total : Read (List A)) (lt : i < length xs)
    (is : x ≡ get_or xs i x) (before : behind_values vs (in_turn read paths s (views (drop i xs))) ≡ total) where
  first_of : behind_values vs (read s (view x) then_read (λ y. Ok (λ ys. y ∷ ys) <*> in_turn read paths (behind_paths s (paths y)) (views (drop (i + 1) xs)))) ≡ total
  first_of = sym (ap (λ (ys : List Sexp). behind_values vs (in_turn read paths s (views ys))) (next_of xs x i lt is)) ∙ before

  pub turn_taken : (v : A) (t : Sharing) → read s (view x) ≡ Ok v → t ≡ behind_paths s (paths v) → behind_values (vs ++ v ∷ []) (in_turn read paths t (views (drop (i + 1) xs))) ≡ total
  turn_taken v t reads left =
      let rest = views (drop (i + 1) xs) in
      ap (λ (u : Sharing). behind_values (vs ++ v ∷ []) (in_turn read paths u rest)) left
      ∙ one_value vs v (in_turn read paths (behind_paths s (paths v)) rest)
      ∙ sym (ap (λ (r : Read A). behind_values vs (r then_read (λ y. Ok (λ ys. y ∷ ys) <*> in_turn read paths (behind_paths s (paths y)) rest))) reads)
      ∙ first_of

  pub turn_refused : (p : ℕ) → read s (view x) ≡ Err p → Err p ≡ total
  turn_refused p reads =
      let rest = views (drop (i + 1) xs) in
      sym (ap (λ (r : Read A). behind_values vs (r then_read (λ y. Ok (λ ys. y ∷ ys) <*> in_turn read paths (behind_paths s (paths y)) rest))) reads)
      ∙ first_of

pub turns_end : {A : Type 0} (read : Sharing → Item → Read A) (paths : A → List (List PlacedRule)) (s : Sharing) (xs : List Sexp) (i : ℕ) (vs : List A) (total : Read (List A)) → length xs ≤ i
    → behind_values vs (in_turn read paths s (views (drop i xs))) ≡ total → Ok vs ≡ total
turns_end read paths s xs i vs total le before =
    sym (no_value vs) ∙ sym (ap (λ (ys : List Sexp). behind_values vs (in_turn read paths s (views ys))) (drop_all i xs le)) ∙ before

-- ---- parts of a production that was read

pub ended_read : {B : Type 0} (r : Read B) (more : Items) (v : B) → ended r more ≡ Ok v → r ≡ Ok v
ended_read (Ok x) no_items v e = e
ended_read (Err p) no_items v e = absurd cc
ended_read (Ok x) (item y ys) v e = absurd cc
ended_read (Err p) (item y ys) v e = absurd cc

pub if_read : {X A : Type 0} (view : X → A) (P : A → Type 0) (r : Read X) (a : Read A) → seen view r ≡ a → ((v : A) → a ≡ Ok v → P v) → IfOk r (λ x. P (view x))
if_read view P (Ok x) a e h = h (view x) (sym e)
if_read view P (Err p) a e h = tt
