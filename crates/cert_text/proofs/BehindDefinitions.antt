-- Definitions that are read one after another, and the steps behind them.
use Rattle.std.proofs.Common.{◌≡◌, ℕ, ◌+◌, ◌<◌, ◌≤◌, Bool, true, false, cond, List, [], ◌∷◌, length, get_or, drop, Some, Ok, Err, codes, refl, sym, ap, ◌∙◌}
use Rattle.std.proofs.lemmas.List.{drop_all}
use Rattle.sexp_core.specs.declared.sexp.Sexp.{Sexp}
use Rattle.sexp_core.specs.Items.{Items, item, view, views}
use Rattle.names_text.specs.Named.{NamedSystem}
use Rattle.step_text.specs.cert_step.ProofStep.{ProofNodeStep}
use Rattle.text_reading.specs.Reading.{Read}
use Rattle.text_reading.specs.Seen.{seen}
use Rattle.text_reading.proofs.Made.{ok_same}
use Rattle.path_text.specs.declared.sharing.Shared.{Shared}
use Rattle.path_text.specs.Sharing.{Definition, with_definition}
use Rattle.path_text.specs.Paths.{◌then_read◌, begins_with, in_turn}
use Rattle.path_text.specs.Defining.{define}
use Rattle.path_text.proofs.Weighing.{next_of}
use Rattle.step_text.specs.Steps.{step, paths_of_step}
use Rattle.cert_text.specs.CertificateText.{steps_behind}

module _ (named : NamedSystem) (shared : Shared) (xs : List Sexp) (x : Sexp) (i : ℕ) (total : Read (List ProofNodeStep)) (lt : i < length xs) (is : x ≡ get_or xs i x)
    (before : steps_behind named shared (views (drop i xs)) ≡ total) where
  from_here : steps_behind named shared (item (view x) (views (drop (i + 1) xs))) ≡ total
  from_here = sym (ap (λ (ys : List Sexp). steps_behind named shared (views ys)) (next_of xs x i lt is)) ∙ before

  -- the steps begin here
  pub steps_from : begins_with (codes "define") (view x) ≡ false → in_turn (step named) paths_of_step (Some shared) (views (drop i xs)) ≡ total
  steps_from no_define =
      ap (λ (ys : List Sexp). in_turn (step named) paths_of_step (Some shared) (views ys)) (next_of xs x i lt is)
      ∙ (let steps : steps_behind named shared (item (view x) (views (drop (i + 1) xs))) ≡ in_turn (step named) paths_of_step (Some shared) (item (view x) (views (drop (i + 1) xs))) = rw no_define refl in
      sym steps) ∙ from_here

  module _ (begins : begins_with (codes "define") (view x) ≡ true) where
    read_then : define shared (view x) then_read (λ d. steps_behind named (with_definition shared d) (views (drop (i + 1) xs))) ≡ total
    read_then =
        (let steps : steps_behind named shared (item (view x) (views (drop (i + 1) xs))) ≡ define shared (view x) then_read (λ d. steps_behind named (with_definition shared d) (views (drop (i + 1) xs))) = rw begins refl in
        sym steps) ∙ from_here

    by_read : (r : Read Definition) (next : Shared) → r then_read (λ d. steps_behind named (with_definition shared d) (views (drop (i + 1) xs))) ≡ total → Ok next ≡ seen (with_definition shared) r
        → steps_behind named next (views (drop (i + 1) xs)) ≡ total
    by_read (Ok d) next e added = ap (λ (s : Shared). steps_behind named s (views (drop (i + 1) xs))) (ok_same next (with_definition shared d) added) ∙ e
    by_read (Err p) next e added = absurd cc

    by_refusal : (r : Read Definition) (p : ℕ) → r then_read (λ d. steps_behind named (with_definition shared d) (views (drop (i + 1) xs))) ≡ total → Err p ≡ seen (with_definition shared) r → Err p ≡ total
    by_refusal (Ok d) p e refused = absurd cc
    by_refusal (Err q) p e refused = (let same : p ≡ q = cc in ap Err same) ∙ e

    -- one more definition
    pub define_taken : (next : Shared) → Ok next ≡ seen (with_definition shared) (define shared (view x)) → steps_behind named next (views (drop (i + 1) xs)) ≡ total
    define_taken next added = by_read (define shared (view x)) next read_then added

    pub define_refused : (p : ℕ) → Err p ≡ seen (with_definition shared) (define shared (view x)) → Err p ≡ total
    define_refused p refused = by_refusal (define shared (view x)) p read_then refused

pub definitions_end : (named : NamedSystem) (shared : Shared) (xs : List Sexp) (i : ℕ) (total : Read (List ProofNodeStep)) → length xs ≤ i → steps_behind named shared (views (drop i xs)) ≡ total → Ok [] ≡ total
definitions_end named shared xs i total le before = sym (ap (λ (ys : List Sexp). steps_behind named shared (views ys)) (drop_all i xs le)) ∙ before
