-- The lines of a certificate, as they are written one after another.
use Rattle.std.proofs.Common.{◌≡◌, ℕ, List, [], ◌∷◌, ◌++◌, map, refl, ap, ◌∙◌, append_assoc}
use Rattle.sexp_core.specs.Items.{Item, Items, no_items, item, items_of}
use Rattle.sexp_core.specs.Printed.{text_of, lines}
use Rattle.trs_defs.specs.Path.{PlacedRule}
use Rattle.names_text.specs.Named.{NamedSystem}
use Rattle.step_text.specs.cert_step.ProofStep.{ProofNodeStep}
use Rattle.path_text.specs.PathNames.{repeated_paths}
use Rattle.path_text.specs.Paths.{paths_in}
use Rattle.path_text.specs.Defining.{define_items}
use Rattle.step_text.specs.Steps.{paths_of_step, step_item}
use Rattle.cert_text.specs.CertificateText.{lines_of_two, shared_lines}

line_before : (x : Item) (xs ys : List ℕ) → (text_of x ++ 10 ∷ xs) ++ ys ≡ text_of x ++ 10 ∷ (xs ++ ys)
line_before x xs ys = append_assoc (text_of x) (10 ∷ xs) ys

-- two lines, and those behind them
pub start_and_lines : (x y : Item) (rest : Items) (none out new : List ℕ) → none ≡ [] → out ≡ none ++ lines (item x (item y no_items)) → new ≡ out ++ lines rest
    → new ≡ lines (item x (item y rest))
start_and_lines x y rest none out new e f g =
    g ∙ ap (λ (l : List ℕ). l ++ lines rest) (f ∙ ap (λ (l : List ℕ). l ++ lines (item x (item y no_items))) e)
    ∙ line_before x (text_of y ++ 10 ∷ []) (lines rest)
    ∙ ap (λ (l : List ℕ). text_of x ++ 10 ∷ l) (line_before y [] (lines rest))

lines_joined : (xs ys : List Item) → lines (items_of xs) ++ lines (items_of ys) ≡ lines (items_of (xs ++ ys))
lines_joined [] ys = refl
lines_joined (x ∷ xs) ys = line_before x (lines (items_of xs)) (lines (items_of ys)) ∙ ap (λ (l : List ℕ). text_of x ++ 10 ∷ l) (lines_joined xs ys)

-- the definitions, and then the steps
pub shared_written : (named : NamedSystem) (steps : List ProofNodeStep) (ps names : List (List PlacedRule)) (old mid new : List ℕ)
    → ps ≡ paths_in paths_of_step steps → names ≡ repeated_paths ps → mid ≡ old ++ lines (items_of (define_items 0 names))
    → new ≡ mid ++ lines (items_of (map (step_item named names) steps)) → new ≡ old ++ lines (items_of (shared_lines named steps))
shared_written named steps ps names old mid new e f g h =
    let defined = lines (items_of (define_items 0 names)) in
    let written = lines (items_of (map (step_item named names) steps)) in
    h ∙ ap (λ (l : List ℕ). l ++ written) g ∙ append_assoc old defined written
    ∙ ap (λ (l : List ℕ). old ++ l) (lines_joined (define_items 0 names) (map (step_item named names) steps))
    ∙ ap (λ (ns : List (List PlacedRule)). old ++ lines (items_of (lines_of_two named ns steps))) (f ∙ ap repeated_paths e)
