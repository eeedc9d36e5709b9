-- Refusals of words.
use Rattle.std.proofs.Common.{◌≡◌, ◌⊎◌, List, [], ◌∷◌, Option, None, Err, refl, sym, ap, subst, ◌∙◌, inl, inr, true}
use Rattle.clap.specs.Words.{Kinds, IsAmong}
use Rattle.clap.specs.Faults.{walk_fault, defaults_fault}
use Rattle.clap.specs.Walk.{walked}
use Rattle.clap.specs.declared.error.kind.ErrorKind.{ErrorKind}
use Rattle.clap.specs.declared.error.kind.ErrorKind.TheVariants.{OutOfMemory as NoMemory}
use Rattle.clap.specs.Words.{App, Text, Row, fault_of, first_of, first_value, is_simple, is_simple_and_free, matches_of, rows_of}
use Rattle.clap.specs.declared.parser.matches.Found.{Found}
use Rattle.clap.proofs.WalkLemmas.{first_value-rows}
use Rattle.command_line.specs.Request.{Asked, Answers, where_none, command_app, request_of, asked_by}
use Rattle.command_line.specs.declared.Refused.{Refused}
use Rattle.command_line.specs.declared.Refused.TheVariants.{Usage, OutOfMemory}

answers_none : (r : Refused) → Answers (Err r) None
answers_none Usage = refl
answers_none OutOfMemory = tt

answers_memory : (r : Refused) (asked : Option Asked) → r ≡ OutOfMemory → Answers (Err r) asked
answers_memory Usage asked e = absurd cc
answers_memory OutOfMemory asked e = tt

pub refused : (k : ErrorKind) (kinds : Kinds) (r : Refused) (asked : Option Asked) → (k ≡ NoMemory → r ≡ OutOfMemory) → (k ≡ NoMemory) ⊎ IsAmong k kinds → Answers (Err r) (where_none kinds asked)
refused k [] r asked h (inl e) = answers_memory r asked (h e)
refused k [] r asked h (inr e) = absurd e
refused k (x ∷ xs) r asked h e = answers_none r

-- clap says of this command exactly when it refuses words
pub simple : is_simple_and_free command_app ≡ true
unfolding command_app
simple = refl

-- what the rows say of an argument is what a getter reads
pub row_value : (f : Found) (id : Text) → first_of id (rows_of f) ≡ first_value f id
row_value f id = sym (first_value-rows f id)

pub is_asked : (app : App) (words : List Text) (rows : List Row) (o : Option Asked) → app ≡ command_app → fault_of app words ≡ [] → rows ≡ matches_of app words → o ≡ asked_by rows → request_of words ≡ o
unfolding request_of
is_asked app words rows o e none r a =
    ap (λ k. where_none k (asked_by (matches_of command_app words))) (ap (λ (x : App). fault_of x words) (sym e) ∙ none)
    ∙ ap (λ (x : App). asked_by (matches_of x words)) (sym e) ∙ ap asked_by (sym r) ∙ sym a

pub is_refused : (app : App) (words : List Text) (k : ErrorKind) (r : Refused) → app ≡ command_app → (k ≡ NoMemory → r ≡ OutOfMemory) → (k ≡ NoMemory) ⊎ IsAmong k (fault_of app words) → Answers (Err r) (request_of words)
unfolding request_of
is_refused app words k r e h kinds =
    refused k (fault_of command_app words) r (asked_by (matches_of command_app words)) h (subst (λ (x : App). (k ≡ NoMemory) ⊎ IsAmong k (fault_of x words)) e kinds)

pub plain_simple : is_simple command_app ≡ true
unfolding command_app
plain_simple = refl

-- no words ask for nothing
pub nothing_asked : request_of [] ≡ None
unfolding request_of command_app walk_fault defaults_fault walked
nothing_asked = refl
