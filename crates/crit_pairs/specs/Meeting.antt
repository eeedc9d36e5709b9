-- Terms that are unified by binding one variable after another.
use Rattle.std.specs.Prelude.{◌≡◌, ◌↔◌, ℕ, zero, suc, ◌==◌, if◌then◌else◌, List, [], ◌∷◌, Option, Some, None, IsTrue, All, unwrap_or}
use Rattle.trs_defs.specs.Tree.{Tree, var}
use Rattle.trs_defs.specs.Variable.{has_var}
use Rattle.trs_defs.specs.Substitution.{apply}
use Rattle.trs_defs.specs.Unifier.{IsMostGeneralUnifier}
use Rattle.trs_core.specs.View.{tree}
use Rattle.crit_pairs.specs.Sides.{DoNotMeet}
use Rattle.crit_pairs.specs.declared.binding_table.Binding.{Binding}
use Rattle.crit_pairs.specs.declared.binding_table.Bindings.{Bindings}
use Rattle.crit_pairs.specs.declared.meeting.Meeting.{Meeting}
use Rattle.crit_pairs.specs.declared.meeting.Meeting.TheVariants as meeting
use Rattle.crit_pairs.specs.declared.meeting.Solution.{Solution}
use Rattle.crit_pairs.specs.declared.meeting.Solution.TheVariants as found

-- the term that the first binding of the variable has
abbrev pub bound_term : List Binding → ℕ → Option Tree
bound_term [] v = None
bound_term (b ∷ bs) v = if b.variable == v then Some (tree b.term.now) else bound_term bs v

-- a variable that is not bound stays
abbrev pub bound_to : List Binding → ℕ → Tree
bound_to bs v = unwrap_or (bound_term bs v) (var v)

-- the substitution so many times
unfoldable pub times : ℕ → (ℕ → Tree) → ℕ → Tree
times zero σ v = var v
times (suc n) σ v = apply (times n σ) (σ v)

-- the term of a variable, with those of its variables put in, through so many bindings more
abbrev pub put_in : ℕ → List Binding → ℕ → Tree
put_in levels bs = times (suc levels) (bound_to bs)

-- the substitution that bindings stand for
abbrev pub solution : Bindings → ℕ → Tree
solution bindings = put_in bindings.levels bindings.list.items

-- the substitution makes each bound variable and its term equal
pub record Solves (bs : List Binding) (θ : ℕ → Tree) : Type 0 where
  pub solves : (v : ℕ) (t : Tree) → bound_term bs v ≡ Some t → θ v ≡ apply θ t

-- the substitutions that solve the bindings make the terms equal
abbrev pub SameUnder : List Binding → Tree → Tree → Type 0
SameUnder bs t u = (θ : ℕ → Tree) → Solves bs θ → apply θ t ≡ apply θ u

-- the substitutions that make the terms equal solve the bindings
abbrev pub AreEqualUnder : List Binding → Tree → Tree → Type 0
AreEqualUnder bs a b = (θ : ℕ → Tree) → apply θ a ≡ apply θ b → Solves bs θ

-- the substitutions that make the terms equal are those that solve the bindings
abbrev pub AreEqualExactlyUnder : List Binding → Tree → Tree → Type 0
AreEqualExactlyUnder bs a b = (θ : ℕ → Tree) → (apply θ a ≡ apply θ b) ↔ Solves bs θ

-- The old bindings, and that the terms are equal, say of substitutions what the new bindings say; where it is unclear, no less.
abbrev pub Meets : Tree → Tree → List Binding → List Binding → Meeting → Type 0
Meets a b old new meeting.Met = (θ : ℕ → Tree) → (Solves old θ × (apply θ a ≡ apply θ b)) ↔ Solves new θ
Meets a b old new meeting.Apart = (θ : ℕ → Tree) → Solves old θ → apply θ a ≡ apply θ b → ⊥
Meets a b old new meeting.Unclear = (θ : ℕ → Tree) → Solves old θ → apply θ a ≡ apply θ b → Solves new θ

-- once the terms of the variables are put in through so many bindings, putting in more changes nothing
abbrev pub Ends : ℕ → List Binding → Tree → Type 0
Ends levels bs t = (v : ℕ) → IsTrue (has_var v t) → times levels (bound_to bs) v ≡ times (suc levels) (bound_to bs) v

-- it is so for each term that a variable is bound to
abbrev pub AllEnd : ℕ → List Binding → Type 0
AllEnd levels bs = All (λ b. Ends levels bs (tree b.term.now)) bs

-- what was found of two terms
abbrev pub IsSolution : Tree → Tree → Solution → Type 0
IsSolution a b (found.Unifier bindings) = IsMostGeneralUnifier a b (solution bindings)
IsSolution a b found.None = DoNotMeet a b
IsSolution a b found.Unclear = Unit {0}
