-- Edges cover chain steps. The cap of a term is not computed: where a contradiction is wanted, it is enough that it can't be wanting.
use Rattle.std.proofs.Common.{◌≡◌, ◌≤◌, ◌↔◌, ℕ, ◌+◌, Bool, true, false, List, length, IsTrue, IsFalse, refl, sym, ap, ◌∙◌, subst, arith}
use Rattle.std.proofs.lemmas.Option.{slice_get_within}
use Rattle.trs_defs.specs.Tree.{Tree, Trees, var, app, nil, cons, count}
use Rattle.trs_defs.specs.Substitution.{apply, apply_all}
use Rattle.trs_defs.specs.WellFormed.{IsWellFormed}
use Rattle.trs_defs.specs.Run.{Run}
use Rattle.trs_defs.specs.Step.{deep}
use Rattle.trs_defs.specs.System.{RewriteRule, System, IsSystem, Among}
use Rattle.trs_defs.proofs.Members.{get_of_in}
use Rattle.trs_defs.proofs.Runs.{run_keeps}
use Rattle.trs_caps.specs.HoledTree.{HoledTree, HoledTrees, hole, symbol, none, more, Fits, EachFits, fits_symbol}
use Rattle.trs_caps.specs.HoledCap.{MeetsLeft, IsHoledCap, AreHoledCaps, free_variable, symbol_kept, symbol_opened, no_holed, one_holed}
use Rattle.trs_caps.proofs.Fitting.{instance_fits, step_fits, same_caps, system_symbols}
use Rattle.pair_theory.specs.Marked.{Marked, plain, mark}
use Rattle.pair_theory.specs.Terminates.{ArgumentStep}
use Rattle.pair_theory.specs.DependencyPair.{DependencyPair}
use Rattle.pair_theory.specs.Chain.{link}
use Rattle.dp_graph.specs.Edge.{IsEdge, EdgesCoverChainSteps, EdgesAreByArguments}

module _ (rules : List RewriteRule) where
  -- it can't be that a term has no cap
  mutual
    has_cap : (t : Tree) → ((c : HoledTree) → IsHoledCap rules false t c → ⊥) → ⊥
    has_cap (var v) k = k hole (free_variable refl)
    has_cap (app f ts) k = have_caps ts (λ cs caps. k (symbol f cs) (symbol_kept caps (λ l r rule meets. k hole (symbol_opened caps rule meets))))

    have_caps : (ts : Trees) → ((cs : HoledTrees) → AreHoledCaps rules false ts cs → ⊥) → ⊥
    have_caps nil k = k none no_holed
    have_caps (cons t ts) k = has_cap t (λ c cap. have_caps ts (λ cs caps. k (more c cs) (one_holed cap caps)))

same_root : {f g : ℕ} {cs : HoledTrees} {ts : Trees} → Fits (symbol f cs) (app g ts) → f ≡ g
same_root (fits_symbol each) = refl

parts_fit : {f g : ℕ} {cs : HoledTrees} {ts : Trees} → Fits (symbol f cs) (app g ts) → EachFits cs ts
parts_fit (fits_symbol each) = each

module _ (system : System) (valid : IsSystem system) (few : length system.arities ≤ 4095) where
  unmarked : (f : ℕ) (cs : HoledTrees) (l : Tree) → IsWellFormed system.arities l → ((v : ℕ) → l ≡ var v → ⊥) → MeetsLeft (symbol (f + 4096) cs) l → ⊥
  unmarked f cs (var v) well no_variable meets = no_variable v refl
  unmarked f cs (app g ts) well no_variable (τ, fits) =
      let h = slice_get_within system.arities g (count ts) well.0 in
      omega (arith, h, few, same_root fits)

  -- a marked symbol meets no left side
  meets_none : (f : ℕ) (cs : HoledTrees) (l r : Tree) → Among system.rules l r → MeetsLeft (symbol (f + 4096) cs) l → ⊥
  meets_none f cs l r rule =
      let k = get_of_in rule in
      let is = valid.each k.0 (record { left = l; right = r }) k.1 in
      unmarked f cs l is.left_well_formed (λ v e. is.left_no_variable (v, e))

  edge_of_caps : (p q : DependencyPair) (cs : HoledTrees) (σ : ℕ → Tree) → p.to.symbol ≡ q.from.symbol → AreHoledCaps system.rules false p.to.args cs
      → EachFits cs (apply_all σ q.from.args) → IsEdge system.rules p q
  edge_of_caps p q cs σ same caps fits = (
    symbol (p.to.symbol + 4096) cs,
    symbol_kept caps (meets_none p.to.symbol cs),
    (σ, subst (λ z. Fits (symbol (p.to.symbol + 4096) cs) (app (z + 4096) (apply_all σ q.from.args))) same (fits_symbol fits)),
  )

  by_arguments : (f g : ℕ) (ts us : Trees) (c : HoledTree) (σ : ℕ → Tree) → IsHoledCap system.rules false (app (f + 4096) ts) c → Fits c (app (g + 4096) (apply_all σ us))
      → (f ≡ g) × (cs : HoledTrees) × AreHoledCaps system.rules false ts cs × (τ : ℕ → Tree) × EachFits cs (apply_all τ us)
  by_arguments f g ts us c σ (symbol_kept {cs = cs} caps free) fits = (omega (arith, same_root fits), cs, caps, σ, parts_fit fits)
  by_arguments f g ts us c σ (symbol_opened {cs = cs} {l = l} {r = r} caps rule meets) fits = absurd (meets_none f cs l r rule meets)

pub edges_by_arguments : EdgesAreByArguments
edges_by_arguments system p q valid few = (
  λ (c, holes, (σ, fits)). by_arguments system valid few p.to.symbol q.from.symbol p.to.args q.from.args c σ holes fits,
  λ (same, cs, caps, σ, fits). edge_of_caps system valid few p q cs σ same caps fits,
)

-- an edge, by the caps of the arguments
pub edge_by_caps : (system : System) → IsSystem system → length system.arities ≤ 4095 → (p q : DependencyPair) (cs : HoledTrees) → AreHoledCaps system.rules false p.to.args cs
    → MeetsLeft (symbol p.to.symbol cs) (plain q.from) ↔ IsEdge system.rules p q
edge_by_caps system valid few p q cs caps = (
  λ (σ, fits). edge_of_caps system valid few p q cs σ (same_root fits) caps (parts_fit fits),
  λ e.
      let (same, ds, others, σ, fits) = (edges_by_arguments system p q valid few).0 e in
      let here : EachFits cs (apply_all σ q.from.args) = subst (λ z. EachFits z (apply_all σ q.from.args)) (same_caps system.rules false others caps) fits in
      (σ, subst (λ f. Fits (symbol p.to.symbol cs) (app f (apply_all σ q.from.args))) same (fits_symbol here)),
)

-- what the arguments of an instance go to fits the cap
goes_on_fitting : (system : System) → IsSystem system → (t l : Marked) (σ τ : ℕ → Tree) (c : HoledTree) → IsHoledCap system.rules false (mark t) c → t.symbol ≡ l.symbol
    → Run (ArgumentStep (Among system.rules)) (apply_all σ t.args) (apply_all τ l.args) → Fits c (apply τ (mark l))
goes_on_fitting system valid t l σ τ c cap root run =
    subst (λ n. Fits c (app (n + 4096) (apply_all τ l.args))) root
    (run_keeps (λ ts. Fits c (app (t.symbol + 4096) ts)) (λ x y fits s. step_fits system.rules (system_symbols system valid) false cap fits (deep s)) (instance_fits system.rules σ cap) run)

not_both : (b : Bool) → IsFalse b → IsTrue b → ⊥
not_both b h k = let e : false ≡ true = sym h ∙ k in absurd cc

unless_false : (b : Bool) → (IsFalse b → ⊥) → IsTrue b
unless_false true k = refl
unless_false false k = absurd (k refl)

pub edges_cover : EdgesCoverChainSteps
edges_cover system pairs test valid holds i j u v w (link l r σ h e reach to small) (link l' r' σ' h' e' reach' to' small') =
    let root : r.symbol ≡ l'.symbol = sym (ap (λ z. z.symbol) to) ∙ e' in
    let run : Run (ArgumentStep (Among system.rules)) (apply_all σ r.args) (apply_all σ' l'.args) =
    subst (λ z. Run (ArgumentStep (Among system.rules)) z.args (apply_all σ' l'.args)) to reach' in
    unless_false (test i j) (λ never. has_cap system.rules (mark r) (λ c cap. not_both (test i j) never
    (holds i j (record { from = l; to = r }) (record { from = l'; to = r' }) h h' (c, cap, (σ', goes_on_fitting system valid r l' σ σ' c cap root run)))))
