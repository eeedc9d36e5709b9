use Rattle.std.proofs.Common.{◌≡◌, ℕ, false, nat_cmp}
use Rattle.std.specs.BTreeSet.{contains}
use Rattle.trs_defs.specs.Tree.{Tree}
use Rattle.trs_defs.specs.Substitution.{apply}
use Rattle.trs_defs.specs.Derivation.{Reaches}
use Rattle.trs_defs.specs.Step.{Step}
use Rattle.trs_core.specs.View.{tree}
use Rattle.trs_caps.specs.HoledTree.{Fits}
use Rattle.trs_caps.specs.HoledCap.{IsHoledCap}
use Rattle.trs_caps.specs.View.{holed}
use Rattle.trs_caps.proofs.CapLaws.{all_are_caps, all_reached, all_stay}
use Rattle.trs_caps.proofs.capping.tcap.Goals.{After-number}
use Rattle.trs_caps.proofs.capping.tcap.Goals as goal

is_cap : (c : After-number) → IsHoledCap c.args.trs.now.rules c.args.fixed (tree c.args.t.now) (holed c.in_ok-holed.holed)
is_cap c = rw c.in_ok-by_root.ensures at c.in_ok-holed.ensures.cap

term : (c : After-number) → (v : Tree) → Reaches (Step c.args.trs.now.rules) (tree c.args.t.now) v → Fits (holed c.in_ok-holed.holed) v
term c = rw c.in_ok-by_root.ensures at c.in_ok-holed.ensures.term

instances : (c : After-number) → c.args.fixed ≡ false → (σ : ℕ → Tree) (v : Tree) → Reaches (Step c.args.trs.now.rules) (apply σ (tree c.args.t.now)) v → Fits (holed c.in_ok-holed.holed) v
instances c = rw c.in_ok-by_root.ensures at c.in_ok-holed.ensures.instances

pub returns-clause-cap : goal.returns-clause-cap
returns-clause-cap c =
    let a = (goal.at.returns-clause-cap c).After-number in
    all_are_caps c.args.trs.now.rules c.args.fixed (tree c.args.t.now) (holed c.in_ok-holed.holed) (is_cap a) (contains nat_cmp c.in_ok-own.own) c.in_ok-own.ensures c.number.new.next c.number.result c.number.ensures

pub returns-clause-reached : goal.returns-clause-reached
returns-clause-reached c =
    let a = (goal.at.returns-clause-reached c).After-number in
    all_reached c.args.trs.now.rules c.args.fixed (tree c.args.t.now) (holed c.in_ok-holed.holed) (is_cap a) (contains nat_cmp c.in_ok-own.own) c.in_ok-own.ensures c.number.new.next c.number.result c.number.ensures (instances a)

pub returns-clause-stays : goal.returns-clause-stays
returns-clause-stays c =
    let a = (goal.at.returns-clause-stays c).After-number in
    all_stay c.args.trs.now.rules c.args.fixed (tree c.args.t.now) (holed c.in_ok-holed.holed) (is_cap a) (contains nat_cmp c.in_ok-own.own) c.in_ok-own.ensures c.number.new.next c.number.result c.number.ensures (term a)
