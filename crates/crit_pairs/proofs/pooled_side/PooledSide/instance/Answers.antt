use Rattle.std.proofs.Common.{◌≡◌, ◌∙◌, ◌+◌, ℕ, true, not, Option, Some, None, is_some, IfSome, get_or, refl, ap, subst, arith}
use Rattle.trs_defs.specs.Tree.{Tree, var}
use Rattle.term_pool.specs.Pooled.{StandsFor, Extends, tree_at}
use Rattle.term_pool.proofs.PoolTrees.{stands, stands_within}
use Rattle.term_pool.proofs.Extending.{extends_itself, extends_on}
use Rattle.term_pool.proofs.KnownLaws.{on_ok}
use Rattle.crit_pairs.specs.declared.pooled_side.PooledVariable.{PooledVariable}
use Rattle.crit_pairs.specs.Meeting.{solution}
use Rattle.crit_pairs.specs.Numbered.{AreNamed}
use Rattle.crit_pairs.specs.PooledSide.{side_tree, value_of}
use Rattle.crit_pairs.proofs.NumberedIds.{id_there}
use Rattle.term_pool.proofs.InstanceLaws.{instances_on, ground_on}
use Rattle.crit_pairs.proofs.VariableIds.{variable_ids_on}
use Rattle.crit_pairs.proofs.PooledSides.{side_still, of_own_tree, listed_occurs, own_id, noted_more, each_noted, variable_named, value_known, side_alone, instance_numbered}
use Rattle.term_pool.specs.Instances.{HasNoted, IsNoted}
use Rattle.term_pool.specs.declared.noted_instances.Instances.{Instances}
use Rattle.crit_pairs.proofs.pooled_side.PooledSide.instance.Goals.{then-is_none+in_ok-id+in_ok-note, else-is_none}
use Rattle.crit_pairs.proofs.pooled_side.PooledSide.instance.Goals as goal

abbrev none : PooledVariable
none = record { number = 0; id = 0 }

pub returns-then-is_empty-clause-numbered : goal.returns-then-is_empty-clause-numbered
returns-then-is_empty-clause-numbered c =
    side_alone c.args.names.now.order.items c.args.bindings.now c.args.from c.args.pool.now _ c.args.self.now c.requires.side
    (grind (arith, c.is_empty.ensures, c.if-is_empty.true, c.args.self.now.variables.ok.0)) c.requires.named

pub overflow_add-v : goal.overflow_add-v
overflow_add-v c =
    let x : PooledVariable = get_or c.deref-x-items.result.now c.loop-x.x-index none in
    let occurs = listed_occurs c.args.pool.now _ c.args.self.now c.requires.side c.deref-x-items.result.now c.deref-x-items.ensures.value c.loop-x.x-index none c.loop-x-test.true in
    omega (arith, c.requires.small x.number occurs, c.requires.from)

pub loop-x-init : goal.loop-x-init
loop-x-init c = record {
  kept = extends_itself c.args.pool.now;
  same = refl;
  made = c.requires.made;
  ids = c.requires.ids;
  noted = λ k x below at. absurd (omega (arith, below));
}

noted_there : (made : Instances) (i : ℕ) (own : Option ℕ) → is_some own ≡ true → IfSome own (HasNoted made i) → IsNoted made i
noted_there made i None there noted = absurd cc
noted_there made i (Some own) there noted = (own, noted)

pub loop-x-preserved : goal.loop-x-preserved
loop-x-preserved c =
    let names = c.args.names.now.order.items in
    let bindings = c.args.bindings.now in
    let from = c.args.from in
    let xs = c.deref-x-items.result.now in
    let k = c.loop-x.x-index in
    let within = c.loop-x-test.true in
    let x : PooledVariable = get_or xs k none in
    let side = c.requires.side in
    elim c.if-is_none.branch [
      | then-is_none+in_ok-id+in_ok-note w ↦
          let pool = w.renumber_variable_in_pool.new.pool in
          let kept : Extends c.args.pool.now pool = extends_on c.args.pool.now c.loop-x.pool pool c.loop-x.invariant.kept w.in_ok-id.ensures.kept in
          let occurs = listed_occurs c.args.pool.now _ c.args.self.now side xs c.deref-x-items.ensures.value k none within in
          let are : AreNamed names (solution bindings (from + x.number)) = variable_named names (solution bindings) from (side_tree c.args.pool.now c.args.self.now) x.number c.requires.named occurs in
          let (same, is) = value_known names c.loop-x.names.order.items w.renumber_variable_in_pool.new.names.order.items (solution bindings (from + x.number)) (tree_at pool w.in_ok-id.id)
          c.requires.distinct c.loop-x.invariant.same w.in_ok-id.ensures.distinct w.in_ok-id.ensures.renamed are in
          let value : ℕ → Tree = value_of bindings from names in
          let stand : StandsFor pool w.in_ok-id.id (value x.number) = subst (StandsFor pool w.in_ok-id.id) is (stands pool w.in_ok-id.id w.in_ok-id.ensures.there) in
          rw (w.names-is, w.made-is, w.numbered-is, w.pool-is) (record {
            kept = kept;
            same = same;
            made = w.in_ok-note.ensures.right value pool (var x.number) (instances_on value c.loop-x.pool pool c.loop-x.made w.in_ok-id.ensures.kept c.loop-x.invariant.made)
                (own_id c.args.pool.now _ c.args.self.now side xs c.deref-x-items.ensures.value pool k none kept within) stand;
            ids = w.in_ok-id.ensures.ids;
            noted = noted_more c.loop-x.made w.note.new.self xs k none within c.loop-x.invariant.noted w.in_ok-note.ensures.kept w.in_ok-note.ensures.noted;
          })
      | else-is_none w ↦
          let there = noted_there c.loop-x.made x.id c.of.result (c.is_none.ensures ∙ ap not w.if-is_none.false) c.of.ensures.some in
          rw (w.names-is, w.made-is, w.numbered-is, w.pool-is) (record {
            kept = c.loop-x.invariant.kept;
            same = c.loop-x.invariant.same;
            made = c.loop-x.invariant.made;
            ids = c.loop-x.invariant.ids;
            noted = noted_more c.loop-x.made c.loop-x.made xs k none within c.loop-x.invariant.noted (λ i h. h) there;
          })
    ]

pub instance_by-requires-clause-there : goal.instance_by-requires-clause-there
instance_by-requires-clause-there c =
    omega (arith, stands_within c.args.pool.now c.args.self.now.id _ c.requires.side.stands, c.loop-x.invariant.kept.longer)

pub instance_by-requires-clause-ground : goal.instance_by-requires-clause-ground
instance_by-requires-clause-ground c = ground_on c.args.pool.now c.loop-x.pool c.args.ground.now c.loop-x.invariant.kept c.requires.ground

pub instance_by-requires-clause-made : goal.instance_by-requires-clause-made
instance_by-requires-clause-made c = (value_of c.args.bindings.now c.args.from c.args.names.now.order.items, c.loop-x.invariant.made)

pub instance_by-requires-clause-variables : goal.instance_by-requires-clause-variables
instance_by-requires-clause-variables c =
    let side = of_own_tree c.loop-x.pool _ c.args.self.now (side_still c.args.pool.now c.loop-x.pool _ c.args.self.now c.loop-x.invariant.kept c.requires.side) in
    each_noted c.loop-x.pool _ c.args.self.now c.loop-x.made c.deref-x-items.result.now c.loop-x.x-index side c.deref-x-items.ensures.value c.loop-x-test.false c.loop-x.invariant.noted

pub returns-clause-numbered : goal.returns-clause-numbered
returns-clause-numbered c =
    instance_numbered c.instance_by.result c.args.names.now.order.items c.args.bindings.now c.args.from c.args.pool.now c.loop-x.pool c.instance_by.new.self c.args.self.now
    (stands_within c.args.pool.now c.args.self.now.id _ c.requires.side.stands) c.loop-x.invariant.kept c.requires.named
    (c.instance_by.ensures.id (value_of c.args.bindings.now c.args.from c.args.names.now.order.items) c.loop-x.invariant.made)

pub returns-clause-there : goal.returns-clause-there
returns-clause-there c =
    id_there c.instance_by.result c.instance_by.new.self _ (c.instance_by.ensures.id (value_of c.args.bindings.now c.args.from c.args.names.now.order.items) c.loop-x.invariant.made)

pub returns-clause-ids : goal.returns-clause-ids
returns-clause-ids c =
    on_ok c.instance_by.result (variable_ids_on c.loop-x.pool c.instance_by.new.self c.loop-x.numbered c.instance_by.ensures.kept c.loop-x.invariant.ids)
