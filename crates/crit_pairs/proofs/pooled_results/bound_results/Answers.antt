use Rattle.std.proofs.Common.{◌≡◌, Some, ap, length, refl, slice_get, sym, subst, ◌∙◌}
use Rattle.std.proofs.lemmas.Option.{slice_get_read, slice_get_within, same_Some}
use Rattle.trs_defs.specs.Variable.{variables_of}
use Rattle.trs_defs.specs.Substitution.{apply}
use Rattle.trs_defs.specs.Position.{subterm_at}
use Rattle.trs_defs.specs.System.{RewriteRule}
use Rattle.trs_defs.proofs.InstancePlaces.{subterm_image}
use Rattle.trs_core.specs.View.{tree}
use Rattle.term_pool.specs.Pooled.{tree_at}
use Rattle.crit_pairs.specs.Meeting.{solution}
use Rattle.crit_pairs.specs.Numbered.{AreNamed, IsNumbered}
use Rattle.crit_pairs.specs.PooledSide.{value_of}
use Rattle.term_pool.proofs.InstanceLaws.{instances_on}
use Rattle.crit_pairs.proofs.SpotPeaks.{no_places}
use Rattle.crit_pairs.proofs.NumberedLaws.{can_be_put}
use Rattle.crit_pairs.proofs.PooledResultLaws.{left_named, outer_named, inner_named, root_results, below_results}
use Rattle.crit_pairs.proofs.PooledRuleLaws.{pooled_still}
use Rattle.crit_pairs.proofs.pooled_results.bound_results.Goals.{In_ok-name_instance}
use Rattle.crit_pairs.proofs.pooled_results.bound_results.Goals as goal

-- the outer left side, and the names of the variables of its instance
left_is : (c : In_ok-name_instance) → tree c.outer.inside.left ≡ c.requires.unifier.outer.left
left_is c =
    let u = c.requires.unifier in
    let rules = c.rules.result.now in
    let there : slice_get rules c.args.j ≡ Some u.outer = subst (λ xs. slice_get xs c.args.j ≡ Some u.outer) (sym c.rules.ensures.rules) u.outer_numbered in
    let read = slice_get_read rules (length rules) c.args.j c.index-rules-j.result refl (slice_get_within rules c.args.j u.outer there) c.index-rules-j.is in
    ap (λ (r : RewriteRule). r.left) (c.outer.view_is ∙ same_Some c.index-rules-j.result u.outer (sym read ∙ there))

named : (c : In_ok-name_instance) → c.name_instance.new.names.order.items ≡ variables_of (apply (solution c.args.bindings.now) c.requires.unifier.outer.left)
named c =
    let σ = solution c.args.bindings.now in
    let opened : c.name_instance.new.names.order.items ≡ variables_of (apply σ (tree c.outer.inside.left)) = rw c.clear.ensures at c.in_ok-name_instance.ensures.order in
    opened ∙ ap (λ t. variables_of (apply σ t)) (left_is c)

pub outer_right-requires-clause-named : goal.outer_right-requires-clause-named
outer_right-requires-clause-named c =
    let u = c.requires.unifier in (
      c.args.rules.now.rules,
      u.outer,
      c.requires.pooled,
      u.outer_numbered,
      outer_named c.args.rules.now c.rules.ensures.valid c.args.j c.args.i c.args.place.now (solution c.args.bindings.now) u
          c.name_instance.new.names.order.items (named (goal.at.outer_right-requires-clause-named c).In_ok-name_instance),
    )

pub inner_right-requires-clause-named : goal.inner_right-requires-clause-named
inner_right-requires-clause-named c =
    let u = c.requires.unifier in (
      c.args.rules.now.rules,
      u.inner,
      c.in_ok-right.ensures.pooled c.args.rules.now.rules c.requires.pooled,
      u.inner_numbered,
      inner_named c.args.rules.now c.rules.ensures.valid c.args.j c.args.i c.args.place.now
          (solution c.args.bindings.now) u c.outer_right.new.names.order.items (c.in_ok-right.ensures.names ∙ named (goal.at.inner_right-requires-clause-named c).In_ok-name_instance),
    )

pub returns-then-is_empty-clause-results : goal.returns-then-is_empty-clause-results
returns-then-is_empty-clause-results c =
    let u = c.requires.unifier in
    let rules = c.args.rules.now.rules in
    let pooled = c.in_ok-right.ensures.pooled rules c.requires.pooled in
    root_results rules c.args.j c.args.i c.args.place.now (solution c.args.bindings.now) u c.name_instance.new.names.order.items (named (goal.at.returns-then-is_empty-clause-results c).In_ok-name_instance)
    c.outer_right.new.names.order.items c.outer_right.new.pool c.inner_right.new.pool c.in_ok-by.by c.in_ok-right.right
    (no_places c.args.place.now c.is_empty.result c.is_empty.ensures c.if-is_empty.true) c.in_ok-right.ensures.names c.in_ok-by.ensures.kept c.in_ok-right.ensures.there c.in_ok-by.ensures.there
    (c.in_ok-right.ensures.numbered rules u.outer c.requires.pooled u.outer_numbered) (c.in_ok-by.ensures.numbered rules u.inner pooled u.inner_numbered)

pub outer_left-requires-clause-left : goal.outer_left-requires-clause-left
outer_left-requires-clause-left c =
    let rules = c.args.rules.now.rules in (
      rules,
      c.requires.unifier.outer,
      c.in_ok-by.ensures.pooled rules (c.in_ok-right.ensures.pooled rules c.requires.pooled),
      c.requires.unifier.outer_numbered,
      sym (left_is (goal.at.outer_left-requires-clause-left c).In_ok-name_instance),
    )

pub outer_left-requires-clause-named : goal.outer_left-requires-clause-named
outer_left-requires-clause-named c =
    let at = (goal.at.outer_left-requires-clause-named c).In_ok-name_instance in
    let names = c.inner_right.new.names.order.items in
    let σ = solution c.args.bindings.now in
    let same = c.in_ok-by.ensures.names ∙ (c.in_ok-right.ensures.names ∙ named at) in
    subst (λ t. AreNamed names (apply σ t)) (sym (left_is at)) (left_named c.args.rules.now c.rules.ensures.valid c.args.j c.args.i c.args.place.now σ c.requires.unifier names same)

pub put-requires-clause-put : goal.put-requires-clause-put
put-requires-clause-put c =
    let u = c.requires.unifier in
    let σ = solution c.args.bindings.now in
    let place = c.args.place.now in
    let there = subterm_image σ place (tree c.outer.inside.left) u.part (subst (λ t. subterm_at place t ≡ Some u.part) (sym (left_is (goal.at.put-requires-clause-put c).In_ok-name_instance)) u.there) in
    can_be_put c.inner_right.new.names.order.items place (apply σ (tree c.outer.inside.left)) (apply σ u.part) c.outer_left.new.pool c.in_ok-top.top c.in_ok-by.by c.in_ok-top.ensures.numbered there

pub returns-clause-results : goal.returns-clause-results
returns-clause-results c =
    let at = (goal.at.returns-clause-results c).In_ok-name_instance in
    let u = c.requires.unifier in
    let rules = c.args.rules.now.rules in
    let σ = solution c.args.bindings.now in
    let pooled = c.in_ok-right.ensures.pooled rules c.requires.pooled in
    let later = c.inner_right.new.names.order.items in
    let top : IsNumbered later (apply σ u.outer.left) (tree_at c.outer_left.new.pool c.in_ok-top.top) =
    subst (λ t. IsNumbered later (apply σ t) (tree_at c.outer_left.new.pool c.in_ok-top.top)) (left_is at) c.in_ok-top.ensures.numbered in
    below_results rules c.args.j c.args.i c.args.place.now σ u c.name_instance.new.names.order.items (named at) c.outer_right.new.names.order.items later c.outer_right.new.pool c.inner_right.new.pool
    c.outer_left.new.pool c.put.new.self c.in_ok-by.by c.in_ok-right.right c.in_ok-top.top c.in_ok-left.left c.in_ok-right.ensures.names (c.in_ok-by.ensures.names ∙ c.in_ok-right.ensures.names)
    c.in_ok-by.ensures.kept c.in_ok-top.ensures.kept c.in_ok-left.ensures.kept c.in_ok-right.ensures.there c.in_ok-by.ensures.there c.in_ok-left.ensures.there
    (c.in_ok-right.ensures.numbered rules u.outer c.requires.pooled u.outer_numbered) (c.in_ok-by.ensures.numbered rules u.inner pooled u.inner_numbered) top c.in_ok-left.ensures.id

pub returns-clause-pooled : goal.returns-clause-pooled
returns-clause-pooled c =
    let rules = c.args.rules.now.rules in
    let pooled = c.in_ok-by.ensures.pooled rules (c.in_ok-right.ensures.pooled rules c.requires.pooled) in
    let left = c.in_ok-top.ensures.pooled rules c.requires.unifier.outer pooled c.requires.unifier.outer_numbered (sym (left_is (goal.at.returns-clause-pooled c).In_ok-name_instance)) in
    pooled_still rules c.outer_left.new.pool c.put.new.self c.outer_left.new.self c.outer_left.new.self.outer c.outer_left.new.self.inner c.in_ok-left.ensures.kept left

pub outer_left-requires-clause-outer : goal.outer_left-requires-clause-outer
outer_left-requires-clause-outer c =
    let value = value_of c.args.bindings.now 0 c.name_instance.new.names.order.items in
    let noted = instances_on value c.outer_right.new.pool c.inner_right.new.pool c.outer_right.new.self.outer c.in_ok-by.ensures.kept c.in_ok-right.ensures.outer in
    rw (c.in_ok-by.ensures.outer, c.in_ok-by.ensures.names, c.in_ok-right.ensures.names) noted
