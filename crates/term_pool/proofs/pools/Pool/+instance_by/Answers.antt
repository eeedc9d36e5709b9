use Rattle.std.proofs.Common.{◌≡◌, ◌≤◌, ℕ, ◌+◌, List, map, length, IfOk, ap, sym, ◌∙◌, subst, arith}
use Rattle.std.proofs.lemmas.List.{length-map}
use Rattle.trs_defs.specs.Tree.{Tree, app, trees}
use Rattle.trs_defs.specs.Substitution.{apply}
use Rattle.trs_defs.proofs.ListItems.{image_item}
use Rattle.term_pool.specs.Pooled.{StandsFor, tree_at}
use Rattle.term_pool.proofs.PoolTrees.{stands}
use Rattle.term_pool.proofs.PoolPlaces.{id_tree, id_variable}
use Rattle.term_pool.proofs.Extending.{extends_on}
use Rattle.term_pool.proofs.LeftSideLaws.{ground_stays}
use Rattle.term_pool.proofs.TakenArguments.{AreTaken, one_taken, all_taken}
use Rattle.term_pool.proofs.InstanceLaws.{argument_terms, argument_term, argument_smaller, argument_variable, always_argument, terms_over, instance_over, noted_instance, noted_on, variable_noted, variable_still, ground_on}
use Rattle.term_pool.proofs.pools.Pool.+instance_by.Goals.{After-as_slice-count}
use Rattle.term_pool.proofs.pools.Pool.+instance_by.Goals as goal

-- the term is its symbol over its arguments

whole : (t : ℕ) (c : After-as_slice-count t) → tree_at c.args.self.now c.args.id ≡ app c.in-App.f (trees (map (tree_at c.args.self.now) c.as_slice-count.result.now))
whole t c = id_tree c.args.self.now c.args.id c.in-App.f c.node.result.now c.in-App.args c.as_slice-count.result.now c.node.ensures.is c.in-App.is c.as_slice-count.ensures

-- when all arguments have their instances, so has the term
made : (t : ℕ) (c : After-as_slice-count t) (s : ℕ → Tree) (now : List Tree) (ids : List ℕ) (k : ℕ)
    → AreTaken (map (apply s) (argument_terms (tree_at c.args.self.now c.args.id))) c.args.self.now now ids k → length c.as_slice-count.result.now ≤ k
    → app c.in-App.f (trees (map (tree_at now) ids)) ≡ apply s (tree_at c.args.self.now c.args.id)
made t c s now ids k taken all =
    let term = tree_at c.args.self.now c.args.id in
    let args = c.as_slice-count.result.now in
    let ts = map (tree_at c.args.self.now) args in
    let count = ap length (terms_over term c.in-App.f ts (whole t c)) in
    let us = map (apply s) (argument_terms term) in
    let few : length us ≤ k = omega (arith, count, length-map args (tree_at c.args.self.now), length-map (argument_terms term) (apply s), all) in
    all_taken us c.args.self.now now ids k c.in-App.f taken few ∙ instance_over s term c.in-App.f ts (whole t c)

pub returns-then-is_marked-clause-id : goal.returns-then-is_marked-clause-id
returns-then-is_marked-clause-id t c = λ s right.
    let pool = c.args.self.now in
    let term = tree_at pool c.args.id in
    let stays = ground_stays s term (c.requires.ground.each c.args.id (c.is_marked.ensures c.if-is_marked.true)) in
    let S : Tree → Type 0 = λ u. StandsFor pool c.args.id u in
    subst S (sym stays) (stands pool c.args.id c.requires.there)

pub returns-in-Some-clause-id : goal.returns-in-Some-clause-id
returns-in-Some-clause-id t c = λ s right. noted_instance s c.args.self.now c.args.made.now c.args.id c.in-Some.own right c.in-Some.ensures.some

pub unreachable-requires : goal.unreachable-requires
unreachable-requires t c =
    let pool = c.args.self.now in
    let v = c.in_default-node.field-0 in
    let is = id_variable pool c.args.id v c.node.result.now c.node.ensures.is c.in_default-node.is in
    (rw c.in_default.is at c.of.ensures.none) (variable_noted pool c.args.made.now c.args.id v c.node.ensures.distinct c.requires.there is c.requires.variables)

pub argument-requires : goal.argument-requires
argument-requires t c = omega (arith, c.requires.there, c.loop-i.invariant.kept.longer)

pub unreachable-requires-in_default-argument : goal.unreachable-requires-in_default-argument
unreachable-requires-in_default-argument t c =
    let a = (goal.at.unreachable-requires-in_default-argument t c).After-as_slice-count in
    let args = c.as_slice-count.result.now in
    let ts = map (tree_at c.args.self.now) args in
    always_argument c.args.self.now c.loop-i.self c.args.id c.in-App.f ts c.requires.there (whole t a) c.loop-i.invariant.kept c.loop-i.i
    (omega (arith, length-map args (tree_at c.args.self.now), c.loop-i-test.true)) (rw c.in_default-argument.is at c.argument.ensures.is)

pub instance_by-requires : goal.instance_by-requires
instance_by-requires t c =
    let a = (goal.at.instance_by-requires t c).After-as_slice-count in
    let start = c.args.self.now in
    let now = c.loop-i.self in
    let ts = map (tree_at start) c.as_slice-count.result.now in
    let kept = c.loop-i.invariant.kept in
    let arg = c.in-Some-argument.arg in
    let at = c.in-Some-argument.ensures.is in
    let smaller = argument_smaller start now c.args.id c.in-App.f ts c.requires.there (whole t a) kept c.loop-i.i arg at in
    let (s, right) = c.requires.made in (
      omega (arith, smaller, c.decreases),
      (
        c.in-Some-argument.ensures.there,
        (
          ground_on start now c.args.ground.now kept c.requires.ground,
          (
            (s, (c.loop-i.invariant.right s right).0),
            λ v has. variable_still start now c.args.made.now c.loop-i.made v kept c.loop-i.invariant.noted
                (c.requires.variables v (argument_variable start now c.args.id c.in-App.f ts c.requires.there (whole t a) kept c.loop-i.i arg at v has)),
          ),
        ),
      ),
    )

pub returns-in_err-instance_by-clause-kept : goal.returns-in_err-instance_by-clause-kept
returns-in_err-instance_by-clause-kept t c = extends_on c.args.self.now c.loop-i.self c.instance_by.new.self c.loop-i.invariant.kept c.in_err-instance_by.ensures.kept

pub returns-in_err-push-clause-kept : goal.returns-in_err-push-clause-kept
returns-in_err-push-clause-kept t c = extends_on c.args.self.now c.loop-i.self c.instance_by.new.self c.loop-i.invariant.kept c.in_ok-instance_by.ensures.kept

pub loop-i-preserved : goal.loop-i-preserved
loop-i-preserved t c =
    let a = (goal.at.loop-i-preserved t c).After-as_slice-count in
    let start = c.args.self.now in
    let now = c.loop-i.self in
    let next = c.instance_by.new.self in
    let ts = map (tree_at start) c.as_slice-count.result.now in
    let was = c.loop-i.invariant in
    let done = c.in_ok-instance_by.ensures in
    let arg = c.in-Some-argument.arg in
    let own = c.in_ok-instance_by.field-0 in
    let k = c.loop-i.i in
    let term = argument_term start now c.args.id c.in-App.f ts c.requires.there (whole t a) was.kept k arg c.in-Some-argument.ensures.is in
    record {
      kept = extends_on start now next was.kept done.kept;
      noted = λ i h. done.noted i (was.noted i h);
      right = λ s h.
          let (instances, taken) = was.right s h in
          let terms = argument_terms (tree_at start c.args.id) in
          let us = map (apply s) terms in
          let T : List ℕ → Type 0 = λ ids. AreTaken us start next ids (k + 1) in
          let u = image_item (apply s) terms k (tree_at now arg) term in (
            done.made s instances,
            subst T (sym c.in_ok-push.ensures.ok) (one_taken us start now next c.loop-i.ids.items k own (apply s (tree_at now arg)) u taken done.kept (done.id s instances)),
          );
    }

pub add_instance-requires : goal.add_instance-requires
add_instance-requires t c = let (s, right) = c.requires.made in (c.loop-i.invariant.right s right).1.below

pub returns-clause-id : goal.returns-clause-id
returns-clause-id t c = λ s right.
    let a = (goal.at.returns-clause-id t c).After-as_slice-count in
    let R : Tree → Type 0 = λ u. IfOk c.add_instance.result (λ own. StandsFor c.add_instance.new.self own u) in
    subst R (made t a s c.loop-i.self c.loop-i.ids.items c.loop-i.i (c.loop-i.invariant.right s right).1 c.loop-i-test.false) c.add_instance.ensures.id

pub returns-clause-made : goal.returns-clause-made
returns-clause-made t c = λ s right.
    let a = (goal.at.returns-clause-made t c).After-as_slice-count in
    let start = c.args.self.now in
    let id = c.args.id in
    let so_far = c.loop-i.invariant.right s right in
    c.add_instance.ensures.made s (tree_at start id) so_far.0 (c.loop-i.invariant.kept.kept id (tree_at start id) (stands start id c.requires.there))
    (sym (made t a s c.loop-i.self c.loop-i.ids.items c.loop-i.i so_far.1 c.loop-i-test.false))

pub returns-clause-noted : goal.returns-clause-noted
returns-clause-noted t c = noted_on c.add_instance.result c.args.made.now c.loop-i.made c.add_instance.new.made c.loop-i.invariant.noted c.add_instance.ensures.noted

pub returns-clause-kept : goal.returns-clause-kept
returns-clause-kept t c = extends_on c.args.self.now c.loop-i.self c.add_instance.new.self c.loop-i.invariant.kept c.add_instance.ensures.kept
