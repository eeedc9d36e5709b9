use Rattle.std.proofs.Common.{◌≡◌, Ok, Err, arith, subst, sym}
use Rattle.trs_defs.specs.Tree.{Tree}
use Rattle.term_pool.specs.Pooled.{tree_at}
use Rattle.term_pool.proofs.Extending.{same_tree_at}
use Rattle.completion.specs.declared.normalizing.Form.{Form}
use Rattle.completion.specs.GreaterBy.{GreaterBy}
use Rattle.completion.specs.Normalizing.{Normalizes}
use Rattle.completion.specs.Moving.{form_of, IsFormIn}
use Rattle.completion.proofs.TreatLaws.{left_ended, right_ended, treated_if_ok}
use Rattle.completion.proofs.MetLaws.{id_still_over}
use Rattle.completion.proofs.treating.treat_ids.Goals as goal

pub normal_form-requires-in-Normal-clause-over : goal.normal_form-requires-in-Normal-clause-over
normal_form-requires-in-Normal-clause-over c =
    id_still_over c.args.system.now.arities c.args.met.now.pool c.normal_form.new.met.pool c.args.right c.in_ok-why.ensures.kept c.requires.right

pub returns-in-Stopped-clause-outcome : goal.returns-in-Stopped-clause-outcome
returns-in-Stopped-clause-outcome c =
    let F : Form → Type 0 = λ f. Normalizes c.args.system.now.rules c.args.units (tree_at c.args.met.now.pool c.args.left) (form_of c.normal_form.new.met.pool f) in
    left_ended (GreaterBy c.args.order.now) c.args.system.now c.args.units (tree_at c.args.met.now.pool c.args.left) (tree_at c.args.met.now.pool c.args.right) c.in-Stopped.why c.end_run.result c.end_run.ensures
    (subst F c.in-Stopped.is c.in_ok-why.ensures.form)

pub returns-in-Stopped-2-clause-outcome : goal.returns-in-Stopped-2-clause-outcome
returns-in-Stopped-2-clause-outcome c =
    let F : Form → Type 0 = λ f. Normalizes c.args.system.now.rules c.args.units (tree_at c.args.met.now.pool c.args.left) (form_of c.normal_form.new.met.pool f) in
    let R : Form → Type 0 = λ f. Normalizes c.args.system.now.rules c.in-Normal.more (tree_at c.normal_form.new.met.pool c.args.right) (form_of c.normal_form-in-Normal.new.met.pool f) in
    let T : Tree → Type 0 = λ t. Normalizes c.args.system.now.rules c.in-Normal.more t (Err c.in-Stopped-2.why) in
    let one = same_tree_at c.args.met.now.pool c.normal_form.new.met.pool c.in_ok-why.ensures.kept c.args.right c.requires.right.0 in
    right_ended (GreaterBy c.args.order.now) c.args.system.now c.args.units (tree_at c.args.met.now.pool c.args.left) (tree_at c.args.met.now.pool c.args.right) (tree_at c.normal_form.new.met.pool c.in-Normal.s) c.in-Normal.more
    (subst F c.in-Normal.is c.in_ok-why.ensures.form) c.in-Stopped-2.why c.end_run-in-Stopped-2.result c.end_run-in-Stopped-2.ensures
    (subst T one (subst R c.in-Stopped-2.is c.in_ok-why-in-Normal.ensures.form))

pub compare_forms-requires-clause-left : goal.compare_forms-requires-clause-left
compare_forms-requires-clause-left c =
    let there = subst (IsFormIn c.normal_form.new.met.pool) c.in-Normal.is c.in_ok-why.ensures.there in
    let longer = c.in_ok-why-in-Normal.ensures.kept.longer in
    omega (arith, there, longer)

pub returns-in-Normal-2-clause-outcome : goal.returns-in-Normal-2-clause-outcome
returns-in-Normal-2-clause-outcome c =
    let first = c.normal_form.new.met.pool in
    let pool = c.normal_form-in-Normal.new.met.pool in
    let F : Form → Type 0 = λ f. Normalizes c.args.system.now.rules c.args.units (tree_at c.args.met.now.pool c.args.left) (form_of first f) in
    let R : Form → Type 0 = λ f. Normalizes c.args.system.now.rules c.in-Normal.more (tree_at first c.args.right) (form_of pool f) in
    let T : Tree → Type 0 = λ t. Normalizes c.args.system.now.rules c.in-Normal.more t (Ok (tree_at pool c.in-Normal-2.t, c.in-Normal-2.rest)) in
    let one = same_tree_at c.args.met.now.pool first c.in_ok-why.ensures.kept c.args.right c.requires.right.0 in
    let P : Tree → Type 0 = λ x. Normalizes c.args.system.now.rules c.args.units (tree_at c.args.met.now.pool c.args.left) (Ok (x, c.in-Normal.more)) in
    let there = subst (IsFormIn first) c.in-Normal.is c.in_ok-why.ensures.there in
    let same : tree_at pool c.in-Normal.s ≡ tree_at first c.in-Normal.s = same_tree_at first pool c.in_ok-why-in-Normal.ensures.kept c.in-Normal.s there in
    treated_if_ok (GreaterBy c.args.order.now) c.args.system.now c.args.units (tree_at c.args.met.now.pool c.args.left) (tree_at c.args.met.now.pool c.args.right) (tree_at pool c.in-Normal.s) c.in-Normal.more
    (subst P (sym same) (subst F c.in-Normal.is c.in_ok-why.ensures.form)) (tree_at pool c.in-Normal-2.t) c.in-Normal-2.rest
    (subst T one (subst R c.in-Normal-2.is c.in_ok-why-in-Normal.ensures.form)) c.compare_forms.result c.compare_forms.ensures
