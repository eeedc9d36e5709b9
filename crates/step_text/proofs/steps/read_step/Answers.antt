use Rattle.std.proofs.Common.{◌∙◌, ◌-◌, ◌^◌, Ok, codes, refl, sym, ap}
use Rattle.cert_step.specs.ProofStep.{step_of, node_step_of}
use Rattle.text_reading.specs.Reading.{keyword, done}
use Rattle.text_reading.specs.Numbers.{number}
use Rattle.text_reading.proofs.SeenParts.{first, next, last, as_it_is}
use Rattle.text_reading.proofs.Members.{three_views, three_lack, list_seen}
use Rattle.path_text.proofs.InTurn.{if_read}
use Rattle.step_text.specs.Steps.{method, node_step, step}
use Rattle.step_text.proofs.StepLaws.{step_left}
use Rattle.step_text.proofs.MethodSeen.{left_by_method}
use Rattle.step_text.proofs.steps.read_step.Goals as goal

pub returns-in_default-members-clause-read : goal.returns-in_default-members-clause-read
returns-in_default-members-clause-read c =
    let named = c.args.system.now in
    let sharing = c.args.sharing.now in
    sym (ap (step named sharing) (list_seen c.args.item.now c.in-List.at c.in-List.members _ c.in-List.is refl)
    ∙ three_lack (keyword (codes "step")) (number (2 ^ 63 - 1)) (method named sharing) done c.in-List.at (Ok node_step) c.in-List.members.now c.in_default-members.len_below)

pub returns-clause-read : goal.returns-clause-read
returns-clause-read c =
    let members = three_views c.in-List.members.now c.head-item.result c.node-item.result c.method-item.result c.in-len3-up.len_at_least c.head-item.is c.node-item.is c.method-item.is in
    let shape = list_seen c.args.item.now c.in-List.at c.in-List.members _ c.in-List.is members in
    let head = first node_step (λ x. x) c.keyword-head.result _ (as_it_is _ _ c.keyword-head.ensures) in
    let node = next _ (λ x. x) c.keyword-head.result c.read_number-node.result c.both.result _ _ head (as_it_is _ _ c.read_number-node.ensures.value) c.both.ensures in
    let method = next _ step_of c.both.result c.in_ok-method.method c.both-2.result _ _ node c.in_ok-method.ensures.read c.both-2.ensures in
    c.node_step.ensures ∙ last _ c.both-2.result c.refuse_more.result _ _ method c.refuse_more.ensures ∙ sym (ap (step c.args.system.now c.args.sharing.now) shape)

pub returns-clause-left : goal.returns-clause-left
returns-clause-left c =
    let head = first node_step (λ x. x) c.keyword-head.result _ (as_it_is _ _ c.keyword-head.ensures) in
    let node = next _ (λ x. x) c.keyword-head.result c.read_number-node.result c.both.result _ _ head (as_it_is _ _ c.read_number-node.ensures.value) c.both.ensures in
    let method = next _ step_of c.both.result c.in_ok-method.method c.both-2.result _ _ node c.in_ok-method.ensures.read c.both-2.ensures in
    let all = c.node_step.ensures ∙ last _ c.both-2.result c.refuse_more.result _ _ method c.refuse_more.ensures in
    if_read node_step_of _ c.node_step.result _ all
    (λ v e. step_left c.args.sharing.now c.read_method.new.sharing _ _ _ _ v
    (left_by_method c.args.sharing.now c.read_method.new.sharing c.in_ok-method.method _ c.in_ok-method.ensures.read c.in_ok-method.ensures.left) e)
