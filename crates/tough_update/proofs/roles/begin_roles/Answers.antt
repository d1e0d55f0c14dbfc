use Rattle.std.proofs.Common.{◌≡◌, [], ap, subst}
use Rattle.tough_roles.specs.Signature.{signed_doc}
use Rattle.tough_schema.specs.Whole.{tree_doc}
use Rattle.tough_trust.specs.delegations.Bare.{held_as}
use Rattle.tough_update.specs.delegations.Growing.{WorkDoc, first_work, go_on}
use Rattle.tough_update.specs.delegations.View.{work_doc}
use Rattle.tough_trust.specs.Failure.{Gives}
use Rattle.tough_update.specs.Delegated.{metas_in, grown_on}
use Rattle.tough_update.specs.View.{known_doc, received_docs, stage_doc}
use Rattle.tough_update.proofs.roles.begin_roles.Goals as goal

pub returns : goal.returns
returns c =
    let k = known_doc c.args.known in
    let w : WorkDoc = first_work (held_as [] (signed_doc tree_doc c.args.targets)) in
    let begun : work_doc c.in_ok-growth.growth ≡ w = c.in_ok-growth.ensures in
    let none : received_docs c.new-2.result.items ≡ [] = ap received_docs c.new-2.ensures.items in
    subst (λ r. Gives stage_doc (grown_on c.args.limits.now k r (go_on (metas_in k) w)) c.grow_on.result) none
    (subst (λ x. Gives stage_doc (grown_on c.args.limits.now k (received_docs c.new-2.result.items) (go_on (metas_in k) x)) c.grow_on.result) begun c.grow_on.ensures)
