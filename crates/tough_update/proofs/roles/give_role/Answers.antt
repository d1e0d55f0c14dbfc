use Rattle.std.proofs.Common.{rules, ◌≡◌, string_bytes, ap, ◌∙◌, subst}
use Rattle.tough_roles.specs.Signature.{signed_doc}
use Rattle.tough_schema.specs.Whole.{tree_doc, held_doc}
use Rattle.tough_trust.specs.delegations.Bare.{held_as}
use Rattle.tough_update.specs.delegations.Growing.{go_on, with_taken, wanted_name}
use Rattle.tough_update.specs.delegations.View.{work_doc}
use Rattle.tough_trust.specs.Failure.{Gives}
use Rattle.tough_update.specs.Delegated.{metas_in, grown_on, given}
use Rattle.tough_update.specs.View.{known_doc, received_docs, stage_doc}
use Rattle.tough_update.proofs.roles.give_role.Goals as goal

pub returns : goal.returns
returns c =
    let w = work_doc c.args.roles.growth in
    let k = known_doc c.args.known in
    let d = signed_doc tree_doc c.args.targets in
    let name : string_bytes c.in_ok-name.name ≡ wanted_name w = search rules in
    let named : held_doc c.named.result ≡ held_as (wanted_name w) d = c.named.ensures ∙ ap (λ n. held_as n d) name in
    let taken : work_doc c.take.new.self ≡ given w d = c.in_ok-take.ensures ∙ ap (with_taken w w.waiting) named in
    subst (λ x. Gives stage_doc (grown_on c.args.limits.now k (received_docs c.args.roles.received.items) (go_on (metas_in k) x)) c.grow_on.result) taken c.grow_on.ensures
