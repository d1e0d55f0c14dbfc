use Rattle.std.proofs.Common.{List, Some, map, ap, ◌∙◌}
use Rattle.tough_schema.specs.declared.delegations.DelegatedRole.{DelegatedRole}
use Rattle.tough_schema.specs.Whole.{role_tree, held_doc}
use Rattle.tough_publish.specs.Placing.{all_first}
use Rattle.tough_publish.proofs.Firsts.{first-under, first-leaf}
use Rattle.tough_publish.proofs.place.place_first.Goals as goal

pub returns-in-Some : goal.returns-in-Some
returns-in-Some c =
    let name = c.args.name.now in
    let h = held_doc c.args.document in
    first-under name h c.args.targets.now c.in-Some.delegations c.place_among.new.roles c.in-Some.is (c.place_among.ensures ∙ ap (λ (rs : List DelegatedRole). all_first name (Some h) (map role_tree rs)) c.deref_mut.ensures.value)

pub returns-in-None : goal.returns-in-None
returns-in-None c = first-leaf c.args.name.now (held_doc c.args.document) c.args.targets.now c.in-None.is
