use Rattle.std.proofs.Common.{List, map, option_map, ap, ◌∙◌}
use Rattle.tough_schema.specs.declared.delegations.DelegatedRole.{DelegatedRole}
use Rattle.tough_schema.specs.declared.targets.Targets.{out-Targets}
use Rattle.tough_schema.specs.Whole.{role_tree, held_doc}
use Rattle.tough_schema.specs.Update.{all_given}
use Rattle.tough_schema.proofs.Updates.{given-under, given-leaf, none-from}
use Rattle.tough_schema.proofs.update.give_below.Goals as goal

pub returns-in-Some : goal.returns-in-Some
returns-in-Some c =
    let hs = map (option_map held_doc) c.args.documents.items in
    given-under hs c.args.document.now c.in-Some.delegations c.give.new.roles c.in-Some.is (c.give.ensures ∙ ap (λ (rs : List DelegatedRole). all_given (map role_tree rs) hs) c.deref_mut.ensures.value)

pub returns-in_default : goal.returns-in_default
returns-in_default c = given-leaf (map (option_map held_doc) c.args.documents.items) c.args.document.now (none-from (out-Targets c.args.document.now).delegations c.in_default.not-Some)
