use Rattle.tough_roles.specs.Signature.{signed_doc}
use Rattle.tough_schema.specs.Whole.{tree_doc, held_doc}
use Rattle.tough_release.specs.Edits.{release_doc}
use Rattle.tough_publish.specs.Editors.{editor_doc}
use Rattle.tough_publish.specs.Updating.{held_of}
use Rattle.tough_publish.proofs.Closings.{held_is, closes, closes_not, closes_unread}
use Rattle.tough_publish.proofs.repository.RepositoryEditor.place.Goals as goal

pub returns-in-Err-clause-closed : goal.returns-in-Err-clause-closed
returns-in-Err-clause-closed g c = closes_unread (held_of c.args.name.now (signed_doc tree_doc c.args.role)) (editor_doc c.args.self.now).edits

pub returns-in-Ok-replace_targets-clause-closed : goal.returns-in-Ok-replace_targets-clause-closed
returns-in-Ok-replace_targets-clause-closed g c =
    let shown = held_is c.args.name.now c.in-Ok.text c.args.role c.named.result c.named.ensures c.in-Ok.ensures.ok in
    closes (held_of c.args.name.now (signed_doc tree_doc c.args.role)) (held_doc c.named.result) (editor_doc c.args.self.now).edits (release_doc c.replace_targets.new.self) shown c.in-Ok-replace_targets.ensures.replaced

pub returns-in-Err-replace_targets-clause-closed : goal.returns-in-Err-replace_targets-clause-closed
returns-in-Err-replace_targets-clause-closed g c =
    let shown = held_is c.args.name.now c.in-Ok.text c.args.role c.named.result c.named.ensures c.in-Ok.ensures.ok in
    closes_not (held_of c.args.name.now (signed_doc tree_doc c.args.role)) (held_doc c.named.result) (editor_doc c.args.self.now).edits (release_doc c.replace_targets.new.self) c.in-Err-replace_targets.error c.wide.result shown
    c.in-Err-replace_targets.ensures.refused c.in-Err-replace_targets.ensures.unchanged c.wide.ensures
