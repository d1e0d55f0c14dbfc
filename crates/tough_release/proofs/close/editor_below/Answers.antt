use Rattle.tough_schema.specs.Delegations.{delegations_doc}
use Rattle.tough_schema.specs.Whole.{tree_doc, held_doc, delegations_tree}
use Rattle.tough_edit.specs.Edits.{edits_doc}
use Rattle.tough_release.proofs.Closings.{over_below}
use Rattle.tough_release.proofs.close.editor_below.Goals as goal

pub returns-clause-opened : goal.returns-clause-opened
returns-clause-opened c = record {
  delegations = delegations_tree c.in-Ok.parent.now;
  under = c.in-Ok.ensures.found;
  document = held_doc c.in-Ok-delegated_targets.document.now;
  held = c.in-Ok-delegated_targets.ensures.found;
  over = over_below c.args.role.now (edits_doc c.in_ok-editor.editor) (delegations_doc c.in_ok-delegations.delegations) c.in-Ok.parent.now (tree_doc c.in_ok-below.below) c.in-Ok-delegated_targets.document.now c.in_ok-editor.ensures c.in_ok-delegations.ensures.same c.in_ok-below.ensures.cases;
}
