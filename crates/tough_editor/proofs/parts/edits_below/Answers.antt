use Rattle.tough_schema.specs.Delegations.{delegations_doc}
use Rattle.tough_schema.specs.Whole.{tree_doc, held_doc, delegations_tree}
use Rattle.tough_edit.specs.Edits.{edits_doc}
use Rattle.tough_release.proofs.Closings.{over_below}
use Rattle.tough_editor.proofs.parts.edits_below.Goals as goal

pub returns-clause-opened : goal.returns-clause-opened
returns-clause-opened c = record {
  delegations = delegations_tree c.in-Ok-parent_of.parent.now;
  under = c.in-Ok-parent_of.ensures.found;
  document = held_doc c.in-Ok.document.now;
  held = c.in-Ok.ensures.found;
  over = over_below c.args.name.now (edits_doc c.in_ok-edits.edits) (delegations_doc c.in_ok-delegations.delegations) c.in-Ok-parent_of.parent.now (tree_doc c.in_ok-below.below) c.in-Ok.document.now c.in_ok-edits.ensures c.in_ok-delegations.ensures.same c.in_ok-below.ensures.cases;
}
