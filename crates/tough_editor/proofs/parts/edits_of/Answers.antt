use Rattle.std.proofs.Common.{sym, ◌∙◌}
use Rattle.tough_roles.specs.Root.{root_doc}
use Rattle.tough_schema.specs.Whole.{tree_doc}
use Rattle.tough_edit.specs.Edits.{edits_doc}
use Rattle.tough_release.proofs.Closings.{over_top}
use Rattle.tough_editor.proofs.parts.edits_of.Goals as goal

pub returns-then-eq-clause-opened : goal.returns-then-eq-clause-opened
returns-then-eq-clause-opened c = over_top c.args.name.now (root_doc c.args.root.now) (tree_doc c.args.targets.now) (edits_doc c.in_ok-edits.edits) (sym c.eq.ensures ∙ c.if-eq.true) c.in_ok-edits.ensures
