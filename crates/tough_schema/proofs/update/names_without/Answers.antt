use Rattle.std.proofs.Common.{◌++◌, sym, ap, ◌∙◌}
use Rattle.tough_schema.specs.Whole.{tree_doc, role_tree}
use Rattle.tough_schema.specs.Update.{needed_at}
use Rattle.tough_schema.proofs.Updates.{needed-more}
use Rattle.tough_schema.proofs.update.names_without.Goals as goal

pub loop-role-preserved : goal.loop-role-preserved
loop-role-preserved c =
    let old = tree_doc c.args.old.now in
    let role = c.role-item.result in
    c.in_ok-add_needed.ensures ∙ ap (λ l. l ++ needed_at old (role_tree role).0) c.loop-role.invariant ∙ sym (needed-more old c.args.roles.now c.loop-role.role-index role c.loop-role-test.true c.role-item.is)
