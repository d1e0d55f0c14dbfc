use Rattle.std.proofs.Common.{[], ◌∷◌, ◌++◌, sym, ap, ◌∙◌}
use Rattle.tough_schema.specs.Whole.{role_tree}
use Rattle.tough_schema.specs.Entries.{documents_of}
use Rattle.tough_schema.proofs.Gathers.{documents-more}
use Rattle.tough_schema.proofs.targets.Targets.signed_delegated_targets.Goals as goal

pub loop-role-preserved : goal.loop-role-preserved
loop-role-preserved c =
    let rs = c.deref-role-items.result.now in
    let r = c.role-item.result in
    c.in_ok-add_document.ensures ∙ ap (λ l. l ++ documents_of (role_tree r.now ∷ [])) c.loop-role.invariant ∙ sym (documents-more rs c.loop-role.role-index r c.loop-role-test.true c.role-item.is)
