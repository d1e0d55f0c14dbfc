use Rattle.std.proofs.Common.{sym, ap, ◌∙◌}
use Rattle.tough_schema.specs.Entries.{merged_into}
use Rattle.tough_write.specs.Listed.{listed_in_role}
use Rattle.tough_write.proofs.Listings.{merged-next}
use Rattle.tough_write.proofs.target_files.TargetFiles.of_roles.Goals as goal

pub loop-role-preserved : goal.loop-role-preserved
loop-role-preserved c =
    c.in_ok-add_listed.ensures ∙ ap (λ found. merged_into found (listed_in_role c.role-item.result)) c.loop-role.invariant
    ∙ sym (merged-next c.roles-all.result.now c.loop-role.role-index c.role-item.result c.loop-role-test.true c.role-item.is)
