use Rattle.std.proofs.Common.{map, ap, ◌∙◌}
use Rattle.tough_write.specs.Writing.{file_doc, role_file, roles_file}
use Rattle.tough_write.proofs.Named.{named_more}
use Rattle.tough_write.proofs.write.SignedDelegatedTargetsWriteSigned.named_files.Goals as goal

pub loop-role-preserved : goal.loop-role-preserved
loop-role-preserved c =
    ap (map file_doc) c.in_ok-push.ensures.items
    ∙ named_more (role_file roles_file c.args.consistent_snapshot) c.roles-roles.result.now c.loop-role.role-index c.role-item.result c.loop-role.files.items c.in_ok-file.file c.loop-role-test.true c.role-item.is c.loop-role.invariant c.in_ok-file.ensures
