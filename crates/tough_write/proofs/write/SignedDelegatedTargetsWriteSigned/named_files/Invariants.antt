use Rattle.std.proofs.Common.{◌≡◌, map, take}
use Rattle.tough_write.specs.Writing.{file_doc, role_files, roles_file}
use Rattle.tough_write.proofs.write.SignedDelegatedTargetsWriteSigned.named_files.Given as goal

abbrev pub invariant-loop-role : goal.invariant-loop-role
invariant-loop-role l = map file_doc l.files.items ≡ role_files roles_file l.consistent_snapshot (take l.role-index l.roles)
