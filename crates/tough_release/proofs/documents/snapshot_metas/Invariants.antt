use Rattle.std.proofs.Common.{◌≡◌, drop}
use Rattle.tough_roles.specs.Timestamp.{metafiles_doc}
use Rattle.tough_release.specs.Documents.{with_role_metas, snapshot_metas}
use Rattle.tough_release.proofs.documents.snapshot_metas.Given as goal

-- what is listed of the documents that are left makes the whole
abbrev pub invariant-loop-role : goal.invariant-loop-role
invariant-loop-role l = with_role_metas (metafiles_doc l.metas.entries) (drop l.role-index l.filed.delegated.items) ≡ snapshot_metas l.filed.targets l.filed.delegated.items
