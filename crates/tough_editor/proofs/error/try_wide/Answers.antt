use Rattle.std.proofs.Common.{rules, refl}
use Rattle.tough_editor.proofs.error.try_wide.Goals as goal

pub returns-in_ok-supported-in-SpecVersion : goal.returns-in_ok-supported-in-SpecVersion
returns-in_ok-supported-in-SpecVersion c = rw c.in-SpecVersion.is (c.in_ok-supported-in-SpecVersion.supported, search rules, search rules)

pub returns-in_ok-file-in-TargetFromPath : goal.returns-in_ok-file-in-TargetFromPath
returns-in_ok-file-in-TargetFromPath c = rw c.in-TargetFromPath.is (c.in_ok-file-in-TargetFromPath.file, search rules, search rules)

pub returns-in_ok-field-in-Missing : goal.returns-in_ok-field-in-Missing
returns-in_ok-field-in-Missing c = rw c.in-Missing.is (c.in_ok-field-in-Missing.field, search rules, search rules)

pub returns-in_ok-role-in-NoRoleKeysinRoot : goal.returns-in_ok-role-in-NoRoleKeysinRoot
returns-in_ok-role-in-NoRoleKeysinRoot c = rw c.in-NoRoleKeysinRoot.is (c.in_ok-role-in-NoRoleKeysinRoot.role, search rules, search rules)

pub returns-in_ok-role-in-SigningKeysNotFound : goal.returns-in_ok-role-in-SigningKeysNotFound
returns-in_ok-role-in-SigningKeysNotFound c = rw c.in-SigningKeysNotFound.is (c.in_ok-role-in-SigningKeysNotFound.role, search rules, search rules)

pub returns-in_ok-role-in-SerializeRole : goal.returns-in_ok-role-in-SerializeRole
returns-in_ok-role-in-SerializeRole c = rw c.in-SerializeRole.is (c.in_ok-role-in-SerializeRole.role, search rules, search rules)

pub returns-in_ok-role-in-SerializeSignedRole : goal.returns-in_ok-role-in-SerializeSignedRole
returns-in_ok-role-in-SerializeSignedRole c = rw c.in-SerializeSignedRole.is (c.in_ok-role-in-SerializeSignedRole.role, search rules, search rules)
