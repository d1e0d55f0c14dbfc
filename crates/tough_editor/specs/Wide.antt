-- Which wide error tells a refused edit.
use Rattle.std.specs.Prelude.{◌≡◌, ◌⊎◌, String, codes, string_bytes}
use Rattle.std.specs.declared.alloc.Global.{Global}
use Rattle.tough_roles.specs.Roles.{role_name}
use Rattle.tough_roles.specs.declared.error.Error.TheVariants as schema
use Rattle.tough_roles.specs.declared.role_type.RoleType.TheVariants as types
use Rattle.tough_schema.specs.FileDigest.{file_error}
use Rattle.tough_error.specs.Names.{name_error}
use Rattle.tough_error.specs.declared.error.Error.{Error}
use Rattle.tough_error.specs.declared.error.Error.TheVariants as wide
use Rattle.tough_signed.specs.declared.error.EditError.{EditError}
use Rattle.tough_signed.specs.declared.error.EditError.TheVariants as edit

-- The wide error has the refusal's name, and says what that says.
abbrev pub Says : EditError → Error → Type 0
Says (edit.FileRead path source) w = w ≡ wide.FileRead path source
Says (edit.FileParseJson path source) w = w ≡ wide.FileParseJson path source
Says (edit.UnstableRoot role actual threshold) w = w ≡ wide.UnstableRoot role actual threshold
Says (edit.SpecVersion given) w = (s : String Global) × (w ≡ wide.SpecVersion given s) × (string_bytes s ≡ codes "1.0.0")
Says (edit.NoFileName path) w = w ≡ wide.NoFileName path
Says (edit.Name error) w = w ≡ name_error error
Says (edit.TargetFromPath path source) w = (s : String Global) × (w ≡ wide.TargetFromPath path (file_error source s)) × (string_bytes s ≡ string_bytes path)
Says (edit.Missing field) w = (s : String Global) × (w ≡ wide.Missing s) × (string_bytes s ≡ field.now)
Says edit.TargetsEditorSome w = w ≡ wide.TargetsEditorSome
Says edit.NoTargets w = w ≡ wide.NoTargets
Says edit.NoDelegations w = w ≡ wide.NoDelegations
Says (edit.DelegateMissing name source) w = w ≡ wide.DelegateMissing name source
Says (edit.InvalidPath source) w = w ≡ wide.InvalidPath source
Says (edit.SignMessage source) w = w ≡ wide.SignMessage source
Says edit.KeysNotFoundInRoot w = w ≡ wide.KeysNotFoundInRoot
Says (edit.NoRoleKeysinRoot role) w = (s : String Global) × (w ≡ wide.NoRoleKeysinRoot s) × (string_bytes s ≡ role_name role)
Says (edit.SigningKeysNotFound role) w = (s : String Global) × (w ≡ wide.SigningKeysNotFound s) × (string_bytes s ≡ role_name role)
Says (edit.SerializeRole role) w = (s : String Global) × (w ≡ wide.SerializeRole s (schema.JsonSerialization role)) × (string_bytes s ≡ role_name role)
Says (edit.SerializeSignedRole role) w = (s : String Global) × (w ≡ wide.SerializeSignedRole s (schema.JsonSerialization role)) × (string_bytes s ≡ role_name role)
Says edit.JsonSerialization w = w ≡ wide.JsonSerialization (schema.JsonSerialization types.DelegatedTargets)
Says edit.Memory w = w ≡ wide.Memory

-- It says so, or memory was wanting.
abbrev pub Tells : EditError → Error → Type 0
Tells e w = (w ≡ wide.Memory) ⊎ Says e w

-- a refused edit, told so
abbrev pub Told : (EditError → Type 0) → Error → Type 0
Told refused w = (e : EditError) × refused e × Tells e w
