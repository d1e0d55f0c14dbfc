-- An editor of a role of a loaded repository (TUF specification 1.0, sections 4.3 and 4.5).
use Rattle.std.specs.Prelude.{◌≡◌, ◌⊎◌, ⊤, ℕ, List, false, Option, Some, None, String, string_bytes}
use Rattle.std.specs.declared.alloc.Global.{Global}
use Rattle.tough_roles.specs.Root.{root_doc}
use Rattle.tough_roles.specs.declared.error.Error.{Error as Fault}
use Rattle.tough_roles.specs.declared.error.Error.TheVariants as faults
use Rattle.tough_schema.specs.Seek.{Sought, sought, role_of}
use Rattle.tough_schema.specs.Whole.{TreeDoc, RoleTree, tree_doc}
use Rattle.tough_edit.specs.Edits.{EditsDoc}
use Rattle.tough_error.specs.declared.error.Error.{Error}
use Rattle.tough_error.specs.declared.error.Error.TheVariants as wide
use Rattle.tough_parts.specs.declared.RepositoryParts.{RepositoryParts}
use Rattle.tough_release.specs.Closing.{IsEditorOf}
use Rattle.tough_release.specs.Holding.{is_top}
use Rattle.tough_editor.specs.Editors.{EditorDoc}

-- an editor of the role's document, with what fetches
abbrev pub IsTaken : {T : Type 0} → RepositoryParts T → List ℕ → EditorDoc EditsDoc T → Type 0
IsTaken p name e = IsEditorOf name (root_doc p.root.signed) (tree_doc p.targets.signed) e.edits × (e.limits ≡ Some p.limits) × (e.transport ≡ Some p.transport)

-- there is no such role, or no document of it; want of memory says nothing
abbrev pub IsUnfound : List ℕ → Sought → Error → Type 0
IsUnfound name s (wide.DelegateNotFound role) = (string_bytes role ≡ name) × (role_of s ≡ None)
IsUnfound name s wide.NoTargets = (r : RoleTree) × (role_of s ≡ Some r) × (r.1 ≡ None)
IsUnfound name s wide.Memory = ⊤
IsUnfound name s _ = ⊥

-- a role below the targets isn't found
abbrev pub IsUntaken : List ℕ → TreeDoc → Error → Type 0
IsUntaken name t w = (w ≡ wide.Memory) ⊎ ((is_top name ≡ false) × IsUnfound name (sought name t) w)

-- ---- words of private clauses

abbrev pub unfound_as : String Global → Fault → Error
unfound_as name faults.Memory = wide.Memory
unfound_as name source = wide.DelegateNotFound name
