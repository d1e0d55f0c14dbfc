-- Roles that an editor delegates to (TUF specification 1.0, section 4.5, `roles`).
use Rattle.std.specs.Prelude.{ℕ, List, [], ◌∷◌, ◌++◌, filter, Bool, true, false, ◌&&◌, not, Some, None, option_map}
use Rattle.std.specs.Str.{bytes_eq}
use Rattle.tough_decoded.specs.Spelled.{Spelled}
use Rattle.tough_schema.specs.Paths.{PathsDoc}
use Rattle.tough_schema.specs.Put.{is_role}
use Rattle.tough_schema.specs.Seek.{sought}
use Rattle.tough_schema.specs.Whole.{HeldDoc, RoleTree}
use Rattle.tough_sign.specs.Making.{Known}
use Rattle.tough_edit.specs.Edits.{EditsDoc}
use Rattle.tough_edit.specs.Keys.{with_keys}

-- a role with that document, under the document's name
abbrev pub delegated_to : HeldDoc → PathsDoc → Bool → List Spelled → ℕ → RoleTree
delegated_to h paths terminating keyids threshold = (record { name = h.name; keyids = keyids; threshold = threshold; paths = paths; terminating = terminating }, Some h)

-- each key that equals none there is added, and one more new role
abbrev pub with_role : Known → RoleTree → EditsDoc → EditsDoc
with_role keys r e = record e { keys = option_map (λ known. with_keys known keys) e.keys; new_roles = e.new_roles ++ r ∷ [] }

abbrev pub has_name : List ℕ → RoleTree → Bool
has_name name r = bytes_eq r.0.name name

-- the role has a document, and the name is sought there with success
abbrev pub leads_to : List ℕ → RoleTree → Bool
leads_to name (e, None) = false
leads_to name (e, Some h) = is_role (sought name h.below)

-- whether an old role stays
abbrev pub stays : List ℕ → Bool → RoleTree → Bool
stays name true r = not (has_name name r) && not (leads_to name r)
stays name false r = not (has_name name r)

-- the old roles without those of the name, and, where that is asked, without those that lead to it
abbrev pub without_role : List ℕ → Bool → EditsDoc → EditsDoc
without_role name recursive e = record e { old_roles = filter (stays name recursive) e.old_roles }
