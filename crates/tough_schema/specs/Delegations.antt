-- The roles that a document delegates to, and their keys (TUF specification 1.0, section 4.5, `delegations`).
use Rattle.std.specs.Prelude.{ℕ, List, [], map, Bool, Option, Some, codes, string_bytes}
use Rattle.std.specs.Int.NonZero.{non_zero_u64_get}
use Rattle.tough_decoded.specs.Spelled.{Spelled}
use Rattle.serde_json.specs.Data.{Data, boolean, string, array, object, no_members}
use Rattle.serde_json.specs.Find.{as_object}
use Rattle.tough_json.specs.Reading.{◌>>=◌, required, text, positive, truth, hexadecimal, listing}
use Rattle.tough_json.specs.Writing.{with, positive_json, hexadecimal_json, all_json}
use Rattle.tough_keys.specs.declared.key.Key.{Key}
use Rattle.tough_keys.specs.Key.{KeyDoc}
use Rattle.tough_roles.specs.Root.{keys_doc, keys_at, keys_json}
use Rattle.tough_schema.specs.declared.delegations.DelegatedRole.{DelegatedRole, out-DelegatedRole}
use Rattle.tough_schema.specs.declared.delegations.Delegations.{Delegations, out-Delegations}
use Rattle.tough_schema.specs.Paths.{PathsDoc, paths_doc, paths_at, with_paths}

-- a delegated role, without the document that was loaded for it
pub record DelegatedRoleDoc : Type 0 where
  pub name : List ℕ
  pub keyids : List Spelled
  pub threshold : ℕ
  pub paths : PathsDoc
  pub terminating : Bool

-- the keys are in the order of their identifiers' bytes, the roles in that of the document
pub record DelegationsDoc : Type 0 where
  pub keys : List (Spelled × KeyDoc)
  pub roles : List DelegatedRoleDoc

abbrev pub delegated_role_doc : DelegatedRole → DelegatedRoleDoc
delegated_role_doc r = let f = out-DelegatedRole r in
    record { name = string_bytes f.name; keyids = f.keyids.items; threshold = non_zero_u64_get f.threshold; paths = paths_doc f.paths; terminating = f.terminating }

abbrev pub delegations_doc : Delegations → DelegationsDoc
delegations_doc d = let f = out-Delegations d in record { keys = keys_doc f.keys.entries; roles = map delegated_role_doc f.roles.items }

-- the keys, each under its identifier
abbrev pub keys_held : Delegations → List (Spelled × Key)
keys_held d = (out-Delegations d).keys.entries

-- no key and no role
abbrev pub no_delegations : DelegationsDoc
no_delegations = record { keys = []; roles = [] }

unfoldable pub delegated_role_at : Data → Option DelegatedRoleDoc
delegated_role_at d = do
  members ← as_object d
  name ← required (codes "name") text members
  keyids ← required (codes "keyids") (listing hexadecimal) name.1
  threshold ← required (codes "threshold") positive keyids.1
  terminating ← required (codes "terminating") truth threshold.1
  paths ← paths_at terminating.1
  Some (record { name = name.0; keyids = keyids.0; threshold = threshold.0; paths = paths; terminating = terminating.0 })

-- what else stands there is dropped
unfoldable pub delegations_at : Data → Option DelegationsDoc
delegations_at d = do
  members ← as_object d
  keys ← required (codes "keys") keys_at members
  roles ← required (codes "roles") (listing delegated_role_at) keys.1
  Some (record { keys = keys.0; roles = roles.0 })

unfoldable pub delegated_role_json : DelegatedRoleDoc → Option Data
delegated_role_json r = do
  paths ← with_paths r.paths no_members
  terminating ← with (codes "terminating") (boolean r.terminating) paths
  value ← positive_json r.threshold
  threshold ← with (codes "threshold") value terminating
  items ← all_json hexadecimal_json r.keyids
  keyids ← with (codes "keyids") (array items) threshold
  members ← with (codes "name") (string r.name) keyids
  Some (object members)

unfoldable pub delegations_json : DelegationsDoc → Option Data
delegations_json g = do
  items ← all_json delegated_role_json g.roles
  roles ← with (codes "roles") (array items) no_members
  known ← keys_json g.keys no_members
  members ← with (codes "keys") (object known) roles
  Some (object members)
