-- An editor of a targets document (TUF specification 1.0, section 4.5), and its calls.
use Rattle.std.specs.Prelude.{ℕ, ℤ, List, [], ◌∷◌, map, Option, Some, None, option_map, string_bytes}
use Rattle.std.specs.Int.NonZero.{non_zero_u64_get}
use Rattle.std.specs.BTreeMap.{insert_entry, is_at}
use Rattle.std.specs.Map.{remove_entry}
use Rattle.serde_json.specs.Data.{Members, no_members}
use Rattle.serde_json.specs.View.{members_view}
use Rattle.tough_names.specs.Named.{Named, by_raw_then_resolved}
use Rattle.tough_roles.specs.Root.{keys_doc}
use Rattle.tough_schema.specs.Target.{TargetDoc}
use Rattle.tough_schema.specs.Targets.{listing_doc}
use Rattle.tough_schema.specs.Tree.{Listing}
use Rattle.tough_schema.specs.Whole.{TreeDoc, tree, Branches, no_branches, unloaded, loaded, RoleTree, role_tree}
use Rattle.tough_sign.specs.Making.{Known}
use Rattle.tough_signed.specs.Holders.{HolderDoc, holder_doc}
use Rattle.tough_edit.specs.declared.edits.TargetEdits.{TargetEdits}

-- no keys where the document has no delegations; each role with its document if it has one
pub record EditsDoc : Type 0 where
  pub name : List ℕ
  pub holder : Option HolderDoc
  pub keys : Option Known
  pub old_roles : List RoleTree
  pub new_roles : List RoleTree
  pub old_targets : Listing
  pub new_targets : Listing
  pub version : Option ℕ
  pub expires : Option ℤ
  pub extra : Members

abbrev pub edits_doc : TargetEdits → EditsDoc
edits_doc e = record {
  name = string_bytes e.name;
  holder = option_map holder_doc e.holder;
  keys = option_map (λ m. keys_doc m.entries) e.keys;
  old_roles = map role_tree e.old_roles.items;
  new_roles = map role_tree e.new_roles.items;
  old_targets = listing_doc e.old_targets.entries;
  new_targets = listing_doc e.new_targets.entries;
  version = option_map non_zero_u64_get e.version;
  expires = option_map (λ t. t.nanosecond) e.expires;
  extra = members_view e.extra.entries;
}

-- one of a new document, with empty delegations
abbrev pub fresh : List ℕ → EditsDoc
fresh name = record { name = name; holder = None; keys = Some []; old_roles = []; new_roles = []; old_targets = []; new_targets = []; version = None; expires = None; extra = no_members }

-- the roles in their order
abbrev pub roles_in : Branches → List RoleTree
roles_in no_branches = []
roles_in (unloaded e bs) = (e, None) ∷ roles_in bs
roles_in (loaded e name signatures t bs) = (e, Some (record { name = name; signatures = signatures; below = t })) ∷ roles_in bs

-- one of a document, which the holder's keys sign where there is one; its version and its expiry aren't taken over
abbrev pub opened : List ℕ → Option HolderDoc → TreeDoc → EditsDoc
opened name holder (tree o bs) = record { name = name; holder = holder; keys = o.keys; old_roles = roles_in bs; new_roles = []; old_targets = o.targets; new_targets = []; version = None; expires = None; extra = o.extra }

-- ---- targets, version and expiry

abbrev pub with_target : Named → TargetDoc → EditsDoc → EditsDoc
with_target name t e = record e { new_targets = insert_entry by_raw_then_resolved e.new_targets name t }

abbrev pub without_target : Named → EditsDoc → EditsDoc
without_target name e = record e { old_targets = remove_entry (is_at (by_raw_then_resolved name)) e.old_targets; new_targets = remove_entry (is_at (by_raw_then_resolved name)) e.new_targets }

abbrev pub without_targets : EditsDoc → EditsDoc
without_targets e = record e { old_targets = []; new_targets = [] }

abbrev pub with_version : ℕ → EditsDoc → EditsDoc
with_version version e = record e { version = Some version }

abbrev pub with_expiry : ℤ → EditsDoc → EditsDoc
with_expiry expires e = record e { expires = Some expires }
