-- Targets, and which JSON is one (TUF specification 1.0, section 4.5).
use Rattle.std.specs.Prelude.{ℕ, List, [], ◌++◌, map, Bool, true, false, Option, Some, None, option_map, option_and_then, Result, Ok, Err, codes, if◌then◌else◌, string_bytes}
use Rattle.std.specs.Int.NonZero.{non_zero_u64_get}
use Rattle.std.specs.Str.{bytes_eq}
use Rattle.std.specs.List.Sorted.{IsStrictlySortedBy}
use Rattle.std.specs.Map.{keys_of}
use Rattle.serde_json.specs.Data.{Data, object, Members, no_members}
use Rattle.serde_json.specs.Find.{as_object}
use Rattle.serde_json.specs.View.{members_view}
use Rattle.tough_names.specs.declared.name.NameError.{NameError}
use Rattle.tough_names.specs.Filename.{filename_of}
use Rattle.tough_names.specs.Named.{Named, clean, by_raw_then_resolved}
use Rattle.tough_json.specs.Reading.{◌>>=◌, required, optional}
use Rattle.tough_json.specs.Writing.{with, with_optional, optional_json}
use Rattle.tough_roles.specs.Head.{Head, head_at, head_json}
use Rattle.tough_roles.specs.Table.{table_from, table_json}
use Rattle.tough_roles.specs.Root.{by_bytes, AreOwn}
use Rattle.tough_roles.specs.RoleId.{RoleIdDoc, standard, delegated}
use Rattle.tough_roles.specs.declared.role_type.RoleType.TheVariants as types
use Rattle.tough_schema.specs.declared.target.Target.{Target}
use Rattle.tough_schema.specs.declared.targets.Targets.{Targets, out-Targets}
use Rattle.tough_schema.specs.declared.targets.DelegatedTargets.{DelegatedTargets, out-DelegatedTargets}
use Rattle.tough_schema.specs.Target.{TargetDoc, target_doc, target_at, target_json}
use Rattle.tough_schema.specs.Delegations.{DelegationsDoc, no_delegations, delegations_doc, delegations_at, delegations_json}

-- the targets are in the order of their names
pub record TargetsDoc : Type 0 where
  pub head : Head
  pub targets : List (Named × TargetDoc)
  pub delegations : Option DelegationsDoc
  pub extra : Members

abbrev pub listing_doc : List (Named × Target) → List (Named × TargetDoc)
listing_doc es = map (λ e. (e.0, target_doc e.1)) es

abbrev pub targets_doc : Targets → TargetsDoc
targets_doc t = let f = out-Targets t in record {
  head = record { spec_version = string_bytes f.spec_version; version = non_zero_u64_get f.version; expires = f.expires.nanosecond };
  targets = listing_doc f.targets.entries;
  delegations = option_map delegations_doc f.delegations;
  extra = members_view f._extra.entries;
}

-- the document of a delegated role, without its name
abbrev pub delegated_doc : DelegatedTargets → TargetsDoc
delegated_doc d = targets_doc (out-DelegatedTargets d).targets

abbrev pub delegated_name : DelegatedTargets → List ℕ
delegated_name d = string_bytes (out-DelegatedTargets d).name

-- the name of a delegated role's file, without a version
abbrev pub delegated_file : List ℕ → List ℕ
delegated_file name = filename_of name ++ codes ".json"

-- the role of the name; `targets` is the top-level one
abbrev pub delegated_id : List ℕ → RoleIdDoc
delegated_id name = if bytes_eq name (codes "targets") then standard types.Targets else delegated name

-- one that lists nothing, and delegates to no role
abbrev pub bare_targets : Head → TargetsDoc
bare_targets head = record { head = head; targets = []; delegations = Some no_delegations; extra = no_members }

-- ---- the listing

abbrev pub if_clean : List ℕ → Result (List ℕ) NameError → Option Named
if_clean raw (Ok resolved) = Some (record { raw = raw; resolved = resolved })
if_clean raw (Err e) = None

-- the target's name that the text is
abbrev pub name_at : List ℕ → Option Named
name_at raw = if_clean raw (clean raw)

-- a member as a target under its name
unfoldable pub entry_at : List ℕ → Data → Option (Named × TargetDoc)
entry_at raw d = do
  name ← name_at raw
  target ← target_at d
  Some (name, target)

-- the members as targets; no name stands twice, since no member does
abbrev pub listing_from : List (Named × TargetDoc) → Members → Option (List (Named × TargetDoc))
listing_from = table_from (λ there. true) by_raw_then_resolved entry_at

abbrev pub listing_at : Data → Option (List (Named × TargetDoc))
listing_at d = option_and_then (listing_from []) (as_object d)

abbrev pub resolves_to : Result (List ℕ) NameError → List ℕ → Bool
resolves_to (Ok found) resolved = bytes_eq found resolved
resolves_to (Err e) resolved = false

-- a name's raw text, which resolves as it says, as that of each name of the program does
abbrev pub raw_name : Named → Option (List ℕ)
raw_name n = if resolves_to (clean n.raw) n.resolved then Some n.raw else None

abbrev pub listing_json : List (Named × TargetDoc) → Members → Option Members
listing_json = table_json raw_name target_json

-- ---- the document

unfoldable pub targets_at : Data → Option TargetsDoc
targets_at d = do
  members ← as_object d
  head ← head_at members
  targets ← required (codes "targets") listing_at head.1
  delegations ← optional (codes "delegations") delegations_at targets.1
  Some (record { head = head.0; targets = targets.0; delegations = delegations.0; extra = delegations.1 })

-- the document with that listing, and with these as the other members
unfoldable pub targets_around : List (Named × TargetDoc) → Members → Option TargetsDoc
targets_around listing ms = do
  head ← head_at ms
  delegations ← optional (codes "delegations") delegations_at head.1
  Some (record { head = head.0; targets = listing; delegations = delegations.0; extra = delegations.1 })

-- the members with the delegations, and that under `targets`
unfoldable pub parts_json : Data → TargetsDoc → Members → Option Members
parts_json listed t members = do
  inner ← optional_json delegations_json t.delegations
  delegations ← with_optional (codes "delegations") inner members
  with (codes "targets") listed delegations

-- the document's members, with that under `targets`
unfoldable pub around_json : Data → TargetsDoc → Option Members
around_json listed t = do
  parts ← parts_json listed t t.extra
  head_json (codes "targets") t.head parts

unfoldable pub targets_json : TargetsDoc → Option Data
targets_json t = do
  listed ← listing_json t.targets no_members
  members ← around_json (object listed) t
  Some (object members)

-- each key stands under its own identifier, as in each document that was read
abbrev pub KeysAreOwn : Option DelegationsDoc → Type 0
KeysAreOwn None = Unit {0}
KeysAreOwn (Some g) = AreOwn g.keys

-- the keys are in the order of their identifiers' bytes
abbrev pub KeysRise : Option DelegationsDoc → Type 0
KeysRise None = Unit {0}
KeysRise (Some g) = IsStrictlySortedBy by_bytes (keys_of g.keys)

-- the targets are in the order of their names, and the keys in that of their identifiers, as in each of the program
pub record AreSorted (t : TargetsDoc) : Type 0 where
  pub names_rise : IsStrictlySortedBy by_raw_then_resolved (keys_of t.targets)
  pub keys_rise : KeysRise t.delegations
