-- Which file is fetched next (TUF specification 1.0, sections 5.3 to 5.6.7): its name as section 6.2 gives it, how long it may be, and
-- which digests it must have.
use Rattle.std.specs.Prelude.{ℕ, List, length, Option, Some, None, option_map, Bool, ◌&&◌, nat_le, codes}
use Rattle.tough_roles.specs.Names.{versioned, file_name}
use Rattle.tough_roles.specs.Timestamp.{HashesDoc, MetafileDoc}
use Rattle.tough_schema.specs.Targets.{delegated_file}
use Rattle.tough_net.specs.Digests.{Digests, no_digests, has_digests}
use Rattle.tough_net.specs.declared.limits.Limits.{Limits}

-- a file that is to be fetched; the specifier says where the bound on its length comes from
pub record RequestDoc : Type 0 where
  pub name : List ℕ
  pub max_size : ℕ
  pub specifier : List ℕ
  pub digests : Digests

-- what an entry states, or else the default
abbrev pub bound : Option ℕ → ℕ → ℕ
bound None default = default
bound (Some n) default = n

-- the digests that hashes state
abbrev pub digests_in : HashesDoc → Digests
digests_in h = record { sha256 = Some h.sha256.bytes; sha512 = option_map (λ s. s.bytes) h.sha512 }

abbrev pub stated_digests : Option HashesDoc → Digests
stated_digests None = no_digests
stated_digests (Some h) = digests_in h

-- a root is always asked for by its version
abbrev pub root_request : Limits → ℕ → RequestDoc
root_request l n = record { name = versioned n (codes "root.json"); max_size = l.max_root_size; specifier = codes "max_root_size argument"; digests = no_digests }

abbrev pub timestamp_request : Limits → RequestDoc
timestamp_request l = record { name = codes "timestamp.json"; max_size = l.max_timestamp_size; specifier = codes "max_timestamp_size argument"; digests = no_digests }

-- the snapshot, as the timestamp's entry says
abbrev pub snapshot_request : Limits → Bool → MetafileDoc → RequestDoc
snapshot_request l consistent m = record {
  name = file_name consistent m.version (codes "snapshot.json");
  max_size = bound m.length l.max_snapshot_size;
  specifier = codes "timestamp.json";
  digests = stated_digests m.hashes;
}

abbrev pub targets_specifier : Option ℕ → List ℕ
targets_specifier None = codes "max_targets_size parameter"
targets_specifier (Some n) = codes "snapshot.json"

-- the targets, as the snapshot's entry says
abbrev pub targets_request : Limits → Bool → MetafileDoc → RequestDoc
targets_request l consistent m = record {
  name = file_name consistent m.version (codes "targets.json");
  max_size = bound m.length l.max_targets_size;
  specifier = targets_specifier m.length;
  digests = stated_digests m.hashes;
}

-- the document of a delegated role, as the snapshot's entry says
abbrev pub role_request : Limits → Bool → List ℕ → MetafileDoc → RequestDoc
role_request l consistent name m = record {
  name = file_name consistent m.version (delegated_file name);
  max_size = bound m.length l.max_targets_size;
  specifier = targets_specifier m.length;
  digests = stated_digests m.hashes;
}

-- the bytes are no longer than asked, and have each digest that was asked for
abbrev pub fits_request : RequestDoc → List ℕ → Bool
fits_request r bytes = nat_le (length bytes) r.max_size && has_digests r.digests bytes
