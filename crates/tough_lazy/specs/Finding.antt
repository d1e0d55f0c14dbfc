-- What was found out about a role: words of private clauses.
use Rattle.std.specs.Prelude.{◌≡◌, ℕ, List, Some, string_bytes}
use Rattle.tough_names.specs.Named.{Named}
use Rattle.tough_keys.specs.Same.{Verifies}
use Rattle.tough_roles.specs.Signature.{signed_doc}
use Rattle.tough_roles.specs.Timestamp.{MetafileDoc}
use Rattle.tough_schema.specs.Whole.{tree_doc}
use Rattle.tough_net.specs.declared.limits.Limits.{Limits}
use Rattle.tough_trust.specs.View.{request_doc}
use Rattle.tough_update.specs.Stages.{LoadedDoc}
use Rattle.tough_client.specs.declared.repository.Repository.{Repository}
use Rattle.tough_client.specs.Repositories.{documents_of, limits_of, enforced_of}
use Rattle.tough_lazy.specs.Course.{Need, needed}
use Rattle.tough_lazy.specs.Documents.{sought_in, entry_for, file_for}
use Rattle.tough_lazy.specs.Telling.{IsVerified}
use Rattle.tough_lazy.specs.declared.role.Listing.{Listing}
use Rattle.tough_lazy.specs.declared.role.Verified.{Verified}

-- what the snapshot lists for a role
pub record IsListing (limits : Limits) (l : LoadedDoc) (n : Need) (x : Listing) : Type 0 where
  pub entry : MetafileDoc
  pub listed : entry_for l n ≡ Some entry
  pub role : string_bytes x.role ≡ n.entry.name
  pub version : x.version ≡ entry.version
  pub request : request_doc x.request ≡ file_for limits l n entry

-- it is the one that a search for the name needs, and these bytes are it
pub record IsFound {T K C R : Type 0} (verifies : Verifies) (name : Named) (r : Repository T K C R) (bytes : List ℕ) (v : Verified) : Type 0 where
  pub need : Need
  pub needed : sought_in name (documents_of r) ≡ needed need
  pub way : v.way.items ≡ need.way
  pub verified : IsVerified verifies (limits_of r) (enforced_of r) (documents_of r) need bytes (string_bytes v.role) (string_bytes v.file) (signed_doc tree_doc v.document)
