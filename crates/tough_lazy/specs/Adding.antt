-- The document of a delegated role that a search needs is stored, and gets its place in a repository.
use Rattle.std.specs.Prelude.{◌≡◌, ◌⊎◌, ℕ, List, Result, Ok}
use Rattle.tough_names.specs.Named.{Named}
use Rattle.tough_keys.specs.Same.{Verifies}
use Rattle.tough_roles.specs.Signature.{SignedDoc}
use Rattle.tough_schema.specs.Whole.{TreeDoc}
use Rattle.tough_checks.specs.Files.{IsReserved}
use Rattle.tough_checks.specs.declared.checks.StepError.{StepError}
use Rattle.tough_vault.specs.Act.{Act, PutDocument}
use Rattle.tough_trust.specs.Failure.{Failure}
use Rattle.tough_trust.specs.Listed.{targets_text}
use Rattle.tough_trust.specs.Steps.{Keeping, TakesStep}
use Rattle.tough_trust.specs.delegations.Bare.{top_page}
use Rattle.tough_client.specs.declared.repository.Repository.{Repository}
use Rattle.tough_client.specs.Repositories.{documents_of, limits_of, enforced_of, keeping_of}
use Rattle.tough_lazy.specs.Course.{needed}
use Rattle.tough_lazy.specs.Documents.{AddedDoc, IsDocument, IsSettled, sought_in, file_for, with_document}

module _ {K R : Type 0} (keeps : Verifies → K → Act → Result R StepError → K → Type 0) (verifies : Verifies) where
  -- a document is stored under the name of its file, unless that is one of the vault's own
  abbrev pub Stores : List ℕ → SignedDoc TreeDoc → Keeping K R → Result Unit Failure → Keeping K R → Type 0
  Stores file d k answer next = (IsReserved file × (answer ≡ Ok (tt {0})) × (next ≡ k))
      ⊎ ((IsReserved file → ⊥) × TakesStep keeps verifies (PutDocument file (targets_text (top_page d))) k answer next)

  module _ {T C : Type 0} (name : Named) (bytes : List ℕ) (old new : Repository T K C R) where
    -- these bytes are the document that the search needs, and the answer is that of storing it
    pub record IsStored (answer : Result Unit Failure) : Type 0 where
      pub added : AddedDoc
      pub received : added.bytes ≡ bytes
      pub needed : sought_in name (documents_of old) ≡ needed added.need
      pub is : IsDocument verifies (limits_of old) (enforced_of old) (documents_of old) added
      pub stored : Stores (file_for (limits_of old) (documents_of old) added.need added.entry).name added.document (keeping_of old) answer (keeping_of new)

    -- it was stored, and has its place
    pub record Adds : Type 0 where
      pub stored : IsStored (Ok (tt {0}))
      pub placed : documents_of new ≡ with_document stored.added (documents_of old)

-- no document is needed, and nothing was done
pub record AddsNone {T K C R : Type 0} (name : Named) (old new : Repository T K C R) : Type 0 where
  pub settled : IsSettled name (documents_of old)
  pub documents : documents_of new ≡ documents_of old
  pub keeping : keeping_of new ≡ keeping_of old
