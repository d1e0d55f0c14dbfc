-- What a look at the stored root tells; it writes nothing and notes nothing.
use Rattle.std.specs.Prelude.{◌≡◌, ◌<◌, ℕ, List, Option, None, Some, Result, Ok, Err, Bool, true, IfOk, IfErr, OnOk, ⊤}
use Rattle.tough_keys.specs.Same.{Verifies}
use Rattle.tough_roles.specs.Chain.{ReachesUnder}
use Rattle.tough_roles.specs.Root.{RootDoc, root_json}
use Rattle.tough_roles.specs.Signature.{SignedDoc}
use Rattle.tough_roles.specs.declared.role_type.RoleType.TheVariants as role
use Rattle.tough_roles.specs.declared.root.Root.{Root}
use Rattle.tough_roles.specs.declared.signed.Signed.{Signed}
use Rattle.tough_checks.specs.Files.{root_file}
use Rattle.tough_checks.specs.StoredDocuments.{root_where, newer_root, stored_root}
use Rattle.tough_checks.specs.declared.checks.StepError.{StepError}
use Rattle.tough_vault.specs.Parts.{IsReadFault}
use Rattle.tough_vault.specs.Step.{Parts, Finds}
use Rattle.tough_vault.specs.Stored.{Files, SameFiles}

-- the root that a look gives, as plain data
abbrev pub look_doc : Result (Option (Signed Root)) StepError → Result (Option (SignedDoc RootDoc)) StepError
look_doc (Ok r) = Ok (root_where r)
look_doc (Err e) = Err e

-- a root that a look gives is newer than this version and verifies itself
abbrev pub VouchesRoot : Verifies → ℕ → Option (SignedDoc RootDoc) → Type 0
VouchesRoot verifies first None = ⊤
VouchesRoot verifies first (Some r) = (first < r.role.head.version) × ReachesUnder verifies r.role role.Root root_json r

abbrev pub VouchesLook : Verifies → ℕ → Result (Option (SignedDoc RootDoc)) StepError → Type 0
VouchesLook verifies first (Ok r) = VouchesRoot verifies first r
VouchesLook verifies first (Err e) = ⊤

module _ {S : Type 0} (tells : Bool) (files : S → Files) (count : S → ℕ) where
  -- A read of `root.json`: the root that it holds, where that is newer than this version, or the store's fault. No file changes.
  pub record Sees (verifies : Verifies) (first : ℕ) (old new : S) (result : Result (Option (SignedDoc RootDoc)) StepError) : Type 0 where
    pub root : IfOk result (λ r. (found : Option (List ℕ)) × Finds tells (files old) root_file found × (r ≡ newer_root first (stored_root verifies found)))
    pub fault : IfErr result (IsReadFault tells files count root_file old new)
    pub quiet : OnOk result (count new ≡ count old)
    pub same : tells ≡ true → SameFiles (files old) (files new)

  -- The contract of `read_root`.
  pub record Looks (verifies : Verifies) (first : ℕ) (old new : Parts S) (result : Result (Option (SignedDoc RootDoc)) StepError) : Type 0 where
    pub sees : Sees verifies first old.store new.store result
    pub notes : new.notes ≡ old.notes
    pub tip : new.tip ≡ old.tip
