-- Targets as an update takes them: those of a repository, and the documents of delegated roles (TUF specification 1.0, section 5.6).
use Rattle.std.specs.Prelude.{ℕ, ℤ, ◌==◌, List, [], ◌∷◌, Option, Some, None, Bool, not, option_map, option_and_then, Result, Ok, Err}
use Rattle.tough_json.specs.Pieces.{compact_of}
use Rattle.tough_json.specs.Results.{json_of}
use Rattle.tough_keys.specs.Same.{Verifies}
use Rattle.tough_roles.specs.Signature.{SignedDoc, signed_at, signed_json}
use Rattle.tough_roles.specs.Root.{RootDoc}
use Rattle.tough_roles.specs.Policy.{Policy, policy, policy_of}
use Rattle.tough_roles.specs.Verdict.{Refused, MissingRole, RoleNotFound, verdict}
use Rattle.tough_roles.specs.Chain.{text_by}
use Rattle.tough_roles.specs.declared.role_type.RoleType.TheVariants as role
use Rattle.tough_schema.specs.Delegations.{DelegationsDoc, DelegatedRoleDoc}
use Rattle.tough_schema.specs.Targets.{TargetsDoc, targets_at, targets_json}
use Rattle.tough_schema.specs.Verify.{role_named, role_keys}
use Rattle.tough_schema.specs.Whole.{TreeDoc}
use Rattle.tough_trust.specs.delegations.Bare.{bare}
use Rattle.tough_names.specs.Named.{Named}
use Rattle.tough_checks.specs.Checks.{Reason, VersionMismatch, first_of, refuse, verified, expiry}
use Rattle.tough_trust.specs.Failure.{Failure, ParseMetadata, InvalidPath}
use Rattle.tough_trust.specs.Outcomes.{if_read, holds_json, unrefused, and_then}

-- the signed targets that bytes are
abbrev pub targets_in : List ℕ → Option (SignedDoc TargetsDoc)
targets_in bytes = option_and_then (signed_at targets_at) (json_of bytes)

-- the text of signed targets in a store, where they can be written
abbrev pub targets_text : SignedDoc TargetsDoc → Option (List ℕ)
targets_text d = option_and_then compact_of (signed_json targets_json d)

-- who vouches for targets: a root, or, of delegations, if there are any, the role that says which keys sign for this name, if one does
pub data HolderDoc : Type 0 where
  by_root : RootDoc → HolderDoc
  by_role : Option DelegationsDoc → Option DelegatedRoleDoc → List ℕ → HolderDoc

-- of delegations it is the first role of the name
abbrev pub by_delegations : Option DelegationsDoc → List ℕ → HolderDoc
by_delegations g name = by_role g (option_and_then (λ d. role_named name d.roles) g) name

-- what they ask of the signatures
abbrev pub policy_in : HolderDoc → Option Policy
policy_in (by_root root) = policy root role.Targets
policy_in (by_role g r name) = option_and_then (λ d. option_map (λ (x : DelegatedRoleDoc). policy_of d.keys (role_keys x)) r) g

-- for the targets it is the root, for the document of a delegated role that role
abbrev pub holder_in : RootDoc → Option HolderDoc → HolderDoc
holder_in root None = by_root root
holder_in root (Some h) = h

-- what is refused where they have no such role
abbrev pub absent_in : HolderDoc → Refused
absent_in (by_root root) = MissingRole role.Targets
absent_in (by_role g r name) = RoleNotFound name

abbrev pub targets_verdict : Verifies → HolderDoc → SignedDoc TargetsDoc → Result Unit Refused
targets_verdict verifies holder d = verdict verifies (absent_in holder) role.Targets (policy_in holder) (text_by targets_json d.role) d.signatures

-- The check that refuses them, if one does: they must reach the threshold, have the listed version, and not be expired when the update
-- began.
abbrev pub targets_refusal : Verifies → Bool → ℤ → HolderDoc → ℕ → SignedDoc TargetsDoc → Option Reason
targets_refusal verifies enforced start holder listed d = first_of
    (verified role.Targets (targets_verdict verifies holder d)
    ∷ refuse (not (d.role.head.version == listed)) (VersionMismatch role.Targets d.role.head.version listed)
    ∷ expiry role.Targets enforced start d.role.head.expires
    ∷ [])

-- targets that were read
abbrev pub parsed : List ℕ → Result (SignedDoc TargetsDoc) Failure
parsed bytes = if_read (ParseMetadata role.Targets (holds_json bytes)) (targets_in bytes) (λ d. Ok d)

-- targets that were read and checked; none of their roles has a document
abbrev pub judged : Verifies → Bool → ℤ → HolderDoc → ℕ → List ℕ → Result (SignedDoc TreeDoc) Failure
judged verifies enforced start holder listed bytes = and_then (parsed bytes) (λ d.
    unrefused (targets_refusal verifies enforced start holder listed d) (bare d))

-- each name that a complete tree lists must be found by the permissive search; else this one isn't
abbrev pub all_found : Option Named → Result Unit Failure
all_found None = Ok (tt {0})
all_found (Some name) = Err (InvalidPath (Some name))
