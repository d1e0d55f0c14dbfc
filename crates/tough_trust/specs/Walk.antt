-- The walk from root to root (TUF specification 1.0, section 5.3).
use Rattle.std.specs.Prelude.{ℕ, ◌+◌, ◌-◌, ◌^◌, ◌==◌, List, [], ◌∷◌, Option, Some, None, option_map, not, nat_lt, Result, Ok, Err, if◌then◌else◌}
use Rattle.tough_keys.specs.Same.{Verifies}
use Rattle.tough_roles.specs.Signature.{SignedDoc}
use Rattle.tough_roles.specs.Root.{RootDoc}
use Rattle.tough_roles.specs.Verdict.{Refused}
use Rattle.tough_roles.specs.declared.role_type.RoleType.TheVariants as role
use Rattle.tough_checks.specs.Checks.{Reason, OlderMetadata, first_of, refuse, verified}
use Rattle.tough_checks.specs.Documents.{root_in, root_verdict}
use Rattle.tough_net.specs.declared.limits.Limits.{Limits}
use Rattle.tough_trust.specs.Failure.{Failure, ParseTrustedMetadata, VerifyTrustedMetadata, ParseMetadata, MaxUpdatesExceeded}
use Rattle.tough_trust.specs.Outcomes.{unless, unrefused, if_read, holds_json, and_then}
use Rattle.tough_trust.specs.Requests.{RequestDoc, root_request}

-- the root that was handed in, by what its verification under itself answers
abbrev pub if_trusted : Result Unit Refused → SignedDoc RootDoc → Result (SignedDoc RootDoc) Failure
if_trusted (Ok u) d = Ok d
if_trusted (Err r) d = Err (VerifyTrustedMetadata (Some r))

-- the root that was handed in must read, and reach its own threshold
abbrev pub first_root : Verifies → List ℕ → Result (SignedDoc RootDoc) Failure
first_root verifies bytes = if_read (ParseTrustedMetadata (holds_json bytes)) (root_in bytes) (λ d. if_trusted (root_verdict verifies d.role d) d)

-- The check that refuses the root after another, if one does: it must reach the other's threshold, then its own, and have the next version.
abbrev pub root_refusal : Verifies → RootDoc → SignedDoc RootDoc → Option Reason
root_refusal verifies old d = first_of
    (verified role.Root (root_verdict verifies old d)
    ∷ verified role.Root (root_verdict verifies d.role d)
    ∷ refuse (not (d.role.head.version == old.head.version + 1)) (OlderMetadata role.Root old.head.version d.role.head.version)
    ∷ [])

-- the root after another must read, and pass these checks
abbrev pub next_root : Verifies → RootDoc → List ℕ → Result (SignedDoc RootDoc) Failure
next_root verifies old bytes = if_read (ParseMetadata role.Root (holds_json bytes)) (root_in bytes) (λ d. unrefused (root_refusal verifies old d) d)

-- the version of the root that is fetched after the last one, where there is one, of a walk that began with the first
abbrev pub next_version : Limits → ℕ → ℕ → Result (Option ℕ) Failure
next_version l first last = unless (MaxUpdatesExceeded l.max_root_updates) (nat_lt (last - first) l.max_root_updates)
    (if last == 2 ^ 64 - 1 then Ok None else Ok (Some (last + 1)))

-- that root is asked for
abbrev pub next_request : Limits → ℕ → ℕ → Result (Option RequestDoc) Failure
next_request l first last = and_then (next_version l first last) (λ version. Ok (option_map (root_request l) version))
