-- When delegations are the same: their keys are, and their roles one by one, with the documents of these and all that is
-- below them. Identifiers and digests are compared by their bytes, and JSON's values by their own `==`.
use Rattle.std.specs.Prelude.{ℕ, zero, suc, Bool, true, ◌&&◌, List, nat_eq, String, string_bytes}
use Rattle.std.specs.Bool.{beq}
use Rattle.std.specs.Cmp.Lexicographic.{pointwise}
use Rattle.std.specs.Int.NonZero.{non_zero_u64_get}
use Rattle.std.specs.Option.{option_eq}
use Rattle.std.specs.Ordering.{int_eq}
use Rattle.std.specs.Str.{bytes_eq}
use Rattle.std.specs.declared.alloc.Global.{Global}
use Rattle.serde_json.specs.declared.value.Value.{Value}
use Rattle.serde_json.specs.contracts.value.ValuePartialEq.TheImpl as values
use Rattle.tough_decoded.specs.Spelled.{Spelled}
use Rattle.tough_keys.specs.Equal.{same_key}
use Rattle.tough_names.specs.Named.{Named}
use Rattle.tough_roles.specs.declared.signature.Signature.{Signature}
use Rattle.tough_roles.specs.declared.signed.Signed.{Signed}
use Rattle.tough_roles.specs.declared.timestamp.Hashes.{Hashes}
use Rattle.tough_schema.specs.contracts.delegations.PathSetPartialEq.TheImpl as path_sets
use Rattle.tough_schema.specs.declared.target.Target.{Target}
use Rattle.tough_schema.specs.declared.delegations.DelegatedRole.{DelegatedRole, out-DelegatedRole}
use Rattle.tough_schema.specs.declared.delegations.Delegations.{Delegations, out-Delegations}
use Rattle.tough_schema.specs.declared.targets.DelegatedTargets.{DelegatedTargets, out-DelegatedTargets}
use Rattle.tough_schema.specs.declared.targets.Targets.{Targets, out-Targets}
use Rattle.tough_schema.specs.Below.{roles_beneath}
use Rattle.tough_schema.specs.Falling.{deepest}

abbrev pub same_bytes : Spelled → Spelled → Bool
same_bytes a b = bytes_eq a.bytes b.bytes

abbrev pub same_members : List (String Global × Value) → List (String Global × Value) → Bool
same_members ms ns = pointwise (λ m n. bytes_eq (string_bytes m.0) (string_bytes n.0) && values.ghosts.eq m.1 n.1) ms ns

abbrev pub same_signature : Signature → Signature → Bool
same_signature a b = same_bytes a.keyid b.keyid && same_bytes a.sig b.sig

abbrev pub same_hashes : Hashes → Hashes → Bool
same_hashes h k = same_bytes h.sha256 k.sha256 && (option_eq same_bytes h.sha512 k.sha512 && same_members h._extra.entries k._extra.entries)

abbrev pub same_target : Target → Target → Bool
same_target t u = nat_eq t.length u.length && (same_hashes t.hashes u.hashes && (same_members t.custom.entries u.custom.entries && same_members t._extra.entries u._extra.entries))

abbrev pub same_name : Named → Named → Bool
same_name a b = bytes_eq a.raw b.raw && bytes_eq a.resolved b.resolved

abbrev pub same_keys : Delegations → Delegations → Bool
same_keys g h = pointwise (λ k l. same_bytes k.0 l.0 && same_key k.1 l.1) (out-Delegations g).keys.entries (out-Delegations h).keys.entries

-- documents but for their roles
abbrev pub same_own : Targets → Targets → Bool
same_own t u =
    let a = out-Targets t in
    let b = out-Targets u in
    nat_eq (non_zero_u64_get a.version) (non_zero_u64_get b.version)
    && (int_eq a.expires.nanosecond b.expires.nanosecond
    && (bytes_eq (string_bytes a.spec_version) (string_bytes b.spec_version)
    && (same_members a._extra.entries b._extra.entries
    && (option_eq same_keys a.delegations b.delegations
    && pointwise (λ m n. same_name m.0 n.0 && same_target m.1 n.1) a.targets.entries b.targets.entries))))

-- with their names and signatures
abbrev pub same_held : Signed DelegatedTargets → Signed DelegatedTargets → Bool
same_held s t =
    let a = out-DelegatedTargets s.signed in
    let b = out-DelegatedTargets t.signed in
    bytes_eq (string_bytes a.name) (string_bytes b.name) && (pointwise same_signature s.signatures.items t.signatures.items && same_own a.targets b.targets)

-- roles and their documents but for the roles below
abbrev pub same_but_below : DelegatedRole → DelegatedRole → Bool
same_but_below r s =
    let a = out-DelegatedRole r in
    let b = out-DelegatedRole s in
    beq a.terminating b.terminating
    && (nat_eq (non_zero_u64_get a.threshold) (non_zero_u64_get b.threshold)
    && (bytes_eq (string_bytes a.name) (string_bytes b.name)
    && (pointwise same_bytes a.keyids.items b.keyids.items
    && (path_sets.ghosts.eq a.paths b.paths
    && option_eq same_held a.targets b.targets))))

-- roles one by one, and those below them, down to so many levels
abbrev pub same_to : ℕ → List DelegatedRole → List DelegatedRole → Bool
same_to zero rs ss = true
same_to (suc n) rs ss = pointwise (λ r s. same_but_below r s && same_to n (roles_beneath r) (roles_beneath s)) rs ss

-- down to all levels that the first ones have
abbrev pub same_roles : List DelegatedRole → List DelegatedRole → Bool
same_roles rs ss = same_to (suc (deepest rs)) rs ss

abbrev pub same_delegations : Delegations → Delegations → Bool
same_delegations g h = same_keys g h && same_roles (out-Delegations g).roles.items (out-Delegations h).roles.items
