-- The comparison of delegations is symmetric and transitive.
use Rattle.std.proofs.Common.{◌≡◌, ℕ, zero, suc, ◌+◌, ◌<◌, ◌≤◌, Bool, true, ◌&&◌, List, [], ◌∷◌, Option, Some, None, nat_eq, string_bytes, refl, sym, ◌∙◌, arith}
use Rattle.std.specs.Cmp.{IsPartialEquivalence, and_per, on_per, partial_equiv_from_equiv, nat_eq_equiv, int_eq_equiv, bool_eq_equiv}
use Rattle.std.specs.Cmp.Lexicographic.{pointwise, lists_per, nat_list_eq_equiv}
use Rattle.std.specs.Option.{option_eq}
use Rattle.std.specs.Int.NonZero.{non_zero_u64_get}
use Rattle.serde_json.specs.contracts.value.ValuePartialEq.TheImpl.Laws as values
use Rattle.tough_keys.specs.Equals.{same_key-per}
use Rattle.tough_schema.specs.contracts.delegations.PathSetPartialEq.TheImpl.Laws as path_sets
use Rattle.tough_roles.specs.declared.signed.Signed.{Signed}
use Rattle.tough_schema.specs.declared.delegations.DelegatedRole.TheViews.{weight-DelegatedRole-targets, weight-Targets-delegations}
use Rattle.tough_schema.specs.declared.delegations.DelegatedRole.{DelegatedRole, out-DelegatedRole, size_is-DelegatedRole}
use Rattle.tough_schema.specs.declared.delegations.Delegations.{Delegations, out-Delegations, size_is-Delegations}
use Rattle.tough_schema.specs.declared.targets.DelegatedTargets.{DelegatedTargets, out-DelegatedTargets, size_is-DelegatedTargets}
use Rattle.tough_schema.specs.declared.targets.Targets.{out-Targets, size_is-Targets}
use Rattle.tough_schema.specs.Below.{roles_at, roles_held, roles_beneath}
use Rattle.tough_schema.specs.Falling.{depth, deepest}
use Rattle.tough_schema.specs.Equal.{same_bytes, same_members, same_signature, same_hashes, same_target, same_name, same_keys, same_own, same_held, same_but_below, same_to, same_roles, same_delegations}

-- ---- the roles below a role are less deep than it

at_roles : (o : Option Delegations) → deepest (roles_at o) ≤ weight-Targets-delegations o
at_roles None = omega arith
at_roles (Some g) = omega (arith, size_is-Delegations g)

held_roles : (o : Option (Signed DelegatedTargets)) → deepest (roles_held o) ≤ weight-DelegatedRole-targets o
held_roles None = omega arith
held_roles (Some s) =
    let t = (out-DelegatedTargets s.signed).targets in
    omega (arith, size_is-DelegatedTargets s.signed, size_is-Targets t, at_roles (out-Targets t).delegations)

pub shallower : (r : DelegatedRole) → deepest (roles_beneath r) < depth r
shallower r = omega (arith, size_is-DelegatedRole r, held_roles (out-DelegatedRole r).targets)

-- ---- each level that there is gives the same answer

level_alike : (a b : List DelegatedRole → List DelegatedRole → Bool) (n : ℕ) → ((rs ss : List DelegatedRole) → deepest rs < n → a rs ss ≡ b rs ss) → (rs ss : List DelegatedRole) → deepest rs ≤ n
    → pointwise (λ r s. same_but_below r s && a (roles_beneath r) (roles_beneath s)) rs ss ≡ pointwise (λ r s. same_but_below r s && b (roles_beneath r) (roles_beneath s)) rs ss
level_alike a b n f [] [] h = refl
level_alike a b n f [] (s ∷ ss) h = refl
level_alike a b n f (r ∷ rs) [] h = refl
level_alike a b n f (r ∷ rs) (s ∷ ss) h =
    let here : a (roles_beneath r) (roles_beneath s) ≡ b (roles_beneath r) (roles_beneath s) = f (roles_beneath r) (roles_beneath s) (omega (arith, shallower r)) in
    let rest = level_alike a b n f rs ss (omega arith) in
    λ i. (same_but_below r s && here i) && rest i

pub levels_alike : (n m : ℕ) (rs ss : List DelegatedRole) → deepest rs < n → deepest rs < m → same_to n rs ss ≡ same_to m rs ss
levels_alike zero m rs ss h k = absurd (omega arith)
levels_alike (suc n) zero rs ss h k = absurd (omega arith)
levels_alike (suc n) (suc m) rs ss h k = level_alike (same_to n) (same_to m) (deepest rs) (λ us vs l. levels_alike n m us vs (omega arith) (omega arith)) rs ss (omega arith)

pub as_deep : (n : ℕ) (rs ss : List DelegatedRole) → deepest rs < n → same_to n rs ss ≡ same_roles rs ss
as_deep n rs ss h = levels_alike n (suc (deepest rs)) rs ss h (omega arith)

-- the first roles, what is below them, and the others
pub same-cons : (r s : DelegatedRole) (rs ss : List DelegatedRole) → same_roles (r ∷ rs) (s ∷ ss) ≡ ((same_but_below r s && same_roles (roles_beneath r) (roles_beneath s)) && same_roles rs ss)
same-cons r s rs ss =
    let n = deepest (r ∷ rs) in
    let below = as_deep n (roles_beneath r) (roles_beneath s) (omega (arith, shallower r)) in
    let others = as_deep (suc n) rs ss (omega arith) in
    λ i. (same_but_below r s && below i) && others i

-- ---- the laws

module _ {K : Type 0} {E : K → K → Bool} (p : IsPartialEquivalence E) where
  option_symm : (x y : Option K) → option_eq E x y ≡ option_eq E y x
  option_symm None None = refl
  option_symm None (Some y) = refl
  option_symm (Some x) None = refl
  option_symm (Some x) (Some y) = p.symm x y

  option_trans : (x y z : Option K) → option_eq E x y ≡ true → option_eq E y z ≡ true → option_eq E x z ≡ true
  option_trans None None z h k = k
  option_trans None (Some y) z h k = absurd (cc (h))
  option_trans (Some x) None z h k = absurd (cc (h))
  option_trans (Some x) (Some y) None h k = k
  option_trans (Some x) (Some y) (Some z) h k = p.trans x y z h k

  option_per : IsPartialEquivalence (option_eq E)
  option_per = record { symm = option_symm; trans = option_trans }

eqs_per : IsPartialEquivalence nat_eq
eqs_per = partial_equiv_from_equiv nat_eq_equiv

texts_per : IsPartialEquivalence (pointwise nat_eq)
texts_per = partial_equiv_from_equiv nat_list_eq_equiv

bytes_per : IsPartialEquivalence same_bytes
bytes_per = on_per (λ b. b.bytes) texts_per

members_per : IsPartialEquivalence same_members
members_per = lists_per (and_per (on_per (λ m. string_bytes m.0) texts_per) (on_per (λ m. m.1) values.laws-law))

signature_per : IsPartialEquivalence same_signature
signature_per = and_per (on_per (λ s. s.keyid) bytes_per) (on_per (λ s. s.sig) bytes_per)

hashes_per : IsPartialEquivalence same_hashes
hashes_per = and_per (on_per (λ h. h.sha256) bytes_per) (and_per (on_per (λ h. h.sha512) (option_per bytes_per)) (on_per (λ h. h._extra.entries) members_per))

target_per : IsPartialEquivalence same_target
target_per =
    and_per (on_per (λ t. t.length) eqs_per) (and_per (on_per (λ t. t.hashes) hashes_per)
    (and_per (on_per (λ t. t.custom.entries) members_per) (on_per (λ t. t._extra.entries) members_per)))

name_per : IsPartialEquivalence same_name
name_per = and_per (on_per (λ n. n.raw) texts_per) (on_per (λ n. n.resolved) texts_per)

keys_per : IsPartialEquivalence same_keys
keys_per = on_per (λ g. (out-Delegations g).keys.entries) (lists_per (and_per (on_per (λ k. k.0) bytes_per) (on_per (λ k. k.1) same_key-per)))

own_per : IsPartialEquivalence same_own
own_per =
    and_per (on_per (λ t. non_zero_u64_get (out-Targets t).version) eqs_per)
    (and_per (on_per (λ t. (out-Targets t).expires.nanosecond) (partial_equiv_from_equiv int_eq_equiv))
    (and_per (on_per (λ t. string_bytes (out-Targets t).spec_version) texts_per)
    (and_per (on_per (λ t. (out-Targets t)._extra.entries) members_per)
    (and_per (on_per (λ t. (out-Targets t).delegations) (option_per keys_per))
    (on_per (λ t. (out-Targets t).targets.entries) (lists_per (and_per (on_per (λ m. m.0) name_per) (on_per (λ m. m.1) target_per))))))))

held_per : IsPartialEquivalence same_held
held_per =
    and_per (on_per (λ s. string_bytes (out-DelegatedTargets s.signed).name) texts_per)
    (and_per (on_per (λ s. s.signatures.items) (lists_per signature_per)) (on_per (λ s. (out-DelegatedTargets s.signed).targets) own_per))

but_below_per : IsPartialEquivalence same_but_below
but_below_per =
    and_per (on_per (λ r. (out-DelegatedRole r).terminating) (partial_equiv_from_equiv bool_eq_equiv))
    (and_per (on_per (λ r. non_zero_u64_get (out-DelegatedRole r).threshold) eqs_per)
    (and_per (on_per (λ r. string_bytes (out-DelegatedRole r).name) texts_per)
    (and_per (on_per (λ r. (out-DelegatedRole r).keyids.items) (lists_per bytes_per))
    (and_per (on_per (λ r. (out-DelegatedRole r).paths) path_sets.laws-law)
    (on_per (λ r. (out-DelegatedRole r).targets) (option_per held_per))))))

to_per : (n : ℕ) → IsPartialEquivalence (same_to n)
to_per zero = record { symm = λ x y. refl; trans = λ x y z h k. refl }
to_per (suc n) = lists_per (and_per but_below_per (on_per roles_beneath (to_per n)))

abbrev over : List DelegatedRole → List DelegatedRole → List DelegatedRole → ℕ
over x y z = deepest x + deepest y + deepest z + 1

roles_per : IsPartialEquivalence same_roles
roles_per = record {
  symm = λ x y. sym (as_deep (over x y y) x y (omega arith)) ∙ (to_per (over x y y)).symm x y ∙ as_deep (over x y y) y x (omega arith);
  trans = λ x y z h k. sym (as_deep (over x y z) x z (omega arith)) ∙ (to_per (over x y z)).trans x y z (as_deep (over x y z) x y (omega arith) ∙ h) (as_deep (over x y z) y z (omega arith) ∙ k);
}

pub same_delegations-per : IsPartialEquivalence same_delegations
same_delegations-per = and_per keys_per (on_per (λ g. (out-Delegations g).roles.items) roles_per)
