-- What verification of a root says of the walk.
use Rattle.std.specs.Prelude.{◌≡◌, ℕ, ◌+◌, ◌==◌, List, Some, None, not, Result, Ok, Err}
use Rattle.std.proofs.Common.{refl, ap, sym, ◌∙◌, subst}
use Rattle.std.proofs.lemmas.Bool.{eqb-true}
use Rattle.tough_keys.specs.Same.{Verifies}
use Rattle.tough_roles.specs.Signature.{SignedDoc}
use Rattle.tough_roles.specs.Root.{RootDoc, root_json}
use Rattle.tough_roles.specs.Chain.{ReachesUnder, IsNext}
use Rattle.tough_roles.specs.declared.role_type.RoleType.TheVariants as role
use Rattle.tough_roles.proofs.lemmas.Reached.{ok-reaches}
use Rattle.tough_checks.specs.Checks.{or_else, refuse, verified, OlderMetadata}
use Rattle.tough_checks.specs.Documents.{root_in, root_verdict}
use Rattle.tough_roles.specs.Verdict.{Refused}
use Rattle.tough_trust.specs.Failure.{ParseTrustedMetadata, ParseMetadata}
use Rattle.tough_trust.specs.Outcomes.{holds_json, unrefused}
use Rattle.tough_trust.specs.Walk.{if_trusted, first_root, root_refusal, next_root}
use Rattle.tough_trust.proofs.lemmas.Passing.{or_first, or_second, not_refused, is_verified, if_read-ok, unrefused-ok}

-- a verdict of Ok: the root's threshold is reached
pub under : (verifies : Verifies) (holder : RootDoc) (d : SignedDoc RootDoc) → root_verdict verifies holder d ≡ Ok (tt {0}) → ReachesUnder verifies holder role.Root root_json d
under verifies holder d h = ok-reaches verifies holder role.Root root_json d (Ok (tt {0})) h

-- a root that both verify, and whose version is one more, is next
pub follows : (verifies : Verifies) (old : RootDoc) (before d : SignedDoc RootDoc) → before.role ≡ old → root_verdict verifies old d ≡ Ok (tt {0}) → root_verdict verifies d.role d ≡ Ok (tt {0})
    → d.role.head.version ≡ old.head.version + 1 → IsNext verifies before d
follows verifies old before d is v w n = record {
  before = subst (λ (r : RootDoc). ReachesUnder verifies r role.Root root_json d) (sym is) (under verifies old d v);
  itself = under verifies d.role d w;
  version = n ∙ ap (λ (r : RootDoc). r.head.version + 1) (sym is);
}

-- a root that passed its checks is next
pub root-next : (verifies : Verifies) (old : RootDoc) (before d : SignedDoc RootDoc) → before.role ≡ old → root_refusal verifies old d ≡ None → IsNext verifies before d
root-next verifies old before d is h =
    let older = OlderMetadata role.Root old.head.version d.role.head.version in
    let version = refuse (not (d.role.head.version == old.head.version + 1)) older in
    let own = verified role.Root (root_verdict verifies d.role d) in
    let later = or_second (verified role.Root (root_verdict verifies old d)) (or_else own (or_else version None)) h in
    follows verifies old before d is
    (is_verified role.Root (root_verdict verifies old d) (or_first _ _ h))
    (is_verified role.Root (root_verdict verifies d.role d) (or_first _ _ later))
    (eqb-true _ _ (not_refused (d.role.head.version == old.head.version + 1) older (or_first _ _ (or_second own (or_else version None) later))))

-- the root that was read after another, and passed
pub next-fine : (verifies : Verifies) (old : SignedDoc RootDoc) (bytes : List ℕ) (root : SignedDoc RootDoc) → next_root verifies old.role bytes ≡ Ok root → IsNext verifies old root
next-fine verifies old bytes root h =
    let r = if_read-ok (ParseMetadata role.Root (holds_json bytes)) (root_in bytes) (λ d. unrefused (root_refusal verifies old.role d) d) root h in
    let p = unrefused-ok (root_refusal verifies old.role r.0) r.0 root r.2 in
    subst (λ (x : SignedDoc RootDoc). IsNext verifies old x) p.1 (root-next verifies old.role old r.0 refl p.0)

trusted-ok : (v : Result Unit Refused) (d root : SignedDoc RootDoc) → if_trusted v d ≡ Ok root → (v ≡ Ok (tt {0})) × (d ≡ root)
trusted-ok (Ok u) d root h = (refl, cc)
trusted-ok (Err r) d root h = cc

-- the root that was handed in was read, and reaches its own threshold
pub first-passed : (verifies : Verifies) (bytes : List ℕ) (root : SignedDoc RootDoc) → first_root verifies bytes ≡ Ok root → (root_in bytes ≡ Some root) × ReachesUnder verifies root.role role.Root root_json root
first-passed verifies bytes root h =
    let r = if_read-ok (ParseTrustedMetadata (holds_json bytes)) (root_in bytes) (λ d. if_trusted (root_verdict verifies d.role d) d) root h in
    let v = trusted-ok (root_verdict verifies r.0.role r.0) r.0 root r.2 in
    (r.1 ∙ ap Some v.1, subst (λ (x : SignedDoc RootDoc). ReachesUnder verifies x.role role.Root root_json x) v.1 (under verifies r.0.role r.0 v.0))
