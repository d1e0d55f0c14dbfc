-- Roots that follow one another (TUF specification 1.0, section 5.3).
use Rattle.std.specs.Prelude.{◌≡◌, ℕ, ◌+◌, List, Option, Some, option_and_then}
use Rattle.serde_json.specs.Data.{Data}
use Rattle.tough_json.specs.CanonicalText.{canonical_of}
use Rattle.tough_keys.specs.Same.{Verifies}
use Rattle.tough_roles.specs.Signature.{SignedDoc}
use Rattle.tough_roles.specs.Root.{RootDoc, root_json}
use Rattle.tough_roles.specs.Policy.{Policy, policy}
use Rattle.tough_roles.specs.Reaches.{Reaches}
use Rattle.tough_roles.specs.declared.role_type.RoleType.{RoleType}
use Rattle.tough_roles.specs.declared.role_type.RoleType.TheVariants as types

-- the canonical text of a role's JSON
abbrev pub text_by : {A : Type 0} → (A → Option Data) → A → Option (List ℕ)
text_by json a = option_and_then canonical_of (json a)

-- the document's role has a canonical text, and the signatures over it reach the threshold of that role in the root
pub record ReachesUnder {A : Type 0} (verifies : Verifies) (holder : RootDoc) (type : RoleType) (json : A → Option Data) (s : SignedDoc A) : Type 0 where
  pub asked : Policy
  pub there : policy holder type ≡ Some asked
  pub text : List ℕ
  pub canonical : text_by json s.role ≡ Some text
  pub reached : Reaches verifies asked text s.signatures

-- the next root reaches under the one before and under itself, and its version is one more
pub record IsNext (verifies : Verifies) (old next : SignedDoc RootDoc) : Type 0 where
  pub before : ReachesUnder verifies old.role types.Root root_json next
  pub itself : ReachesUnder verifies next.role types.Root root_json next
  pub version : next.role.head.version ≡ old.role.head.version + 1
