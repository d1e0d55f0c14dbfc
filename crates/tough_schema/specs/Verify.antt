-- What delegations ask of the signatures over a delegated role's document (TUF specification 1.0, sections 4.5 and
-- 5.6.3).
use Rattle.std.specs.Prelude.{◌≡◌, ℕ, List, [], ◌∷◌, Option, Some, None, option_map, if◌then◌else◌}
use Rattle.std.specs.Str.{bytes_eq}
use Rattle.serde_json.specs.Data.{Data, no_members}
use Rattle.tough_keys.specs.Same.{Verifies}
use Rattle.tough_roles.specs.Signature.{SignedDoc}
use Rattle.tough_roles.specs.Root.{RoleKeysDoc}
use Rattle.tough_roles.specs.Policy.{Policy, policy_of}
use Rattle.tough_roles.specs.Reaches.{Reaches}
use Rattle.tough_roles.specs.Chain.{text_by}
use Rattle.tough_schema.specs.Delegations.{DelegatedRoleDoc, DelegationsDoc}

-- the identifiers that the role lists, and how many of them must sign
abbrev pub role_keys : DelegatedRoleDoc → RoleKeysDoc
role_keys r = record { keyids = r.keyids; threshold = r.threshold; extra = no_members }

-- the first role of the name
abbrev pub role_named : List ℕ → List DelegatedRoleDoc → Option DelegatedRoleDoc
role_named name [] = None
role_named name (r ∷ rs) = if bytes_eq r.name name then Some r else role_named name rs

-- none where no role has the name
abbrev pub delegated_policy : DelegationsDoc → List ℕ → Option Policy
delegated_policy g name = option_map (λ r. policy_of g.keys (role_keys r)) (role_named name g.roles)

-- the document's role has a canonical text, and the signatures over it reach the threshold of the first role of the name
pub record ReachesDelegated {A : Type 0} (verifies : Verifies) (holder : DelegationsDoc) (name : List ℕ) (json : A → Option Data) (s : SignedDoc A) : Type 0 where
  pub asked : Policy
  pub there : delegated_policy holder name ≡ Some asked
  pub text : List ℕ
  pub canonical : text_by json s.role ≡ Some text
  pub reached : Reaches verifies asked text s.signatures
