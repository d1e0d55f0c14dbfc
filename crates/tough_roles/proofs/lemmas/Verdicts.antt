-- The verdict, case by case.
use Rattle.std.proofs.Common.{◌≡◌, ℕ, List, [], ◌∷◌, count_by, Option, Some, None, option_map, Err, true, false, cond, Ordering, Less, Equal, Greater, is_eq, refl, sym, ap, ◌∙◌}
use Rattle.std.specs.BTreeMap.{is_at}
use Rattle.std.specs.Map.{lookup}
use Rattle.tough_decoded.specs.Spelled.{Spelled}
use Rattle.tough_keys.specs.Key.{KeyDoc}
use Rattle.tough_keys.specs.Same.{Verifies}
use Rattle.tough_roles.specs.declared.role_type.RoleType.{RoleType}
use Rattle.tough_roles.specs.declared.root.RoleKeys.{RoleKeys}
use Rattle.tough_roles.specs.Roles.{role_cmp}
use Rattle.tough_roles.specs.Root.{RoleKeysDoc, role_keys_doc, roles_doc}
use Rattle.tough_roles.specs.Signature.{SignatureDoc}
use Rattle.tough_roles.specs.Policy.{Policy, policy_of}
use Rattle.tough_roles.specs.Verdict.{Refused, JsonSerialization, DuplicateKeyId, again, counted, some_twice, verdict}
use Rattle.tough_roles.specs.Counting.{bytes_of, is_valid}
use Rattle.tough_roles.proofs.Counts.{count-signers}

get-at : (o : Ordering) (e : RoleType × RoleKeys) (rest : Option RoleKeys) (docs : Option RoleKeysDoc) → docs ≡ option_map role_keys_doc rest
    → (cond (is_eq o) (Some (role_keys_doc e.1)) docs) ≡ option_map role_keys_doc (cond (is_eq o) (Some e.1) rest)
get-at Less e rest docs h = h
get-at Equal e rest docs h = refl
get-at Greater e rest docs h = h

pub get-roles_doc : (es : List (RoleType × RoleKeys)) (role : RoleType) → lookup (is_at (role_cmp role)) (roles_doc es) ≡ option_map role_keys_doc (lookup (is_at (role_cmp role)) es)
get-roles_doc [] role = refl
get-roles_doc (e ∷ es) role = get-at (role_cmp role e.0) e (lookup (is_at (role_cmp role)) es) (lookup (is_at (role_cmp role)) (roles_doc es)) (get-roles_doc es role)

pub verdict-missing : (verifies : Verifies) (absent : Refused) (type : RoleType) (text : Option (List ℕ)) (ss : List SignatureDoc) → verdict verifies absent type None text ss ≡ Err absent
unfolding verdict
verdict-missing verifies absent type text ss = refl

pub verdict-bare : (verifies : Verifies) (absent : Refused) (type : RoleType) (p : Policy) (ss : List SignatureDoc) → verdict verifies absent type (Some p) None ss ≡ Err (JsonSerialization type)
unfolding verdict
verdict-bare verifies absent type p ss = refl

pub verdict-twice : (verifies : Verifies) (absent : Refused) (type : RoleType) (p : Policy) (text : List ℕ) (ss : List SignatureDoc) → some_twice ss ≡ true → verdict verifies absent type (Some p) (Some text) ss ≡ Err (DuplicateKeyId (again [] ss))
unfolding verdict
verdict-twice verifies absent type p text ss h = rw h refl

pub verdict-counted : (verifies : Verifies) (absent : Refused) (type : RoleType) (keys : List (Spelled × KeyDoc)) (r : RoleKeysDoc) (text : List ℕ) (ss : List SignatureDoc) (n : ℕ) → some_twice ss ≡ false → n ≡ count_by (is_valid verifies keys (bytes_of r.keyids) text) ss
    → verdict verifies absent type (Some (policy_of keys r)) (Some text) ss ≡ counted type r.threshold n
unfolding verdict
verdict-counted verifies absent type keys r text ss n h c = rw (h, ← count-signers verifies keys r text ss h, ← c) refl

-- the policy by what the map of the roles gives
pub policy-get : (es : List (RoleType × RoleKeys)) (keys : List (Spelled × KeyDoc)) (role asked : RoleType) (o : Option RoleKeys) → asked ≡ role → o ≡ lookup (is_at (role_cmp asked)) es
    → option_map (policy_of keys) (lookup (is_at (role_cmp role)) (roles_doc es)) ≡ option_map (policy_of keys) (option_map role_keys_doc o)
policy-get es keys role asked o same e =
    ap (option_map (policy_of keys)) (get-roles_doc es role ∙ ap (λ x. option_map role_keys_doc (lookup (is_at (role_cmp x)) es)) (sym same) ∙ ap (option_map role_keys_doc) (sym e))
