-- Roots that give timestamp and snapshot one policy have the same keys for them.
use Rattle.std.proofs.Common.{◌≡◌, ℕ, ℤ, List, [], ◌∷◌, map, Option, None, Some, option_map, Bool, true, false, not, ◌&&◌, ◌||◌, nat_eq, refl, sym, ap, ◌∙◌, arith}
use Rattle.std.proofs.lemmas.Bool.Decides.{nat_tests}
use Rattle.std.proofs.lemmas.Slice.Eq.{bytes_eq-Decides}
use Rattle.std.specs.BTreeMap.{is_at}
use Rattle.std.specs.Bool.{beq}
use Rattle.std.specs.Cmp.{signed_Decides}
use Rattle.std.specs.Map.{lookup}
use Rattle.std.specs.Ordering.{int_eq}
use Rattle.std.specs.Str.{bytes_eq}
use Rattle.serde_json.specs.Data.{Num, unsigned, negative, float, Data, null, boolean, number, string, array, object, Items, no_items, item, Members, no_members, member}
use Rattle.tough_decoded.specs.Spelled.{Spelled}
use Rattle.tough_keys.specs.declared.kind.Kind.{Kind}
use Rattle.tough_keys.specs.declared.kind.Kind.TheVariants as kinds
use Rattle.tough_keys.specs.Key.{KeyDoc}
use Rattle.tough_keys.specs.Same.{without_float, blurred, blurred_items, blurred_members, KeyData, data_of}
use Rattle.tough_keys.specs.Equal.{same_number, same, same_items, same_members, same_kind, same_doc}
use Rattle.tough_roles.specs.Keyring.{ahead_of, keys_along}
use Rattle.tough_roles.specs.Policy.{Policy, pair_of, policy_of, policy}
use Rattle.tough_roles.specs.Roles.{role_cmp}
use Rattle.tough_roles.specs.Root.{RootDoc, RoleKeysDoc, key_under}
use Rattle.tough_roles.specs.declared.role_type.RoleType.{RoleType}
use Rattle.tough_roles.specs.declared.role_type.RoleType.TheVariants as role
use Rattle.tough_checks.specs.Rotation.{ids_of, keys_in, same_keys, is_rotated_role, is_rotated}

both : (a b : Bool) → a ≡ true → b ≡ true → a && b ≡ true
both true b h k = k
both false b h k = h

self_bool : (b : Bool) → beq b b ≡ true
self_bool true = refl
self_bool false = refl

nat_same : (n m : ℕ) → n ≡ m → nat_eq n m ≡ true
nat_same n m h = grind (arith, nat_tests)

int_same : (n m : ℤ) → n ≡ m → int_eq n m ≡ true
int_same n m h = (signed_Decides n m).1 h

the_bool : (b c : Bool) → boolean b ≡ boolean c → b ≡ c
the_bool b c h = cc (h)

from_number : (a b : Num) → without_float a ≡ without_float b → same_number a b ≡ true
from_number (unsigned n) (unsigned m) h = nat_same n m (cc (h))
from_number (unsigned n) (negative m) h = absurd (cc (h))
from_number (unsigned n) (float m) h = absurd (cc (h))
from_number (negative n) (unsigned m) h = absurd (cc (h))
from_number (negative n) (negative m) h = int_same n m (cc (h))
from_number (negative n) (float m) h = absurd (cc (h))
from_number (float n) (unsigned m) h = absurd (cc (h))
from_number (float n) (negative m) h = absurd (cc (h))
from_number (float n) (float m) h = refl

mutual
  from : (a b : Data) → blurred a ≡ blurred b → same a b ≡ true
  from null null h = refl
  from null (boolean c) h = absurd (cc (h))
  from null (number m) h = absurd (cc (h))
  from null (string t) h = absurd (cc (h))
  from null (array ys) h = absurd (cc (h))
  from null (object ns) h = absurd (cc (h))
  from (boolean b) null h = absurd (cc (h))
  from (boolean b) (boolean c) h = ap (beq b) (sym (the_bool b c h)) ∙ self_bool b
  from (boolean b) (number m) h = absurd (cc (h))
  from (boolean b) (string t) h = absurd (cc (h))
  from (boolean b) (array ys) h = absurd (cc (h))
  from (boolean b) (object ns) h = absurd (cc (h))
  from (number n) null h = absurd (cc (h))
  from (number n) (boolean c) h = absurd (cc (h))
  from (number n) (number m) h = from_number n m (cc (h))
  from (number n) (string t) h = absurd (cc (h))
  from (number n) (array ys) h = absurd (cc (h))
  from (number n) (object ns) h = absurd (cc (h))
  from (string s) null h = absurd (cc (h))
  from (string s) (boolean c) h = absurd (cc (h))
  from (string s) (number m) h = absurd (cc (h))
  from (string s) (string t) h = (bytes_eq-Decides s t).1 (cc (h))
  from (string s) (array ys) h = absurd (cc (h))
  from (string s) (object ns) h = absurd (cc (h))
  from (array xs) null h = absurd (cc (h))
  from (array xs) (boolean c) h = absurd (cc (h))
  from (array xs) (number m) h = absurd (cc (h))
  from (array xs) (string t) h = absurd (cc (h))
  from (array xs) (array ys) h = from_items xs ys (cc (h))
  from (array xs) (object ns) h = absurd (cc (h))
  from (object ms) null h = absurd (cc (h))
  from (object ms) (boolean c) h = absurd (cc (h))
  from (object ms) (number m) h = absurd (cc (h))
  from (object ms) (string t) h = absurd (cc (h))
  from (object ms) (array ys) h = absurd (cc (h))
  from (object ms) (object ns) h = from_members ms ns (cc (h))

  from_items : (a b : Items) → blurred_items a ≡ blurred_items b → same_items a b ≡ true
  from_items no_items no_items h = refl
  from_items no_items (item e es) h = absurd (cc (h))
  from_items (item d ds) no_items h = absurd (cc (h))
  from_items (item d ds) (item e es) h = both _ _ (from d e (cc (h))) (from_items ds es (cc (h)))

  from_members : (a b : Members) → blurred_members a ≡ blurred_members b → same_members a b ≡ true
  from_members no_members no_members h = refl
  from_members no_members (member l e ns) h = absurd (cc (h))
  from_members (member k d ms) no_members h = absurd (cc (h))
  from_members (member k d ms) (member l e ns) h = both _ _ ((bytes_eq-Decides k l).1 (cc (h))) (both _ _ (from d e (cc (h))) (from_members ms ns (cc (h))))

self_kind : (k : Kind) → same_kind k k ≡ true
self_kind kinds.Rsa = refl
self_kind kinds.Ed25519 = refl
self_kind kinds.Ecdsa = refl
self_kind kinds.EcdsaOld = refl

same_key : (a b : KeyDoc) → data_of a ≡ data_of b → same_doc a b ≡ true
same_key a b h =
    both (same_kind a.kind b.kind) _ (ap (same_kind a.kind) (sym (ap (λ (d : KeyData). d.kind) h)) ∙ self_kind a.kind)
    (both (bytes_eq a.public.bytes b.public.bytes) _ ((bytes_eq-Decides a.public.bytes b.public.bytes).1 (ap (λ (d : KeyData). d.public) h))
    (both (same_members a.keyval_extra b.keyval_extra) _ (from_members a.keyval_extra b.keyval_extra (ap (λ (d : KeyData). d.keyval_extra) h)) (from_members a.extra b.extra (ap (λ (d : KeyData). d.extra) h))))

ahead : (o p : Option KeyDoc) (xs ys : List KeyDoc) → option_map data_of o ≡ option_map data_of p → same_keys xs ys ≡ true → same_keys (ahead_of o xs) (ahead_of p ys) ≡ true
ahead None None xs ys e h = refl
ahead None (Some b) xs ys e h = absurd (cc (e))
ahead (Some a) None xs ys e h = absurd (cc (e))
ahead (Some a) (Some b) xs ys e h = both (same_doc a b) (same_keys xs ys) (same_key a b (cc (e))) h

keys_same : (ks js : List (Spelled × KeyDoc)) (ids jds : List Spelled) → map (pair_of ks) ids ≡ map (pair_of js) jds → same_keys (keys_along ks ids) (keys_along js jds) ≡ true
keys_same ks js [] [] e = refl
keys_same ks js [] (j ∷ jds) e = absurd (cc (e))
keys_same ks js (i ∷ ids) [] e = absurd (cc (e))
keys_same ks js (i ∷ ids) (j ∷ jds) e =
    let first : pair_of ks i ≡ pair_of js j = cc (e) in
    let rest : map (pair_of ks) ids ≡ map (pair_of js) jds = cc (e) in
    ahead (key_under ks i) (key_under js j) (keys_along ks ids) (keys_along js jds) (ap (λ (p : List ℕ × Option KeyData). p.1) first) (keys_same ks js ids jds rest)

lists_same : (ks js : List (Spelled × KeyDoc)) (o p : Option RoleKeysDoc) → option_map (policy_of ks) o ≡ option_map (policy_of js) p → same_keys (keys_along ks (ids_of o)) (keys_along js (ids_of p)) ≡ true
lists_same ks js None None e = refl
lists_same ks js None (Some r) e = absurd (cc (e))
lists_same ks js (Some r) None e = absurd (cc (e))
lists_same ks js (Some r) (Some s) e =
    let same : policy_of ks r ≡ policy_of js s = cc (e) in
    keys_same ks js r.keyids s.keyids (ap (λ (p : Policy). p.keys) same)

unrotated_role : (old new : RootDoc) (type : RoleType) → policy old type ≡ policy new type → is_rotated_role old new type ≡ false
unrotated_role old new type e = ap not (lists_same old.keys new.keys (lookup (is_at (role_cmp type)) old.roles) (lookup (is_at (role_cmp type)) new.roles) e)

pub unrotated : (old new : RootDoc) → policy old role.Timestamp ≡ policy new role.Timestamp → policy old role.Snapshot ≡ policy new role.Snapshot → is_rotated old new ≡ false
unrotated old new t s =
    ap (λ b. b || is_rotated_role old new role.Snapshot) (unrotated_role old new role.Timestamp t) ∙ unrotated_role old new role.Snapshot s
