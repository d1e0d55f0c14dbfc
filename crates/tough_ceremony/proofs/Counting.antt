-- A tally counts the different keys that signed, as a client does.
use Rattle.std.proofs.Common.{◌≡◌, ℕ, List, [], ◌∷◌, map, filter, length, Bool, true, false, not, ◌&&◌, ◌||◌, cond, nat_le, if◌then◌else◌, Option, Some, option_map, Ok, Err, refl, sym, ap, ◌∙◌, subst}
use Rattle.std.specs.Prelude.{Decides}
use Rattle.std.proofs.lemmas.Bool.{and_parts, not-true}
use Rattle.std.proofs.lemmas.List.{length-map}
use Rattle.std.proofs.lemmas.Slice.Eq.{bytes_eq-Decides}
use Rattle.std.proofs.lemmas.Cmp.{nat_list_eq_equiv}
use Rattle.std.specs.List.{list_any}
use Rattle.std.specs.Set.{is_member, unique_keys}
use Rattle.std.specs.Str.{bytes_eq}
use Rattle.tough_decoded.specs.Spelled.{Spelled}
use Rattle.serde_json.specs.Data.{Data}
use Rattle.tough_keys.specs.Same.{KeyData, Verifies, data_of}
use Rattle.tough_roles.specs.Chain.{text_by, ReachesUnder}
use Rattle.tough_roles.specs.Counting.{key_of}
use Rattle.tough_roles.specs.Policy.{Policy, policy, policy_of, pair_of}
use Rattle.tough_roles.specs.Root.{RootDoc, RoleKeysDoc}
use Rattle.tough_roles.specs.Signature.{SignatureDoc, SignedDoc}
use Rattle.tough_roles.specs.Verdict.{Refused, MissingRole, SignatureThreshold, has_signed, signer_count, some_twice, counted, verdict}
use Rattle.tough_roles.specs.declared.role_type.RoleType.{RoleType}
use Rattle.tough_roles.specs.declared.role_type.RoleType.TheVariants as types
use Rattle.tough_roles.proofs.Counts.{list_any-map, any-filter}
use Rattle.tough_roles.proofs.lemmas.Reached.{reaches-from, reaches-to}
use Rattle.tough_sign.specs.Making.{Known, is_listed}
use Rattle.tough_ceremony.specs.Listing.{role_in}
use Rattle.tough_ceremony.specs.Tallying.{each_once, signed_by, signed_of, signed_in, threshold_in, is_reached, IsTallyOf}
use Rattle.tough_ceremony.specs.declared.tally.Tally.{Tally}

same_some : {X : Type 0} (x y : X) → Some x ≡ Some y → x ≡ y
same_some x y e = cc

any_same : {X : Type 0} (p q : X → Bool) (xs : List X) → ((x : X) → p x ≡ q x) → list_any p xs ≡ list_any q xs
any_same p q [] h = refl
any_same p q (x ∷ xs) h = ap (λ b. b || list_any p xs) (h x) ∙ ap (λ b. q x || b) (any_same p q xs h)

swap : (a b : List ℕ) → bytes_eq a b ≡ bytes_eq b a
swap a b = nat_list_eq_equiv.symm a b

module _ (v : Verifies) (known : Known) (text : List ℕ) (ss : List SignatureDoc) where
  abbrev pair_at : List ℕ → List ℕ × Option KeyData
  pair_at b = (b, option_map data_of (key_of known b))

  -- whether an identifier's key signed depends on its bytes alone
  pub same_signed : (i j : Spelled) → i.bytes ≡ j.bytes → signed_by v known text ss i ≡ signed_by v known text ss j
  same_signed i j e = ap (λ b. has_signed v text ss (pair_at b)) e

  abbrev all_signers : List Spelled → List (List ℕ)
  all_signers ids = map (λ k. k.0) (filter (has_signed v text ss) (map (pair_of known) ids))

  member_at : (id i : Spelled) (b : Bool) → bytes_eq id.bytes i.bytes ≡ b → signed_by v known text ss id ≡ true → (signed_by v known text ss i && b) ≡ b
  member_at id i true e h = ap (λ b. b && true) (sym (same_signed id i ((bytes_eq-Decides id.bytes i.bytes).0 e)) ∙ h)
  member_at id i false e h = none (signed_by v known text ss i)
    where
      none : (b : Bool) → (b && false) ≡ false
      none true = refl
      none false = refl

  -- one that signed is among the signers exactly where it is listed
  member_listed : (id : Spelled) (ids : List Spelled) → signed_by v known text ss id ≡ true → is_member bytes_eq (all_signers ids) id.bytes ≡ is_listed ids id
  member_listed id ids h =
      list_any-map (bytes_eq id.bytes) (λ (k : List ℕ × Option KeyData). k.0) (filter (has_signed v text ss) (map (pair_of known) ids))
      ∙ (any-filter (λ (k : List ℕ × Option KeyData). bytes_eq id.bytes k.0) (has_signed v text ss) (map (pair_of known) ids)
      ∙ (list_any-map (λ k. has_signed v text ss k && bytes_eq id.bytes k.0) (pair_of known) ids
      ∙ any_same (λ i. signed_by v known text ss i && bytes_eq id.bytes i.bytes) (λ i. bytes_eq i.bytes id.bytes) ids
      (λ i. member_at id i (bytes_eq id.bytes i.bytes) refl h ∙ swap id.bytes i.bytes)))

  abbrev as_bytes : List Spelled → List (List ℕ)
  as_bytes ids = map (λ i. i.bytes) ids

  once_at : (id : Spelled) (ids : List Spelled) (signed listed : Bool) → signed_by v known text ss id ≡ signed → is_listed ids id ≡ listed → as_bytes (filter (signed_by v known text ss) (each_once ids)) ≡ unique_keys bytes_eq (all_signers ids)
      → as_bytes (filter (signed_by v known text ss) (cond listed (each_once ids) (id ∷ each_once ids))) ≡ unique_keys bytes_eq (map (λ (k : List ℕ × Option KeyData). k.0) (cond signed (pair_of known id ∷ filter (has_signed v text ss) (map (pair_of known) ids)) (filter (has_signed v text ss) (map (pair_of known) ids))))
  once_at id ids true true s l later = let there = member_listed id ids s ∙ l in rw there later
  once_at id ids true false s l later = let new = member_listed id ids s ∙ l in rw (s, new) (ap (λ r. id.bytes ∷ r) later)
  once_at id ids false true s l later = later
  once_at id ids false false s l later = rw s later

  once_is : (ids : List Spelled) → as_bytes (filter (signed_by v known text ss) (each_once ids)) ≡ unique_keys bytes_eq (all_signers ids)
  once_is [] = refl
  once_is (id ∷ ids) = once_at id ids (signed_by v known text ss id) (is_listed ids id) refl refl (once_is ids)

  -- as many as a client counts
  pub signed_count : (asked : RoleKeysDoc) → length (signed_of v known text ss asked.keyids) ≡ signer_count v (policy_of known asked) text ss
  signed_count asked = sym (length-map (filter (signed_by v known text ss) (each_once asked.keyids)) (λ i. i.bytes)) ∙ ap length (once_is asked.keyids)

-- ---- the verdict

counts_at : (type : RoleType) (threshold count : ℕ) (t : Bool) → nat_le threshold count ≡ t → counted type threshold count ≡ Ok tt → t ≡ true
counts_at type threshold count true e h = refl
counts_at type threshold count false e h = let none = rw e at h in cc

fine_at : (v : Verifies) (absent : Refused) (type : RoleType) (p : Policy) (text : List ℕ) (ss : List SignatureDoc) (t : Bool) → some_twice ss ≡ t → verdict v absent type (Some p) (Some text) ss ≡ Ok tt
    → (not t && nat_le p.threshold (signer_count v p text ss)) ≡ true
unfolding verdict
fine_at v absent type p text ss true e h = let none = rw e at h in cc
fine_at v absent type p text ss false e h = let rest = rw e at h in counts_at type p.threshold (signer_count v p text ss) (nat_le p.threshold (signer_count v p text ss)) refl rest

fine_from : (v : Verifies) (absent : Refused) (type : RoleType) (p : Policy) (text : List ℕ) (ss : List SignatureDoc) → verdict v absent type (Some p) (Some text) ss ≡ Ok tt → (not (some_twice ss) && nat_le p.threshold (signer_count v p text ss)) ≡ true
fine_from v absent type p text ss h = fine_at v absent type p text ss (some_twice ss) refl h

fine_to : (v : Verifies) (absent : Refused) (type : RoleType) (p : Policy) (text : List ℕ) (ss : List SignatureDoc) → (not (some_twice ss) && nat_le p.threshold (signer_count v p text ss)) ≡ true → verdict v absent type (Some p) (Some text) ss ≡ Ok tt
unfolding verdict
fine_to v absent type p text ss h =
    let both = and_parts (not (some_twice ss)) (nat_le p.threshold (signer_count v p text ss)) h in
    rw (not-true (some_twice ss) both.0) (ap (λ b. if b then Ok tt else Err (SignatureThreshold type p.threshold (signer_count v p text ss))) both.1)

policy_is : (by : RootDoc) (asked : RoleKeysDoc) → role_in types.Root by ≡ Some asked → policy by types.Root ≡ Some (policy_of by.keys asked)
policy_is by asked h = ap (option_map (policy_of by.keys)) h

-- what a tally answers, by what it was made of
pub reached_by : (v : Verifies) (known : Known) (asked : RoleKeysDoc) (text : List ℕ) (ss : List SignatureDoc) (t : Tally) → IsTallyOf v known asked text ss t
    → is_reached t ≡ (not (some_twice ss) && nat_le asked.threshold (length (signed_of v known text ss asked.keyids)))
reached_by v known asked text ss t h =
    ap (λ b. b && nat_le (threshold_in t) (length (signed_in t))) h.once
    ∙ (ap (λ n. not (some_twice ss) && nat_le n (length (signed_in t))) h.threshold ∙ ap (λ (l : List Spelled). not (some_twice ss) && nat_le asked.threshold (length l)) h.signed)

-- what a tally counts as reached is what a client accepts
pub reached_is : {A : Type 0} (v : Verifies) (by : RootDoc) (json : A → Option Data) (s : SignedDoc A) (asked : RoleKeysDoc) (text : List ℕ) (b : Bool) → role_in types.Root by ≡ Some asked → text_by json s.role ≡ Some text
    → b ≡ (not (some_twice s.signatures) && nat_le asked.threshold (length (signed_of v by.keys text s.signatures asked.keyids))) → Decides b (ReachesUnder v by types.Root json s)
reached_is v by json s asked text b there canonical is =
    let p : Policy = policy_of by.keys asked in
    let absent : Refused = MissingRole types.Root in
    let count : b ≡ (not (some_twice s.signatures) && nat_le p.threshold (signer_count v p text s.signatures)) = is ∙ ap (λ n. not (some_twice s.signatures) && nat_le asked.threshold n) (signed_count v by.keys text s.signatures asked) in (
      λ h. record {
        asked = p;
        there = policy_is by asked there;
        text = text;
        canonical = canonical;
        reached = reaches-from v absent types.Root p text s.signatures (fine_to v absent types.Root p text s.signatures (sym count ∙ h));
      },
      λ r.
          let same : r.asked ≡ p = same_some r.asked p (sym r.there ∙ policy_is by asked there) in
          let alike : r.text ≡ text = same_some r.text text (sym r.canonical ∙ canonical) in
          count ∙ fine_from v absent types.Root p text s.signatures
          (subst (λ t. verdict v absent types.Root (Some p) (Some t) s.signatures ≡ Ok tt) alike (subst (λ q. verdict v absent types.Root (Some q) (Some r.text) s.signatures ≡ Ok tt) same (reaches-to v absent types.Root r.asked r.text s.signatures r.reached))),
    )
