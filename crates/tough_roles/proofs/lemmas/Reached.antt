-- The verdict is Ok exactly where the threshold is reached, as a set of identifiers.
use Rattle.std.proofs.Common.{◌≡◌, ◌≤◌, ℕ, List, [], ◌∷◌, length, filter, Bool, true, false, ◌&&◌, ◌||◌, cond, nat_le, if◌then◌else◌, Option, Some, None, Result, Ok, Err, IfOk, inl, inr, refl, sym, ap, subst, ◌∙◌, arith}
use Rattle.std.proofs.lemmas.Bool.{le-leb}
use Rattle.std.proofs.lemmas.Bool.Decides.{nat_tests}
use Rattle.std.proofs.lemmas.Cmp.{nat_list_eq_equiv}
use Rattle.std.proofs.lemmas.Map.Made.{length-le_from_is_member}
use Rattle.std.proofs.lemmas.Slice.Eq.{bytes_eq-Decides}
use Rattle.std.specs.List.{list_any, IsDistinct, AllByRecursion}
use Rattle.std.specs.Set.{is_member, unique_keys}
use Rattle.std.specs.Str.{bytes_eq}
use Rattle.tough_keys.specs.Same.{KeyData, Verifies}
use Rattle.serde_json.specs.Data.{Data}
use Rattle.tough_roles.specs.declared.error.Error.{Error}
use Rattle.tough_roles.specs.declared.error.Error.TheVariants as errors
use Rattle.tough_roles.specs.declared.role_type.RoleType.{RoleType}
use Rattle.tough_roles.specs.Signature.{SignatureDoc, SignedDoc}
use Rattle.tough_roles.specs.Root.{RootDoc}
use Rattle.tough_roles.specs.Chain.{text_by, ReachesUnder}
use Rattle.tough_roles.specs.Policy.{Policy, policy}
use Rattle.tough_roles.specs.Verdict.{Refused, MissingRole, SignatureThreshold, is_by, has_signed, signers, signer_count, some_twice, counted, verdict, Answers, IsRefusal, IsOkOrMemory}
use Rattle.tough_roles.specs.Reaches.{IsAmong, IsSigner, AreOnce, Reaches}
use Rattle.tough_roles.proofs.Counts.{list_any-map, any-filter, or_false}

-- ---- lists

and_parts : (a b : Bool) → (a && b) ≡ true → (a ≡ true) × (b ≡ true)
and_parts true b h = (refl, h)
and_parts false b h = cc

or_right : (a b : Bool) → b ≡ true → (a || b) ≡ true
or_right true b h = refl
or_right false b h = h

or_left : (a b : Bool) → a ≡ true → (a || b) ≡ true
or_left true b h = refl
or_left false b h = cc

any_at : {X : Type 0} (p : X → Bool) (x : X) (xs : List X) (t : Bool) → p x ≡ t → (p x || list_any p xs) ≡ true → (list_any p xs ≡ true → (y : X) × IsAmong y xs × (p y ≡ true)) → (y : X) × IsAmong y (x ∷ xs) × (p y ≡ true)
any_at p x xs true e h later = (x, inl refl, e)
any_at p x xs false e h later = let rest = rw e at h in let r = later rest in (r.0, inr r.1, r.2)

any_some : {X : Type 0} (p : X → Bool) (xs : List X) → list_any p xs ≡ true → (y : X) × IsAmong y xs × (p y ≡ true)
any_some p [] h = cc
any_some p (x ∷ xs) h = any_at p x xs (p x) refl h (any_some p xs)

some_any : {X : Type 0} (p : X → Bool) (xs : List X) (y : X) → IsAmong y xs → p y ≡ true → list_any p xs ≡ true
some_any p [] y h e = absurd h
some_any p (x ∷ xs) y (inl same) e = or_left (p x) (list_any p xs) (ap p same ∙ e)
some_any p (x ∷ xs) y (inr later) e = or_right (p x) (list_any p xs) (some_any p xs y later e)

eq_at : (a b : List ℕ) (t : Bool) → bytes_eq a b ≡ t → (a ≡ b → ⊥) → bytes_eq a b ≡ false
eq_at a b true e apart = absurd (apart ((bytes_eq-Decides a b).0 e))
eq_at a b false e apart = e

not_eq : (a b : List ℕ) → (a ≡ b → ⊥) → bytes_eq a b ≡ false
not_eq a b apart = eq_at a b (bytes_eq a b) refl apart

are_apart : (a b : List ℕ) → bytes_eq a b ≡ false → a ≡ b → ⊥
are_apart a b e same = let clash : true ≡ false = sym ((bytes_eq-Decides a b).1 same) ∙ e in cc

-- ---- each key once

member_at : (q x : List ℕ) (xs : List (List ℕ)) (t : Bool) → bytes_eq q x ≡ t → is_member bytes_eq xs x ≡ true → is_member bytes_eq xs q ≡ (bytes_eq q x || is_member bytes_eq xs q)
member_at q x xs true e h = ap (is_member bytes_eq xs) ((bytes_eq-Decides q x).0 e) ∙ h ∙ sym (or_left (bytes_eq q x) (is_member bytes_eq xs q) e)
member_at q x xs false e h = rw e refl

unique_at : (q x : List ℕ) (xs : List (List ℕ)) (t : Bool) → is_member bytes_eq xs x ≡ t → is_member bytes_eq (unique_keys bytes_eq xs) q ≡ is_member bytes_eq xs q
    → is_member bytes_eq (cond t (unique_keys bytes_eq xs) (x ∷ unique_keys bytes_eq xs)) q ≡ (bytes_eq q x || is_member bytes_eq xs q)
unique_at q x xs true e later = later ∙ member_at q x xs (bytes_eq q x) refl e
unique_at q x xs false e later = ap (λ b. bytes_eq q x || b) later

unique-member : (q : List ℕ) (xs : List (List ℕ)) → is_member bytes_eq (unique_keys bytes_eq xs) q ≡ is_member bytes_eq xs q
unique-member q [] = refl
unique-member q (x ∷ xs) = unique_at q x xs (is_member bytes_eq xs x) refl (unique-member q xs)

all_apart : (x : List ℕ) (ys : List (List ℕ)) → is_member bytes_eq ys x ≡ false → AllByRecursion (λ y. bytes_eq x y ≡ false) ys
all_apart x [] h = tt
all_apart x (y ∷ ys) h = let both = or_false (bytes_eq x y) (is_member bytes_eq ys x) h in (both.0, all_apart x ys both.1)

distinct_at : (x : List ℕ) (xs : List (List ℕ)) (t : Bool) → is_member bytes_eq xs x ≡ t → IsDistinct bytes_eq (unique_keys bytes_eq xs) → IsDistinct bytes_eq (cond t (unique_keys bytes_eq xs) (x ∷ unique_keys bytes_eq xs))
unfolding IsDistinct
distinct_at x xs true e later = later
distinct_at x xs false e later = (all_apart x (unique_keys bytes_eq xs) (unique-member x xs ∙ e), later)

unique-distinct : (xs : List (List ℕ)) → IsDistinct bytes_eq (unique_keys bytes_eq xs)
unfolding IsDistinct
unique-distinct [] = tt
unique-distinct (x ∷ xs) = distinct_at x xs (is_member bytes_eq xs x) refl (unique-distinct xs)

-- what holds of each member holds of all
all_from : (P : List ℕ → Type 0) (xs : List (List ℕ)) → ((x : List ℕ) → is_member bytes_eq xs x ≡ true → P x) → AllByRecursion P xs
all_from P [] h = tt
all_from P (x ∷ xs) h =
    (h x (or_left (bytes_eq x x) (is_member bytes_eq xs x) ((bytes_eq-Decides x x).1 refl)), all_from P xs (λ y m. h y (or_right (bytes_eq y x) (is_member bytes_eq xs y) m)))

all_at : (P : List ℕ → Type 0) (x : List ℕ) (xs : List (List ℕ)) (q : List ℕ) (t : Bool) → bytes_eq q x ≡ t → P x → (is_member bytes_eq xs q ≡ true → P q) → (bytes_eq q x || is_member bytes_eq xs q) ≡ true → P q
all_at P x xs q true e first later m = subst P (sym ((bytes_eq-Decides q x).0 e)) first
all_at P x xs q false e first later m = let rest = rw e at m in later rest

all_member : (P : List ℕ → Type 0) (xs : List (List ℕ)) (q : List ℕ) → AllByRecursion P xs → is_member bytes_eq xs q ≡ true → P q
all_member P [] q h m = cc
all_member P (x ∷ xs) q h m = all_at P x xs q (bytes_eq q x) refl h.0 (all_member P xs q h.1) m

-- ---- the signatures

apart_all : (k : List ℕ) (ss : List SignatureDoc) → list_any (λ t. bytes_eq t.keyid.bytes k) ss ≡ false → AllByRecursion (λ t. t.keyid.bytes ≡ k → ⊥) ss
apart_all k [] h = tt
apart_all k (t ∷ ss) h =
    let both = or_false (bytes_eq t.keyid.bytes k) (list_any (λ t. bytes_eq t.keyid.bytes k) ss) h in
    (are_apart t.keyid.bytes k both.0, apart_all k ss both.1)

none_any : (k : List ℕ) (ss : List SignatureDoc) → AllByRecursion (λ t. t.keyid.bytes ≡ k → ⊥) ss → list_any (λ t. bytes_eq t.keyid.bytes k) ss ≡ false
none_any k [] h = refl
none_any k (t ∷ ss) h = ap (λ b. b || list_any (λ t. bytes_eq t.keyid.bytes k) ss) (not_eq t.keyid.bytes k h.0) ∙ none_any k ss h.1

once_from : (ss : List SignatureDoc) → some_twice ss ≡ false → AreOnce ss
once_from [] h = tt
once_from (s ∷ ss) h =
    let both = or_false (list_any (λ t. bytes_eq t.keyid.bytes s.keyid.bytes) ss) (some_twice ss) h in
    (apart_all s.keyid.bytes ss both.0, once_from ss both.1)

once_to : (ss : List SignatureDoc) → AreOnce ss → some_twice ss ≡ false
once_to [] h = refl
once_to (s ∷ ss) h = ap (λ b. b || some_twice ss) (none_any s.keyid.bytes ss h.0) ∙ once_to ss h.1

signer_at : (v : Verifies) (p : Policy) (text : List ℕ) (ss : List SignatureDoc) (id : List ℕ) (k : List ℕ × Option KeyData) (o : Option KeyData) → k.1 ≡ o → IsAmong k p.keys → has_signed v text ss (k.0, o) ≡ true → id ≡ k.0 → IsSigner v p text ss id
signer_at v p text ss id k None e among h same = cc
signer_at v p text ss id k (Some key) e among h same =
    let s = any_some (is_by v text k.0 key) ss h in
    let parts = and_parts (bytes_eq s.0.keyid.bytes k.0) (v key text s.0.sig.bytes) s.2 in
    let pair : k ≡ (id, Some key) = ap (λ o. (k.0, o)) e ∙ ap (λ i. (i, Some key)) (sym same) in
    record { key = key; listed = subst (λ x. IsAmong x p.keys) pair among; signature = s.0; stands = s.1; beside = (bytes_eq-Decides s.0.keyid.bytes k.0).0 parts.0 ∙ sym same; verified = parts.1 }

members-are : (v : Verifies) (p : Policy) (text : List ℕ) (ss : List SignatureDoc) (id : List ℕ) → is_member bytes_eq (signers v p text ss) id ≡ list_any (λ k. has_signed v text ss k && bytes_eq id k.0) p.keys
members-are v p text ss id =
    list_any-map (bytes_eq id) (λ (k : List ℕ × Option KeyData). k.0) (filter (has_signed v text ss) p.keys) ∙ any-filter (λ k. bytes_eq id k.0) (has_signed v text ss) p.keys

signer-from : (v : Verifies) (p : Policy) (text : List ℕ) (ss : List SignatureDoc) (id : List ℕ) → is_member bytes_eq (signers v p text ss) id ≡ true → IsSigner v p text ss id
signer-from v p text ss id m =
    let k = any_some (λ k. has_signed v text ss k && bytes_eq id k.0) p.keys (sym (members-are v p text ss id) ∙ m) in
    let parts = and_parts (has_signed v text ss k.0) (bytes_eq id k.0.0) k.2 in
    signer_at v p text ss id k.0 k.0.1 refl k.1 parts.0 ((bytes_eq-Decides id k.0.0).0 parts.1)

and_true : (a b : Bool) → a ≡ true → b ≡ true → (a && b) ≡ true
and_true true b e h = h
and_true false b e h = cc

signer-to : (v : Verifies) (p : Policy) (text : List ℕ) (ss : List SignatureDoc) (id : List ℕ) → IsSigner v p text ss id → is_member bytes_eq (signers v p text ss) id ≡ true
signer-to v p text ss id s =
    let signed : has_signed v text ss (id, Some s.key) ≡ true =
    some_any (is_by v text id s.key) ss s.signature s.stands (and_true (bytes_eq s.signature.keyid.bytes id) (v s.key text s.signature.sig.bytes) ((bytes_eq-Decides s.signature.keyid.bytes id).1 s.beside) s.verified) in
    members-are v p text ss id
    ∙ some_any (λ k. has_signed v text ss k && bytes_eq id k.0) p.keys (id, Some s.key) s.listed (and_true (has_signed v text ss (id, Some s.key)) (bytes_eq id id) signed ((bytes_eq-Decides id id).1 refl))

-- ---- the law

leb-le : (a b : ℕ) → nat_le a b ≡ true → a ≤ b
leb-le a b h = grind (arith, nat_tests, h)

ok_counted : (type : RoleType) (threshold count : ℕ) (t : Bool) → nat_le threshold count ≡ t → counted type threshold count ≡ Ok tt → t ≡ true
ok_counted type threshold count true e h = refl
ok_counted type threshold count false e h = let none = rw e at h in cc

ok_parts : (v : Verifies) (absent : Refused) (type : RoleType) (p : Policy) (text : List ℕ) (ss : List SignatureDoc) (t : Bool) → some_twice ss ≡ t → verdict v absent type (Some p) (Some text) ss ≡ Ok tt → (t ≡ false) × (counted type p.threshold (signer_count v p text ss) ≡ Ok tt)
unfolding verdict
ok_parts v absent type p text ss true e h = let none = rw e at h in cc
ok_parts v absent type p text ss false e h = (refl, rw e at h)

pub reaches-from : (v : Verifies) (absent : Refused) (type : RoleType) (p : Policy) (text : List ℕ) (ss : List SignatureDoc) → verdict v absent type (Some p) (Some text) ss ≡ Ok tt → Reaches v p text ss
reaches-from v absent type p text ss h =
    let parts = ok_parts v absent type p text ss (some_twice ss) refl h in
    let all = signers v p text ss in
    record {
      once = once_from ss parts.0;
      ids = unique_keys bytes_eq all;
      distinct = unique-distinct all;
      signers = all_from (IsSigner v p text ss) (unique_keys bytes_eq all) (λ id m. signer-from v p text ss id (sym (unique-member id all) ∙ m));
      enough = leb-le p.threshold (signer_count v p text ss) (ok_counted type p.threshold (signer_count v p text ss) (nat_le p.threshold (signer_count v p text ss)) refl parts.1);
    }

within : (a b c : ℕ) → a ≤ b → b ≤ c → a ≤ c
within a b c h k = omega (arith, h, k)

pub reaches-to : (v : Verifies) (absent : Refused) (type : RoleType) (p : Policy) (text : List ℕ) (ss : List SignatureDoc) → Reaches v p text ss → verdict v absent type (Some p) (Some text) ss ≡ Ok tt
unfolding verdict
reaches-to v absent type p text ss r =
    let all = signers v p text ss in
    let few : length r.ids ≤ signer_count v p text ss =
    length-le_from_is_member nat_list_eq_equiv r.ids (unique_keys bytes_eq all) r.distinct (λ q m. unique-member q all ∙ signer-to v p text ss q (all_member (IsSigner v p text ss) r.ids q r.signers m)) in
    rw (once_to ss r.once) (ap (λ b. if b then Ok tt else Err (SignatureThreshold type p.threshold (signer_count v p text ss))) (le-leb p.threshold (signer_count v p text ss) (within p.threshold (length r.ids) (signer_count v p text ss) r.enough few)))

-- ---- an answer

ok_at : {A : Type 0} (v : Verifies) (holder : RootDoc) (role : RoleType) (json : A → Option Data) (s : SignedDoc A) (p : Option Policy) (text : Option (List ℕ)) → policy holder role ≡ p → text_by json s.role ≡ text → verdict v (MissingRole role) role p text s.signatures ≡ Ok tt → ReachesUnder v holder role json s
unfolding verdict
ok_at v holder role json s None text e f h = cc
ok_at v holder role json s (Some p) None e f h = cc
ok_at v holder role json s (Some p) (Some t) e f h = record { asked = p; there = e; text = t; canonical = f; reached = reaches-from v (MissingRole role) role p t s.signatures h }

pub ok-reaches : {A : Type 0} (v : Verifies) (holder : RootDoc) (role : RoleType) (json : A → Option Data) (s : SignedDoc A) (result : Result Unit Error) → Answers result (verdict v (MissingRole role) role (policy holder role) (text_by json s.role) s.signatures) → IfOk result (λ u. ReachesUnder v holder role json s)
ok-reaches v holder role json s (Ok u) h = ok_at v holder role json s (policy holder role) (text_by json s.role) refl refl h
ok-reaches v holder role json s (Err e) h = tt

reached_ok : {A : Type 0} (v : Verifies) (holder : RootDoc) (role : RoleType) (json : A → Option Data) (s : SignedDoc A) → ReachesUnder v holder role json s → verdict v (MissingRole role) role (policy holder role) (text_by json s.role) s.signatures ≡ Ok tt
reached_ok v holder role json s r =
    ap (λ p. verdict v (MissingRole role) role p (text_by json s.role) s.signatures) r.there ∙ ap (λ t. verdict v (MissingRole role) role (Some r.asked) t s.signatures) r.canonical ∙ reaches-to v (MissingRole role) role r.asked r.text s.signatures r.reached

no_refusal : (e : Error) → IsRefusal e (Ok tt) → IsOkOrMemory (Err e)
no_refusal (errors.RoleNotFound name) h = cc
no_refusal (errors.MissingRole role) h = cc
no_refusal (errors.JsonSerialization role) h = cc
no_refusal (errors.DuplicateKeyId keyid) h = cc
no_refusal (errors.SignatureThreshold role threshold valid) h = cc
no_refusal errors.Memory h = tt
no_refusal _ h = absurd h

not_refused : (result : Result Unit Error) → Answers result (Ok tt) → IsOkOrMemory result
not_refused (Ok u) h = tt
not_refused (Err e) h = no_refusal e h

pub reaches-ok : {A : Type 0} (v : Verifies) (holder : RootDoc) (role : RoleType) (json : A → Option Data) (s : SignedDoc A) (result : Result Unit Error) → Answers result (verdict v (MissingRole role) role (policy holder role) (text_by json s.role) s.signatures) → ReachesUnder v holder role json s → IsOkOrMemory result
reaches-ok v holder role json s result h r = not_refused result (subst (Answers result) (reached_ok v holder role json s r) h)
