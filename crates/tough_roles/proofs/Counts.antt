-- Counting signatures, where no identifier stands twice, counts the identifiers that have signed.
use Rattle.std.proofs.Common.{◌≡◌, ℕ, ◌+◌, ◌<◌, List, [], ◌∷◌, map, drop, drop-cons, add-one, get_or, length, filter, count_by, Bool, true, false, ◌&&◌, ◌||◌, cond, Option, Some, None, option_map, suc, refl, sym, ap, ◌∙◌}
use Rattle.std.proofs.lemmas.Cmp.{nat_list_eq_equiv}
use Rattle.std.proofs.lemmas.List.Sums.{length-filter}
use Rattle.std.proofs.lemmas.Map.Made.{length-from_keys}
use Rattle.std.proofs.lemmas.Slice.Eq.{bytes_eq-Decides}
use Rattle.std.specs.List.{list_any, IsDistinct, AllByRecursion}
use Rattle.std.specs.Set.{is_member}
use Rattle.std.specs.Str.{bytes_eq}
use Rattle.tough_decoded.specs.Spelled.{Spelled}
use Rattle.tough_keys.specs.Key.{KeyDoc}
use Rattle.tough_keys.specs.Same.{Verifies, KeyData, data_of}
use Rattle.tough_roles.specs.declared.signature.Signature.{Signature}
use Rattle.tough_roles.specs.Signature.{SignatureDoc, signature_doc}
use Rattle.tough_roles.specs.Root.{RoleKeysDoc, key_under}
use Rattle.tough_roles.specs.Policy.{policy_of, pair_of}
use Rattle.tough_roles.specs.Verdict.{has_signed, signers, signer_count, some_twice}
use Rattle.tough_roles.specs.Counting.{bytes_of, key_of, under, is_valid, is_signed}

pub list_any-map : {X Y : Type 0} (p : X → Bool) (h : Y → X) (ys : List Y) → list_any p (map h ys) ≡ list_any (λ y. p (h y)) ys
list_any-map p h [] = refl
list_any-map p h (y ∷ ys) = ap (λ b. p (h y) || b) (list_any-map p h ys)

filter-map : {X Y : Type 0} (p : X → Bool) (h : Y → X) (ys : List Y) → filter p (map h ys) ≡ map h (filter (λ y. p (h y)) ys)
filter-map p h [] = refl
filter-map p h (y ∷ ys) = elim (p (h y)) as (λ (b : Bool). cond b (h y ∷ filter p (map h ys)) (filter p (map h ys)) ≡ map h (cond b (y ∷ filter (λ z. p (h z)) ys) (filter (λ z. p (h z)) ys))) [ true ↦ ap (λ l. h y ∷ l) (filter-map p h ys) | false ↦ filter-map p h ys ]

length-map : {X Y : Type 0} (h : X → Y) (xs : List X) → length (map h xs) ≡ length xs
length-map h [] = refl
length-map h (x ∷ xs) = ap suc (length-map h xs)

pub count_by-map : {X Y : Type 0} (p : X → Bool) (h : Y → X) (ys : List Y) → count_by (λ y. p (h y)) ys ≡ count_by p (map h ys)
count_by-map p h ys = sym (length-filter (λ y. p (h y)) ys) ∙ sym (length-map h (filter (λ y. p (h y)) ys)) ∙ ap length (sym (filter-map p h ys)) ∙ length-filter p (map h ys)

pub some_twice-drop : (ss : List Signature) (i : ℕ) (s : Signature) → i < length ss → s ≡ get_or ss i s
    → some_twice (map signature_doc (drop i ss)) ≡ (list_any (λ t. bytes_eq t.keyid.bytes s.keyid.bytes) (drop (i + 1) ss) || some_twice (map signature_doc (drop (i + 1) ss)))
some_twice-drop ss i s h e = rw (drop-cons ss i s h, ← e, add-one) (ap (λ b. b || some_twice (map signature_doc (drop (suc i) ss))) (list_any-map (λ t. bytes_eq t.keyid.bytes s.keyid.bytes) signature_doc (drop (suc i) ss)))

-- ---- tests

same_test : {X : Type 0} (p q : X → Bool) (xs : List X) → ((x : X) → p x ≡ q x) → list_any p xs ≡ list_any q xs
same_test p q xs h = ap (λ (t : _ → Bool). list_any t xs) (λ i x. h x i)

pub any-filter : {X : Type 0} (p t : X → Bool) (xs : List X) → list_any p (filter t xs) ≡ list_any (λ x. t x && p x) xs
any-filter p t [] = refl
any-filter p t (x ∷ xs) = elim (t x) as (λ (b : Bool). list_any p (cond b (x ∷ filter t xs) (filter t xs)) ≡ ((b && p x) || list_any (λ y. t y && p y) xs)) [ true ↦ ap (λ b. p x || b) (any-filter p t xs) | false ↦ any-filter p t xs ]

any-and : {X : Type 0} (b : Bool) (p : X → Bool) (xs : List X) → list_any (λ x. b && p x) xs ≡ (b && list_any p xs)
any-and true p xs = refl
any-and false p [] = refl
any-and false p (x ∷ xs) = any-and false p xs

and_comm : (a b : Bool) → (a && b) ≡ (b && a)
and_comm true true = refl
and_comm true false = refl
and_comm false true = refl
and_comm false false = refl

swap : (a b : List ℕ) → bytes_eq a b ≡ bytes_eq b a
swap a b = nat_list_eq_equiv.symm a b

-- ---- the two sets

and_true : (b : Bool) → (b && true) ≡ b
and_true true = refl
and_true false = refl

and_false : (b : Bool) → (b && false) ≡ false
and_false true = refl
and_false false = refl

counted : (verifies : Verifies) (keys : List (Spelled × KeyDoc)) (ids : List (List ℕ)) (text : List ℕ) (q : List ℕ) (s : SignatureDoc) (b : Bool) → bytes_eq q s.keyid.bytes ≡ b
    → (is_valid verifies keys ids text s && b) ≡ (is_member bytes_eq ids q && (b && under verifies text s.sig.bytes (key_of keys q)))
counted verifies keys ids text q s true e =
    let same : q ≡ s.keyid.bytes = (bytes_eq-Decides q s.keyid.bytes).0 e in
    and_true (is_valid verifies keys ids text s)
    ∙ ap (λ b. b && under verifies text s.sig.bytes (key_of keys s.keyid.bytes)) (same_test (λ id. bytes_eq id s.keyid.bytes) (bytes_eq s.keyid.bytes) ids (λ id. swap id s.keyid.bytes))
    ∙ ap (λ (k : List ℕ). is_member bytes_eq ids k && under verifies text s.sig.bytes (key_of keys k)) (sym same)
counted verifies keys ids text q s false e = and_false (is_valid verifies keys ids text s) ∙ sym (and_false (is_member bytes_eq ids q))

signed-at : (t : List ℕ → Bool) (q id : List ℕ) (b : Bool) → bytes_eq q id ≡ b → (t id && b) ≡ (t q && b)
signed-at t q id true e = ap (λ (k : List ℕ). t k && true) (sym ((bytes_eq-Decides q id).0 e))
signed-at t q id false e = and_false (t id) ∙ sym (and_false (t q))

members : (verifies : Verifies) (keys : List (Spelled × KeyDoc)) (ids : List (List ℕ)) (text : List ℕ) (signatures : List SignatureDoc) (q : List ℕ)
    → is_member bytes_eq (map (λ s. s.keyid.bytes) (filter (is_valid verifies keys ids text) signatures)) q ≡ is_member bytes_eq (filter (is_signed verifies keys text signatures) ids) q
members verifies keys ids text signatures q =
    let valid : SignatureDoc → Bool = is_valid verifies keys ids text in
    let signed : List ℕ → Bool = is_signed verifies keys text signatures in
    let listed : Bool = is_member bytes_eq ids q in
    list_any-map (bytes_eq q) (λ (s : SignatureDoc). s.keyid.bytes) (filter valid signatures)
    ∙ any-filter (λ s. bytes_eq q s.keyid.bytes) valid signatures
    ∙ same_test (λ s. valid s && bytes_eq q s.keyid.bytes) (λ s. listed && (bytes_eq q s.keyid.bytes && under verifies text s.sig.bytes (key_of keys q))) signatures (λ s. counted verifies keys ids text q s (bytes_eq q s.keyid.bytes) refl)
    ∙ any-and listed (λ s. bytes_eq q s.keyid.bytes && under verifies text s.sig.bytes (key_of keys q)) signatures
    ∙ ap (λ b. listed && b) (same_test (λ s. bytes_eq q s.keyid.bytes && under verifies text s.sig.bytes (key_of keys q)) (λ s. bytes_eq s.keyid.bytes q && under verifies text s.sig.bytes (key_of keys q)) signatures (λ s. ap (λ b. b && under verifies text s.sig.bytes (key_of keys q)) (swap q s.keyid.bytes)))
    ∙ and_comm listed (signed q)
    ∙ sym (any-and (signed q) (bytes_eq q) ids)
    ∙ sym (same_test (λ id. signed id && bytes_eq q id) (λ id. signed q && bytes_eq q id) ids (λ id. signed-at signed q id (bytes_eq q id) refl))
    ∙ sym (any-filter (bytes_eq q) signed ids)

pub or_false : (a b : Bool) → (a || b) ≡ false → (a ≡ false) × (b ≡ false)
or_false true b h = cc
or_false false b h = (refl, h)

apart_from : (k : List ℕ) (p : SignatureDoc → Bool) (ss : List SignatureDoc) → list_any (λ t. bytes_eq t.keyid.bytes k) ss ≡ false → AllByRecursion (λ y. bytes_eq k y ≡ false) (map (λ s. s.keyid.bytes) (filter p ss))
apart_from k p [] h = tt
apart_from k p (s ∷ ss) h =
    let both = or_false (bytes_eq s.keyid.bytes k) (list_any (λ t. bytes_eq t.keyid.bytes k) ss) h in
    elim (p s) as (λ (b : Bool). AllByRecursion (λ y. bytes_eq k y ≡ false) (map (λ (t : SignatureDoc). t.keyid.bytes) (cond b (s ∷ filter p ss) (filter p ss)))) [ true ↦ (swap k s.keyid.bytes ∙ both.0, apart_from k p ss both.1) | false ↦ apart_from k p ss both.1 ]

apart : (p : SignatureDoc → Bool) (ss : List SignatureDoc) → some_twice ss ≡ false → IsDistinct bytes_eq (map (λ s. s.keyid.bytes) (filter p ss))
unfolding IsDistinct
apart p [] h = tt
apart p (s ∷ ss) h =
    let both = or_false (list_any (λ t. bytes_eq t.keyid.bytes s.keyid.bytes) ss) (some_twice ss) h in
    elim (p s) as (λ (b : Bool). IsDistinct bytes_eq (map (λ (t : SignatureDoc). t.keyid.bytes) (cond b (s ∷ filter p ss) (filter p ss)))) [ true ↦ (apart_from s.keyid.bytes p ss both.0, apart p ss both.1) | false ↦ apart p ss both.1 ]

-- ---- the policy's identifiers

any_false : {X : Type 0} (t : X → Bool) (xs : List X) → list_any (λ x. t x && false) xs ≡ false
any_false t [] = refl
any_false t (x ∷ xs) = ap (λ b. b || list_any (λ y. t y && false) xs) (and_false (t x)) ∙ any_false t xs

signed-option : (verifies : Verifies) (text : List ℕ) (signatures : List SignatureDoc) (id : List ℕ) (o : Option KeyDoc)
    → has_signed verifies text signatures (id, option_map data_of o) ≡ list_any (λ s. bytes_eq s.keyid.bytes id && under verifies text s.sig.bytes o) signatures
signed-option verifies text signatures id None = sym (any_false (λ s. bytes_eq s.keyid.bytes id) signatures)
signed-option verifies text signatures id (Some k) = refl

signers-at : (verifies : Verifies) (keys : List (Spelled × KeyDoc)) (text : List ℕ) (signatures : List SignatureDoc) (id : Spelled) (a b : Bool) (xs : List (List ℕ × Option KeyData)) (ys : List (List ℕ)) → a ≡ b → map (λ k. k.0) xs ≡ ys
    → map (λ (k : List ℕ × Option KeyData). k.0) (cond a (pair_of keys id ∷ xs) xs) ≡ cond b (id.bytes ∷ ys) ys
signers-at verifies keys text signatures id true true xs ys e h = ap (λ l. id.bytes ∷ l) h
signers-at verifies keys text signatures id false false xs ys e h = h
signers-at verifies keys text signatures id true false xs ys e h = cc
signers-at verifies keys text signatures id false true xs ys e h = cc

signers-is : (verifies : Verifies) (keys : List (Spelled × KeyDoc)) (text : List ℕ) (signatures : List SignatureDoc) (ids : List Spelled)
    → map (λ (k : List ℕ × Option KeyData). k.0) (filter (has_signed verifies text signatures) (map (pair_of keys) ids)) ≡ filter (is_signed verifies keys text signatures) (bytes_of ids)
signers-is verifies keys text signatures [] = refl
signers-is verifies keys text signatures (id ∷ ids) =
    signers-at verifies keys text signatures id (has_signed verifies text signatures (pair_of keys id)) (is_signed verifies keys text signatures id.bytes)
    (filter (has_signed verifies text signatures) (map (pair_of keys) ids)) (filter (is_signed verifies keys text signatures) (bytes_of ids))
    (signed-option verifies text signatures id.bytes (key_under keys id)) (signers-is verifies keys text signatures ids)

pub count-signers : (verifies : Verifies) (keys : List (Spelled × KeyDoc)) (r : RoleKeysDoc) (text : List ℕ) (signatures : List SignatureDoc) → some_twice signatures ≡ false
    → count_by (is_valid verifies keys (bytes_of r.keyids) text) signatures ≡ signer_count verifies (policy_of keys r) text signatures
count-signers verifies keys r text signatures h =
    let ids = bytes_of r.keyids in
    sym (length-map (λ (s : SignatureDoc). s.keyid.bytes) (filter (is_valid verifies keys ids text) signatures) ∙ length-filter (is_valid verifies keys ids text) signatures)
    ∙ length-from_keys nat_list_eq_equiv (map (λ s. s.keyid.bytes) (filter (is_valid verifies keys ids text) signatures)) (signers verifies (policy_of keys r) text signatures) (apart (is_valid verifies keys ids text) signatures h)
    (λ q. members verifies keys ids text signatures q ∙ ap (λ xs. is_member bytes_eq xs q) (sym (signers-is verifies keys text signatures r.keyids)))
