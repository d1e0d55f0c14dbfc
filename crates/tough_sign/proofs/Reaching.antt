-- Signatures that are made reach the threshold.
use Rattle.std.proofs.Common.{◌≡◌, ℕ, suc, ◌≤◌, List, [], ◌∷◌, map, length, Bool, true, false, ◌&&◌, ◌||◌, cond, Option, Some, None, option_map, ◌⊎◌, inl, inr, refl, sym, ap, ◌∙◌, subst}
use Rattle.std.proofs.lemmas.Bool.{false≢true, and_parts}
use Rattle.std.proofs.lemmas.Slice.Eq.{bytes_eq-Decides}
use Rattle.std.proofs.lemmas.Map.Text.{is_eq-slice_cmp}
use Rattle.std.proofs.lemmas.Cmp.{nat_list_cmp_total}
use Rattle.std.specs.Ordering.{nat_cmp, is_eq, ordering_reverse}
use Rattle.std.specs.declared.cmp.Ordering.TheVariants.{Less}
use Rattle.std.specs.Cmp.Lexicographic.{slice_cmp}
use Rattle.std.specs.List.{filter_map, cons_option, AllByRecursion, IsDistinct}
use Rattle.std.specs.List.Sorted.{IsStrictlySortedBy}
use Rattle.std.specs.Map.{keys_of}
use Rattle.std.specs.Str.{bytes_eq}
use Rattle.tough_decoded.specs.Spelled.{Spelled}
use Rattle.tough_keys.specs.Key.{KeyDoc}
use Rattle.tough_keys.specs.Same.{KeyData, data_of, Verifies}
use Rattle.tough_keys.specs.Equal.{same_doc}
use Rattle.tough_roles.specs.Signature.{SignatureDoc}
use Rattle.tough_roles.specs.Root.{RoleKeysDoc, by_bytes, key_under}
use Rattle.tough_roles.specs.Policy.{pair_of, policy_of}
use Rattle.tough_roles.specs.Reaches.{IsAmong, IsSigner, AreOnce, Reaches}
use Rattle.tough_keys.specs.Equals.{data_of-same}
use Rattle.tough_sign.specs.Making.{Known, is_listed, is_first, or_before, if_of, last_of, pick, chosen, AreMade, SignWell}

-- ---- lists

same_some : {X : Type 0} (x y : X) → Some x ≡ Some y → x ≡ y
same_some x y e = cc

or_among : (a b : Bool) → (a || b) ≡ true → (a ≡ true) ⊎ (b ≡ true)
or_among true b h = inl refl
or_among false b h = inr h

-- a listed identifier of the same bytes has the same policy
listed_is : (known : Known) (ids : List Spelled) (id : Spelled) (key : KeyDoc) → ((i : Spelled) → i.bytes ≡ id.bytes → key_under known i ≡ Some key) → is_listed ids id ≡ true → IsAmong (id.bytes, Some (data_of key)) (map (pair_of known) ids)
listed_is known [] id key under h = absurd (false≢true h)
listed_is known (i ∷ ids) id key under h = go (listed_is known ids id key under) (or_among (bytes_eq i.bytes id.bytes) (is_listed ids id) h)
  where
    go : (is_listed ids id ≡ true → IsAmong (id.bytes, Some (data_of key)) (map (pair_of known) ids)) → (bytes_eq i.bytes id.bytes ≡ true) ⊎ (is_listed ids id ≡ true) → IsAmong (id.bytes, Some (data_of key)) (map (pair_of known) (i ∷ ids))
    go ih (inl e) =
        let same : i.bytes ≡ id.bytes = (bytes_eq-Decides i.bytes id.bytes).0 e in
        let pair : pair_of known i ≡ (id.bytes, Some (data_of key)) = ap (λ o. (i.bytes, option_map data_of o)) (under i same) ∙ ap (λ (b : List ℕ). (b, Some (data_of key))) same in
        inl pair
    go ih (inr e) = inr (ih e)

among_all : {X : Type 0} (P : X → Type 0) (x : X) (xs : List X) → AllByRecursion P xs → IsAmong x xs → P x
among_all P x [] a h = absurd h
among_all P x (y ∷ ys) a (inl h) = subst P h a.0
among_all P x (y ∷ ys) a (inr h) = among_all P x ys a.1 h

among_keys : (e : Spelled × KeyDoc) (es : Known) → IsAmong e es → IsAmong e.0 (keys_of es)
among_keys e [] h = absurd h
among_keys e (f ∷ fs) (inl h) = inl (ap (λ (x : Spelled × KeyDoc). x.0) h)
among_keys e (f ∷ fs) (inr h) = inr (among_keys e fs h)

-- ---- keys

less_apart : (a b : List ℕ) → slice_cmp nat_cmp a b ≡ Less → bytes_eq a b ≡ false
less_apart a b h = sym (is_eq-slice_cmp a b) ∙ ap is_eq h

found_at : (k : Spelled) (f : Spelled × KeyDoc) (fs : Known) (b : Bool) → is_eq (slice_cmp nat_cmp k.bytes f.0.bytes) ≡ b → key_under (f ∷ fs) k ≡ cond b (Some f.1) (key_under fs k)
found_at k f fs b e = ap (λ t. cond t (Some f.1) (key_under fs k)) e

-- each key is found by any spelling of its identifier
found : (es : Known) (e : Spelled × KeyDoc) (i : Spelled) → IsStrictlySortedBy by_bytes (keys_of es) → IsAmong e es → i.bytes ≡ e.0.bytes → key_under es i ≡ Some e.1
unfolding IsStrictlySortedBy
found [] e i s h q = absurd h
found (f ∷ fs) e i s (inl h) q =
    let same : is_eq (slice_cmp nat_cmp i.bytes f.0.bytes) ≡ true = is_eq-slice_cmp i.bytes f.0.bytes ∙ (bytes_eq-Decides i.bytes f.0.bytes).1 (q ∙ sym (ap (λ (x : Spelled × KeyDoc). x.0.bytes) h)) in
    found_at i f fs true same ∙ ap (λ (x : Spelled × KeyDoc). Some x.1) h
found (f ∷ fs) e i s (inr h) q =
    let below : slice_cmp nat_cmp f.0.bytes e.0.bytes ≡ Less = among_all (λ y. by_bytes f.0 y ≡ Less) e.0 (keys_of fs) s.0 (among_keys e fs h) in
    let other : is_eq (slice_cmp nat_cmp i.bytes f.0.bytes) ≡ false = ap (λ (b : List ℕ). is_eq (slice_cmp nat_cmp b f.0.bytes)) q ∙ ap is_eq (nat_list_cmp_total.antisymm e.0.bytes f.0.bytes ∙ ap ordering_reverse below) in
    found_at i f fs false other ∙ found fs e i s.1 h q

-- ---- signers

module _ {S : Type 0} (v : Verifies) (key_of : S → KeyDoc) (signs : S → List ℕ → List ℕ → Type 0) where
  if_is : (key : KeyDoc) (y x : S) (b : Bool) → same_doc key (key_of y) ≡ b → cond b (Some y) None ≡ Some x → (y ≡ x) × (same_doc key (key_of x) ≡ true)
  if_is key y x true e h = let s = same_some y x h in (s, subst (λ (z : S). same_doc key (key_of z) ≡ true) s e)
  if_is key y x false e h = cc

  last_is : (key : KeyDoc) (xs : List S) (x : S) → last_of key_of key xs ≡ Some x → IsAmong x xs × (same_doc key (key_of x) ≡ true)
  last_is key [] x e = cc
  last_is key (y ∷ ys) x e = go (last_is key ys x) (last_of key_of key ys) refl e
    where
      go : (last_of key_of key ys ≡ Some x → IsAmong x ys × (same_doc key (key_of x) ≡ true)) → (o : Option S) → last_of key_of key ys ≡ o → or_before o (if_of key_of key y) ≡ Some x → IsAmong x (y ∷ ys) × (same_doc key (key_of x) ≡ true)
      go ih None q h = let i = if_is key y x (same_doc key (key_of y)) refl h in (inl i.0, i.1)
      go ih (Some z) q h = let i = ih (q ∙ h) in (inr i.0, i.1)

  pick_is : (known : Known) (ids : List Spelled) (signers : List S) (e : Spelled × KeyDoc) (c : Spelled × S) → pick key_of known ids signers e ≡ Some c
      → (c.0 ≡ e.0) × (is_listed ids e.0 ≡ true) × (last_of key_of e.1 signers ≡ Some c.1)
  pick_is known ids signers e c h = go (is_listed ids e.0 && is_first known e.0 e.1) refl h
    where
      some_is : (o : Option S) → option_map (λ x. (e.0, x)) o ≡ Some c → (c.0 ≡ e.0) × (o ≡ Some c.1)
      some_is None h = cc
      some_is (Some x) h = let s = same_some (e.0, x) c h in (sym (ap (λ (p : Spelled × S). p.0) s), ap (λ (p : Spelled × S). Some p.1) s)

      go : (b : Bool) → (is_listed ids e.0 && is_first known e.0 e.1) ≡ b → cond b (option_map (λ x. (e.0, x)) (last_of key_of e.1 signers)) None ≡ Some c
          → (c.0 ≡ e.0) × (is_listed ids e.0 ≡ true) × (last_of key_of e.1 signers ≡ Some c.1)
      go true q h = let s = some_is (last_of key_of e.1 signers) h in (s.0, (and_parts _ _ q).0, s.1)
      go false q h = cc

  module _ (known : Known) (role : RoleKeysDoc) (signers : List S) (text : List ℕ) where
    -- a signature by a listed key, which verifies
    pub record Counts (s : SignatureDoc) : Type 0 where
      pub key : KeyData
      pub listed : IsAmong (s.keyid.bytes, Some key) (map (pair_of known) role.keyids)
      pub verified : v key text s.sig.bytes ≡ true

    counts : IsStrictlySortedBy by_bytes (keys_of known) → SignWell v key_of signs signers → (e : Spelled × KeyDoc) (c : Spelled × S) (s : SignatureDoc) → IsAmong e known
        → pick key_of known role.keyids signers e ≡ Some c → s.keyid ≡ c.0 → signs c.1 text s.sig.bytes → Counts s
    counts sorted well e c s there picked under signed =
        let p = pick_is known role.keyids signers e c picked in
        let l = last_is e.1 signers c.1 p.2 in
        let id : s.keyid ≡ e.0 = under ∙ p.0 in
        let listed : IsAmong (e.0.bytes, Some (data_of e.1)) (map (pair_of known) role.keyids) = listed_is known role.keyids e.0 e.1 (λ i q. found known e i sorted there q) p.1 in
        record {
          key = data_of e.1;
          listed = subst (λ (b : List ℕ). IsAmong (b, Some (data_of e.1)) (map (pair_of known) role.keyids)) (sym (ap (λ (x : Spelled). x.bytes) id)) listed;
          verified = ap (λ k. v k text s.sig.bytes) (data_of-same e.1 (key_of c.1) l.1) ∙ among_all (λ x. (m t : List ℕ) → signs x m t → v (data_of (key_of x)) m t ≡ true) c.1 signers well l.0 text s.sig.bytes signed;
        }

    module _ (sorted : IsStrictlySortedBy by_bytes (keys_of known)) (well : SignWell v key_of signs signers) where
      all_count : (es : Known) → ((e : Spelled × KeyDoc) → IsAmong e es → IsAmong e known) → (ss : List SignatureDoc) → AreMade signs text (filter_map (pick key_of known role.keyids signers) es) ss → AllByRecursion Counts ss
      all_count [] incl [] m = tt
      all_count [] incl (s ∷ ss) m = absurd m
      all_count (e ∷ es) incl ss m = go (λ ts n. all_count es (λ f h. incl f (inr h)) ts n) (pick key_of known role.keyids signers e) refl ss m
        where
          go : ((ts : List SignatureDoc) → AreMade signs text (filter_map (pick key_of known role.keyids signers) es) ts → AllByRecursion Counts ts) → (o : Option (Spelled × S)) → pick key_of known role.keyids signers e ≡ o → (ts : List SignatureDoc) → AreMade signs text (cons_option o (filter_map (pick key_of known role.keyids signers) es)) ts → AllByRecursion Counts ts
          go ih None q ts n = ih ts n
          go ih (Some c) q [] n = absurd n
          go ih (Some c) q (t ∷ ts) n = (counts sorted well e c t (incl e (inl refl)) q n.0 n.1, ih ts n.2)

    all_above : (k : Spelled) (es : Known) → AllByRecursion (λ y. by_bytes k y ≡ Less) (keys_of es) → (ss : List SignatureDoc) → AreMade signs text (filter_map (pick key_of known role.keyids signers) es) ss
        → AllByRecursion (λ s. by_bytes k s.keyid ≡ Less) ss
    all_above k [] a [] m = tt
    all_above k [] a (s ∷ ss) m = absurd m
    all_above k (e ∷ es) a ss m = go (λ ts n. all_above k es a.1 ts n) (pick key_of known role.keyids signers e) refl ss m
      where
        go : ((ts : List SignatureDoc) → AreMade signs text (filter_map (pick key_of known role.keyids signers) es) ts → AllByRecursion (λ s. by_bytes k s.keyid ≡ Less) ts) → (o : Option (Spelled × S)) → pick key_of known role.keyids signers e ≡ o → (ts : List SignatureDoc) → AreMade signs text (cons_option o (filter_map (pick key_of known role.keyids signers) es)) ts → AllByRecursion (λ s. by_bytes k s.keyid ≡ Less) ts
        go ih None q ts n = ih ts n
        go ih (Some c) q [] n = absurd n
        go ih (Some c) q (t ∷ ts) n = (ap (by_bytes k) (n.0 ∙ (pick_is known role.keyids signers e c q).0) ∙ a.0, ih ts n.2)

    -- the identifiers rise
    abbrev Rise : List SignatureDoc → Type 0
    Rise [] = Unit {0}
    Rise (s ∷ ss) = AllByRecursion (λ t. by_bytes s.keyid t.keyid ≡ Less) ss × Rise ss

    rise : (es : Known) → IsStrictlySortedBy by_bytes (keys_of es) → (ss : List SignatureDoc) → AreMade signs text (filter_map (pick key_of known role.keyids signers) es) ss → Rise ss
    unfolding IsStrictlySortedBy
    rise [] sorted [] m = tt
    rise [] sorted (s ∷ ss) m = absurd m
    rise (e ∷ es) sorted ss m = go (λ ts n. rise es sorted.1 ts n) (λ ts n. all_above e.0 es sorted.0 ts n) (pick key_of known role.keyids signers e) refl ss m
      where
        go : ((ts : List SignatureDoc) → AreMade signs text (filter_map (pick key_of known role.keyids signers) es) ts → Rise ts) → ((ts : List SignatureDoc) → AreMade signs text (filter_map (pick key_of known role.keyids signers) es) ts → AllByRecursion (λ u. by_bytes e.0 u.keyid ≡ Less) ts) → (o : Option (Spelled × S)) → pick key_of known role.keyids signers e ≡ o → (ts : List SignatureDoc) → AreMade signs text (cons_option o (filter_map (pick key_of known role.keyids signers) es)) ts → Rise ts
        go ih above None q ts n = ih ts n
        go ih above (Some c) q [] n = absurd n
        go ih above (Some c) q (t ∷ ts) n =
            let id : e.0 ≡ t.keyid = sym (n.0 ∙ (pick_is known role.keyids signers e c q).0) in
            (subst (λ (k : Spelled). AllByRecursion (λ u. by_bytes k u.keyid ≡ Less) ts) id (above ts n.2), ih ts n.2)

    all_apart : (s : SignatureDoc) (ss : List SignatureDoc) → AllByRecursion (λ t. by_bytes s.keyid t.keyid ≡ Less) ss → AllByRecursion (λ t. t.keyid.bytes ≡ s.keyid.bytes → ⊥) ss
    all_apart s [] a = tt
    all_apart s (t ∷ ts) a = (λ e. false≢true (sym (less_apart s.keyid.bytes t.keyid.bytes a.0) ∙ (ap (bytes_eq s.keyid.bytes) e ∙ (bytes_eq-Decides s.keyid.bytes s.keyid.bytes).1 refl)), all_apart s ts a.1)

    once : (ss : List SignatureDoc) → Rise ss → AreOnce ss
    once [] r = tt
    once (s ∷ ss) r = (all_apart s ss r.0, once ss r.1)

    abbrev ids_of : List SignatureDoc → List (List ℕ)
    ids_of ss = map (λ (s : SignatureDoc). s.keyid.bytes) ss

    all_other : (s : SignatureDoc) (ss : List SignatureDoc) → AllByRecursion (λ t. by_bytes s.keyid t.keyid ≡ Less) ss → AllByRecursion (λ y. bytes_eq s.keyid.bytes y ≡ false) (ids_of ss)
    all_other s [] a = tt
    all_other s (t ∷ ts) a = (less_apart s.keyid.bytes t.keyid.bytes a.0, all_other s ts a.1)

    distinct : (ss : List SignatureDoc) → Rise ss → IsDistinct bytes_eq (ids_of ss)
    unfolding IsDistinct
    distinct [] r = tt
    distinct (s ∷ ss) r = (all_other s ss r.0, distinct ss r.1)

    all_sign : (all ss : List SignatureDoc) → ((s : SignatureDoc) → IsAmong s ss → IsAmong s all) → AllByRecursion Counts ss → AllByRecursion (IsSigner v (policy_of known role) text all) (ids_of ss)
    all_sign all [] incl c = tt
    all_sign all (s ∷ ss) incl c =
        (record { key = c.0.key; listed = c.0.listed; signature = s; stands = incl s (inl refl); beside = refl; verified = c.0.verified }, all_sign all ss (λ t h. incl t (inr h)) c.1)

    length_ids : (cs : List (Spelled × S)) (ss : List SignatureDoc) → AreMade signs text cs ss → length (ids_of ss) ≡ length cs
    length_ids [] [] m = refl
    length_ids [] (s ∷ ss) m = absurd m
    length_ids (c ∷ cs) [] m = absurd m
    length_ids (c ∷ cs) (s ∷ ss) m = ap suc (length_ids cs ss m.2)

    pub reached : (ss : List SignatureDoc) → IsStrictlySortedBy by_bytes (keys_of known) → SignWell v key_of signs signers
        → AreMade signs text (chosen key_of known role.keyids signers) ss → role.threshold ≤ length (chosen key_of known role.keyids signers) → Reaches v (policy_of known role) text ss
    reached ss sorted well m enough =
        let r = rise known sorted ss m in
        record {
          once = once ss r;
          ids = ids_of ss;
          distinct = distinct ss r;
          signers = all_sign ss ss (λ s h. h) (all_count sorted well known (λ e h. h) ss m);
          enough = subst (λ n. role.threshold ≤ n) (sym (length_ids (chosen key_of known role.keyids signers) ss m)) enough;
        }
