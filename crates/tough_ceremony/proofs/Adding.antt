-- What one more holder's signature adds to a tally.
use Rattle.std.proofs.Common.{◌≡◌, ℕ, ◌+◌, List, [], ◌∷◌, ◌++◌, map, filter, length, Bool, true, false, not, ◌&&◌, ◌||◌, cond, Option, Some, None, option_map, refl, sym, ap, ◌∙◌, subst, arith}
use Rattle.std.proofs.lemmas.Bool.{and_parts, or_parts, or_from}
use Rattle.std.proofs.lemmas.Slice.Eq.{bytes_eq-Decides}
use Rattle.std.proofs.lemmas.Cmp.{nat_list_eq_equiv}
use Rattle.std.specs.List.{list_any, AllByRecursion, IsDistinct}
use Rattle.std.specs.Str.{bytes_eq}
use Rattle.tough_decoded.specs.Spelled.{Spelled}
use Rattle.tough_keys.specs.Key.{KeyDoc}
use Rattle.tough_keys.specs.Same.{KeyData, Verifies, data_of}
use Rattle.tough_keys.specs.Equals.{data_of-same}
use Rattle.tough_roles.specs.Root.{RootDoc, RoleKeysDoc, key_under, root_json}
use Rattle.tough_roles.specs.Chain.{text_by}
use Rattle.tough_roles.specs.Signature.{SignatureDoc}
use Rattle.tough_roles.specs.Verdict.{is_by, has_signed, some_twice}
use Rattle.tough_roles.specs.declared.role_type.RoleType.TheVariants as types
use Rattle.tough_roles.proofs.Counts.{list_any-map, any-filter}
use Rattle.tough_sign.specs.Making.{Known, is_listed, SignWell}
use Rattle.tough_ceremony.specs.Listing.{role_in}
use Rattle.tough_ceremony.specs.Signing.{root_ids, listed_by, equals, is_of, lists_in, signature_under, others, signed_under, AreSignedBy, Agrees}
use Rattle.tough_ceremony.specs.Tallying.{each_once, signed_by, signed_of, waiting_of}
use Rattle.tough_ceremony.proofs.Noting.{same_listed}

-- ---- lists

any_append : {X : Type 0} (p : X → Bool) (xs ys : List X) → list_any p (xs ++ ys) ≡ (list_any p xs || list_any p ys)
any_append p [] ys = refl
any_append p (x ∷ xs) ys = ap (λ b. p x || b) (any_append p xs ys) ∙ sym (group (p x) (list_any p xs) (list_any p ys))
  where
    group : (a b c : Bool) → ((a || b) || c) ≡ (a || (b || c))
    group true b c = refl
    group false b c = refl

any_same : {X : Type 0} (p q : X → Bool) (xs : List X) → ((x : X) → p x ≡ q x) → list_any p xs ≡ list_any q xs
any_same p q [] h = refl
any_same p q (x ∷ xs) h = ap (λ b. b || list_any p xs) (h x) ∙ ap (λ b. q x || b) (any_same p q xs h)

any_and : {X : Type 0} (p : X → Bool) (b : Bool) (xs : List X) → list_any (λ x. p x && b) xs ≡ (list_any p xs && b)
any_and p b [] = refl
any_and p b (x ∷ xs) = ap (λ c. (p x && b) || c) (any_and p b xs) ∙ both (p x) (list_any p xs) b
  where
    both : (a c b : Bool) → ((a && b) || (c && b)) ≡ ((a || c) && b)
    both true true true = refl
    both true false true = refl
    both false c b = refl
    both true true false = refl
    both true false false = refl

swap : (a b : List ℕ) → bytes_eq a b ≡ bytes_eq b a
swap a b = nat_list_eq_equiv.symm a b

or_none : (a : Bool) → (a || false) ≡ a
or_none true = refl
or_none false = refl

or_all : (a : Bool) → (a || true) ≡ true
or_all true = refl
or_all false = refl

and_none : (a : Bool) → (a && false) ≡ false
and_none true = refl
and_none false = refl

-- ---- a key's signatures, before and after

module _ (v : Verifies) (text sig : List ℕ) (ids : List Spelled) (before : List SignatureDoc) where
  -- under an identifier that isn't the signer's, what stood there stands
  kept_at : (id : Spelled) (key : KeyData) (s : SignatureDoc) (b : Bool) → bytes_eq s.keyid.bytes id.bytes ≡ b → is_listed ids id ≡ false → (not (is_listed ids s.keyid) && (b && v key text s.sig.bytes)) ≡ (b && v key text s.sig.bytes)
  kept_at id key s true e h = ap (λ b. not b && v key text s.sig.bytes) (same_listed ids s.keyid id ((bytes_eq-Decides s.keyid.bytes id.bytes).0 e) ∙ h)
  kept_at id key s false e h = and_none (not (is_listed ids s.keyid))

  new_any : (id : Spelled) (key : KeyData) → list_any (is_by v text id.bytes key) (map (signature_under sig) ids) ≡ (is_listed ids id && v key text sig)
  new_any id key = list_any-map (is_by v text id.bytes key) (signature_under sig) ids ∙ any_and (λ i. bytes_eq i.bytes id.bytes) (v key text sig) ids

  stays_any : (id : Spelled) (key : KeyData) → is_listed ids id ≡ false → list_any (is_by v text id.bytes key) (signed_under ids sig before) ≡ list_any (is_by v text id.bytes key) before
  stays_any id key h =
      any_append (is_by v text id.bytes key) (others ids before) (map (signature_under sig) ids)
      ∙ (ap (λ b. list_any (is_by v text id.bytes key) (others ids before) || b) (new_any id key ∙ ap (λ b. b && v key text sig) h)
      ∙ (or_none (list_any (is_by v text id.bytes key) (others ids before))
      ∙ (any-filter (is_by v text id.bytes key) (λ s. not (is_listed ids s.keyid)) before
      ∙ any_same (λ s. not (is_listed ids s.keyid) && is_by v text id.bytes key s) (is_by v text id.bytes key) before (λ s. kept_at id key s (bytes_eq s.keyid.bytes id.bytes) refl h))))

  stays_at : (id : Spelled) (o : Option KeyData) → is_listed ids id ≡ false → has_signed v text (signed_under ids sig before) (id.bytes, o) ≡ has_signed v text before (id.bytes, o)
  stays_at id None h = refl
  stays_at id (Some key) h = stays_any id key h

  counts_any : (id : Spelled) (key : KeyData) → is_listed ids id ≡ true → v key text sig ≡ true → list_any (is_by v text id.bytes key) (signed_under ids sig before) ≡ true
  counts_any id key h well =
      any_append (is_by v text id.bytes key) (others ids before) (map (signature_under sig) ids)
      ∙ (ap (λ b. list_any (is_by v text id.bytes key) (others ids before) || b) (new_any id key ∙ (ap (λ b. b && v key text sig) h ∙ well))
      ∙ or_all (list_any (is_by v text id.bytes key) (others ids before)))

  counts_at : (id : Spelled) (o : Option KeyData) (key : KeyData) → o ≡ Some key → is_listed ids id ≡ true → v key text sig ≡ true → has_signed v text (signed_under ids sig before) (id.bytes, o) ≡ true
  counts_at id o key e h well = ap (λ o. has_signed v text (signed_under ids sig before) (id.bytes, o)) e ∙ counts_any id key h well

  -- one of the root's keys counts afterwards where it is the signer's, or counted before
  signed_at : (known : Known) (key : KeyDoc) (id : Spelled) (b : Bool) → is_listed ids id ≡ b → v (data_of key) text sig ≡ true → (b ≡ true → is_of known key id ≡ true)
      → signed_by v known text (signed_under ids sig before) id ≡ (b || signed_by v known text before id)
  signed_at known key id true h well of = counts_at id (option_map data_of (key_under known id)) (data_of key) (same_data (key_under known id) (of refl)) h well
    where
      same_data : (o : Option KeyDoc) → equals key o ≡ true → option_map data_of o ≡ Some (data_of key)
      same_data None e = cc
      same_data (Some k) e = ap Some (data_of-same k key e)
  signed_at known key id false h well of = stays_at id (option_map data_of (key_under known id)) h

-- ---- no identifier stands twice

abbrev under_any : List SignatureDoc → List ℕ → Bool
under_any ss id = list_any (λ t. bytes_eq t.keyid.bytes id) ss

-- what a filter keeps was there
filtered_none : (p : SignatureDoc → Bool) (ss : List SignatureDoc) (id : List ℕ) → under_any ss id ≡ false → under_any (filter p ss) id ≡ false
filtered_none p [] id h = refl
filtered_none p (s ∷ ss) id h =
    let both = or_parts (bytes_eq s.keyid.bytes id) (under_any ss id) h in
    keep (p s) both.0 (filtered_none p ss id both.1)
  where
    keep : (b : Bool) → bytes_eq s.keyid.bytes id ≡ false → under_any (filter p ss) id ≡ false → under_any (cond b (s ∷ filter p ss) (filter p ss)) id ≡ false
    keep true e later = or_from (bytes_eq s.keyid.bytes id) (under_any (filter p ss) id) e later
    keep false e later = later

under_new : (ids : List Spelled) (sig : List ℕ) (id : Spelled) → under_any (map (signature_under sig) ids) id.bytes ≡ is_listed ids id
under_new ids sig id = list_any-map (λ t. bytes_eq t.keyid.bytes id.bytes) (signature_under sig) ids

none_listed : (id : Spelled) (ids : List Spelled) → AllByRecursion (λ j. bytes_eq id.bytes j.bytes ≡ false) ids → is_listed ids id ≡ false
none_listed id [] a = refl
none_listed id (j ∷ ids) a = or_from (bytes_eq j.bytes id.bytes) (is_listed ids id) (swap j.bytes id.bytes ∙ a.0) (none_listed id ids a.1)

new_once : (ids : List Spelled) (sig : List ℕ) → IsDistinct (λ i j. bytes_eq i.bytes j.bytes) ids → some_twice (map (signature_under sig) ids) ≡ false
unfolding IsDistinct
new_once [] sig d = refl
new_once (id ∷ ids) sig d = or_from (under_any (map (signature_under sig) ids) id.bytes) (some_twice (map (signature_under sig) ids)) (under_new ids sig id ∙ none_listed id ids d.0) (new_once ids sig d.1)

module _ (ids : List Spelled) (sig : List ℕ) (distinct : IsDistinct (λ i j. bytes_eq i.bytes j.bytes) ids) where
  kept_once : (s : SignatureDoc) (ss : List SignatureDoc) (b : Bool) → is_listed ids s.keyid ≡ b → under_any ss s.keyid.bytes ≡ false → some_twice (signed_under ids sig ss) ≡ false
      → some_twice (cond (not b) (s ∷ others ids ss) (others ids ss) ++ map (signature_under sig) ids) ≡ false
  kept_once s ss true e none later = later
  kept_once s ss false e none later =
      or_from (under_any (signed_under ids sig ss) s.keyid.bytes) (some_twice (signed_under ids sig ss))
      (any_append (λ t. bytes_eq t.keyid.bytes s.keyid.bytes) (others ids ss) (map (signature_under sig) ids)
      ∙ or_from (under_any (others ids ss) s.keyid.bytes) (under_any (map (signature_under sig) ids) s.keyid.bytes) (filtered_none (λ t. not (is_listed ids t.keyid)) ss s.keyid.bytes none) (under_new ids sig s.keyid ∙ e))
      later

  -- where none stood twice, none does
  pub stays_once : (ss : List SignatureDoc) → some_twice ss ≡ false → some_twice (signed_under ids sig ss) ≡ false
  stays_once [] h = new_once ids sig distinct
  stays_once (s ∷ ss) h =
      let both = or_parts (under_any ss s.keyid.bytes) (some_twice ss) h in
      kept_once s ss (is_listed ids s.keyid) refl both.0 (stays_once ss both.1)

-- ---- the tally

module _ (has before after : Spelled → Bool) where
  abbrev Adds : Spelled → Type 0
  Adds id = after id ≡ (has id || before id)

  waits_at : (id : Spelled) (ids : List Spelled) (h b a : Bool) → has id ≡ h → a ≡ (h || b) → filter (λ i. not (after i)) ids ≡ filter (λ i. not (has i)) (filter (λ i. not (before i)) ids)
      → cond (not a) (id ∷ filter (λ i. not (after i)) ids) (filter (λ i. not (after i)) ids) ≡ filter (λ i. not (has i)) (cond (not b) (id ∷ filter (λ i. not (before i)) ids) (filter (λ i. not (before i)) ids))
  waits_at id ids true true a e is later = rw is later
  waits_at id ids true false a e is later = rw (is, e) later
  waits_at id ids false true a e is later = rw is later
  waits_at id ids false false a e is later = rw (is, e) (ap (λ l. id ∷ l) later)

  waits : (ids : List Spelled) → AllByRecursion Adds ids → filter (λ i. not (after i)) ids ≡ filter (λ i. not (has i)) (filter (λ i. not (before i)) ids)
  waits [] all = refl
  waits (id ∷ ids) all = waits_at id ids (has id) (before id) (after id) refl all.0 (waits ids all.1)

  more_at : (id : Spelled) (ids : List Spelled) (h b a : Bool) → has id ≡ h → a ≡ (h || b) → length (filter after ids) ≡ length (filter before ids) + length (filter has (filter (λ i. not (before i)) ids))
      → length (cond a (id ∷ filter after ids) (filter after ids)) ≡ length (cond b (id ∷ filter before ids) (filter before ids)) + length (filter has (cond (not b) (id ∷ filter (λ i. not (before i)) ids) (filter (λ i. not (before i)) ids)))
  more_at id ids true true a e is later = rw is (omega (arith, later))
  more_at id ids true false a e is later = rw (is, e) (omega (arith, later))
  more_at id ids false true a e is later = rw is (omega (arith, later))
  more_at id ids false false a e is later = rw (is, e) (omega (arith, later))

  more : (ids : List Spelled) → AllByRecursion Adds ids → length (filter after ids) ≡ length (filter before ids) + length (filter has (filter (λ i. not (before i)) ids))
  more [] all = refl
  more (id ∷ ids) all = more_at id ids (has id) (before id) (after id) refl all.0 (more ids all.1)

each_at : (P : Spelled → Type 0) (b : Bool) (id : Spelled) (ids : List Spelled) → P id → AllByRecursion P (each_once ids) → AllByRecursion P (cond b (each_once ids) (id ∷ each_once ids))
each_at P true id ids h all = all
each_at P false id ids h all = (h, all)

-- what holds of each listed identifier holds of each, told once
each_all : (P : Spelled → Type 0) (ids : List Spelled) → AllByRecursion P ids → AllByRecursion P (each_once ids)
each_all P [] all = tt
each_all P (id ∷ ids) all = each_at P (is_listed ids id) id ids all.0 (each_all P ids all.1)

-- an identifier of the list is listed
listed_here : (ids : List Spelled) (P : Spelled → Type 0) → ((id : Spelled) → is_listed ids id ≡ true → P id) → AllByRecursion P ids
listed_here [] P h = tt
listed_here (id ∷ ids) P h =
    (h id (here (bytes_eq id.bytes id.bytes) ((bytes_eq-Decides id.bytes id.bytes).1 refl)), listed_here ids P (λ i l. h i (later i (bytes_eq id.bytes i.bytes) l)))
  where
    here : (b : Bool) → b ≡ true → (b || is_listed ids id) ≡ true
    here true e = refl
    here false e = cc

    later : (i : Spelled) (b : Bool) → is_listed ids i ≡ true → (b || is_listed ids i) ≡ true
    later i true l = refl
    later i false l = l

module _ {S : Type 0} (v : Verifies) (key_of : S → KeyDoc) (signs : S → List ℕ → List ℕ → Type 0) (signer : S) (r by : RootDoc) (old : Option RootDoc) (asked : RoleKeysDoc) (text : List ℕ) (before after : List SignatureDoc) where
  abbrev Given : Type 0
  Given = SignWell v key_of signs (signer ∷ []) × AreSignedBy key_of signs signer r old before after × (text_by root_json r ≡ Some text) × (role_in types.Root by ≡ Some asked) × Agrees (key_of signer) by r old

  abbrev mine : Spelled → Bool
  mine id = lists_in (key_of signer) r old id

  adds : Given → AllByRecursion (λ id. signed_by v by.keys text after id ≡ (mine id || signed_by v by.keys text before id)) asked.keyids
  adds g =
      let s : AreSignedBy key_of signs signer r old before after = g.1 in
      let same : s.text ≡ text = same_some s.text text (sym s.canonical ∙ g.2) in
      let well : v (data_of (key_of signer)) text s.sig ≡ true = g.0.0 text s.sig (subst (λ t. signs signer t s.sig) same s.by) in
      listed_here asked.keyids (λ id. signed_by v by.keys text after id ≡ (mine id || signed_by v by.keys text before id))
      (λ id l. ap (λ ss. signed_by v by.keys text ss id) s.put
      ∙ signed_at v text s.sig s.ids before by.keys (key_of signer) id (mine id) (s.under.exactly id) well (λ m. is_mine id l m))
    where
      same_some : {X : Type 0} (x y : X) → Some x ≡ Some y → x ≡ y
      same_some x y e = cc

      is_mine : (id : Spelled) → is_listed asked.keyids id ≡ true → mine id ≡ true → is_of by.keys (key_of signer) id ≡ true
      is_mine id l m =
          let listed : is_listed (root_ids by) id ≡ true = ap (λ o. is_listed (listed_by o) id) g.3 ∙ l in
          (and_parts (is_listed (root_ids by) id) (is_of by.keys (key_of signer) id) (g.4 id listed m)).1

  pub waiting_after : Given → waiting_of v by.keys text after asked.keyids ≡ filter (λ id. not (mine id)) (waiting_of v by.keys text before asked.keyids)
  waiting_after g = waits mine (signed_by v by.keys text before) (signed_by v by.keys text after) (each_once asked.keyids) (each_all (λ id. signed_by v by.keys text after id ≡ (mine id || signed_by v by.keys text before id)) asked.keyids (adds g))

  pub signed_after : Given → length (signed_of v by.keys text after asked.keyids) ≡ length (signed_of v by.keys text before asked.keyids) + length (filter mine (waiting_of v by.keys text before asked.keyids))
  signed_after g = more mine (signed_by v by.keys text before) (signed_by v by.keys text after) (each_once asked.keyids) (each_all (λ id. signed_by v by.keys text after id ≡ (mine id || signed_by v by.keys text before id)) asked.keyids (adds g))

pub once_after : {S : Type 0} (key_of : S → KeyDoc) (signs : S → List ℕ → List ℕ → Type 0) (signer : S) (r : RootDoc) (old : Option RootDoc) (before after : List SignatureDoc) → AreSignedBy key_of signs signer r old before after → some_twice before ≡ false → some_twice after ≡ false
once_after key_of signs signer r old before after s h = ap some_twice s.put ∙ stays_once s.ids s.sig s.under.once before h
