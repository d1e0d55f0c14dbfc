-- Looking for an identifier that stands twice, with a set of those that were seen.
use Rattle.std.proofs.Common.{◌≡◌, ℕ, ◌+◌, ◌<◌, List, [], ◌∷◌, map, drop, drop-cons, add-one, get_or, length, Bool, true, false, ◌||◌, not, Ordering, Less, Equal, Greater, is_eq, nat_cmp, bytes_eq, Option, Some, None, if◌then◌else◌, ◌≢◌, refl, sym, ap, ◌∙◌, subst, arith}
use Rattle.std.specs.Prelude.{MatchOption}
use Rattle.std.proofs.lemmas.Map.Text.{is_eq-slice_cmp}
use Rattle.std.proofs.lemmas.Slice.Eq.{bytes_eq-Decides}
use Rattle.std.specs.Ordering.{match_ordering}
use Rattle.std.specs.Cmp.Lexicographic.{slice_cmp}
use Rattle.std.specs.BTreeSet.{insert_key}
use Rattle.std.specs.List.{list_any, HoldsAt}
use Rattle.std.proofs.lemmas.List.{get_or-map, length-map}
use Rattle.tough_roles.specs.declared.signature.Signature.{Signature}
use Rattle.tough_roles.specs.Signature.{SignatureDoc, signature_doc}
use Rattle.tough_roles.specs.Verdict.{again, some_twice}
use Rattle.tough_roles.proofs.Counts.{some_twice-drop}

or_idle : (a b : Bool) → a || (a || b) ≡ a || b
or_idle true b = refl
or_idle false b = refl

pub or_swap : (a b c : Bool) → a || (b || c) ≡ b || (a || c)
or_swap true true c = refl
or_swap true false c = refl
or_swap false b c = refl

pub or_assoc : (a b c : Bool) → (a || b) || c ≡ a || (b || c)
or_assoc true b c = refl
or_assoc false b c = refl

pub or_comm : (a b : Bool) → a || b ≡ b || a
or_comm true true = refl
or_comm true false = refl
or_comm false true = refl
or_comm false false = refl

or_true : (a : Bool) → a || true ≡ true
or_true true = refl
or_true false = refl

any_or : {X : Type 0} (p q : X → Bool) (xs : List X) → list_any (λ x. p x || q x) xs ≡ list_any p xs || list_any q xs
any_or p q [] = refl
any_or p q (x ∷ xs) =
    ap (λ b. (p x || q x) || b) (any_or p q xs)
    ∙ or_assoc (p x) (q x) (list_any p xs || list_any q xs)
    ∙ ap (λ b. p x || b) (or_swap (q x) (list_any p xs) (list_any q xs))
    ∙ sym (or_assoc (p x) (list_any p xs) (q x || list_any q xs))

pub same_any : {X : Type 0} (p q : X → Bool) (xs : List X) → ((x : X) → p x ≡ q x) → list_any p xs ≡ list_any q xs
same_any p q [] h = refl
same_any p q (x ∷ xs) h = ap (λ b. b || list_any p xs) (h x) ∙ ap (λ b. q x || b) (same_any p q xs h)

module _ {K : Type 0} (now : K → List ℕ) where
  abbrev pub by_bytes : K → K → Ordering
  by_bytes x y = slice_cmp nat_cmp (now x) (now y)

  -- the bytes stand among the keys
  abbrev pub stands : List K → List ℕ → Bool
  stands ks bytes = list_any (λ k. bytes_eq bytes (now k)) ks

  -- what the set answers of a key
  pub contained : (ks : List K) (k : K) → list_any (λ x. is_eq (by_bytes k x)) ks ≡ stands ks (now k)
  contained ks k = same_any (λ x. is_eq (by_bytes k x)) (λ x. bytes_eq (now k) (now x)) ks (λ x. is_eq-slice_cmp (now k) (now x))

  same_bytes : (k x : K) → by_bytes k x ≡ Equal → now k ≡ now x
  same_bytes k x h = (bytes_eq-Decides (now k) (now x)).0 (sym (is_eq-slice_cmp (now k) (now x)) ∙ ap is_eq h)

  placed : (x : K) (xs : List K) (k : K) (bytes : List ℕ) → stands (insert_key by_bytes xs k) bytes ≡ bytes_eq bytes (now k) || stands xs bytes → (r : Ordering) → by_bytes k x ≡ r
      → stands (match_ordering r (k ∷ x ∷ xs) (x ∷ xs) (x ∷ insert_key by_bytes xs k)) bytes ≡ bytes_eq bytes (now k) || (bytes_eq bytes (now x) || stands xs bytes)
  placed x xs k bytes rest Less h = refl
  placed x xs k bytes rest Equal h =
      subst (λ b. bytes_eq bytes (now x) || stands xs bytes ≡ bytes_eq bytes b || (bytes_eq bytes (now x) || stands xs bytes)) (sym (same_bytes k x h)) (sym (or_idle (bytes_eq bytes (now x)) (stands xs bytes)))
  placed x xs k bytes rest Greater h = ap (λ b. bytes_eq bytes (now x) || b) rest ∙ or_swap (bytes_eq bytes (now x)) (bytes_eq bytes (now k)) (stands xs bytes)

  -- one more key
  pub inserted : (ks : List K) (k : K) (bytes : List ℕ) → stands (insert_key by_bytes ks k) bytes ≡ bytes_eq bytes (now k) || stands ks bytes
  inserted [] k bytes = refl
  inserted (x ∷ xs) k bytes = placed x xs k bytes (inserted xs k bytes) (by_bytes k x) refl

  -- an identifier of these signatures stands among the keys
  abbrev pub seen_in : List K → List Signature → Bool
  seen_in ks ss = list_any (λ s. stands ks s.keyid.bytes) ss

  -- an identifier stands twice in all, where it does from a place on, or was seen before that place
  abbrev pub Looked : List K → List Signature → ℕ → Type 0
  Looked ks ss i = some_twice (map signature_doc (drop i ss)) || seen_in ks (drop i ss) ≡ some_twice (map signature_doc ss)

  none : (ss : List Signature) → seen_in [] ss ≡ false
  none [] = refl
  none (s ∷ ss) = none ss

  pub none_seen : (ks : List K) → ks ≡ [] → (ss : List Signature) → Looked ks ss 0
  none_seen ks h ss = ap (λ n. some_twice (map signature_doc ss) || seen_in n ss) h ∙ ap (λ b. some_twice (map signature_doc ss) || b) (none ss) ∙ or_comm (some_twice (map signature_doc ss)) false

  next_seen : (ks : List K) (ss : List Signature) (i : ℕ) (s : Signature) → i < length ss → s ≡ get_or ss i s → seen_in ks (drop i ss) ≡ stands ks s.keyid.bytes || seen_in ks (drop (i + 1) ss)
  next_seen ks ss i s h e = rw (drop-cons ss i s h, ← e, add-one) refl

  -- an identifier that was seen stands twice
  pub found : (ks : List K) (ss : List Signature) (i : ℕ) (s : Signature) → i < length ss → s ≡ get_or ss i s → Looked ks ss i → stands ks s.keyid.bytes ≡ true → some_twice (map signature_doc ss) ≡ true
  found ks ss i s h e looked seen =
      sym looked
      ∙ ap (λ b. some_twice (map signature_doc (drop i ss)) || b) (next_seen ks ss i s h e ∙ ap (λ b. b || seen_in ks (drop (i + 1) ss)) seen)
      ∙ or_true (some_twice (map signature_doc (drop i ss)))

  -- one that wasn't is seen from now on
  pub noted : (ks : List K) (ss : List Signature) (i : ℕ) (k : K) (s : Signature) → i < length ss → s ≡ get_or ss i s → now k ≡ s.keyid.bytes → Looked ks ss i → stands ks s.keyid.bytes ≡ false → Looked (insert_key by_bytes ks k) ss (i + 1)
  noted ks ss i k s h e same looked unseen =
      let rest = drop (i + 1) ss in
      let later_one = list_any (λ t. bytes_eq t.keyid.bytes s.keyid.bytes) rest in
      let later = some_twice (map signature_doc rest) in
      let now_seen : seen_in (insert_key by_bytes ks k) rest ≡ later_one || seen_in ks rest =
      same_any (λ t. stands (insert_key by_bytes ks k) t.keyid.bytes) (λ t. bytes_eq t.keyid.bytes s.keyid.bytes || stands ks t.keyid.bytes) rest
      (λ t. inserted ks k t.keyid.bytes ∙ ap (λ b. bytes_eq t.keyid.bytes b || stands ks t.keyid.bytes) same)
      ∙ any_or (λ t. bytes_eq t.keyid.bytes s.keyid.bytes) (λ t. stands ks t.keyid.bytes) rest in
      ap (λ b. later || b) now_seen
      ∙ or_swap later later_one (seen_in ks rest)
      ∙ sym (or_assoc later_one later (seen_in ks rest))
      ∙ ap (λ b. b || seen_in ks rest) (sym (some_twice-drop ss i s h e))
      ∙ ap (λ b. some_twice (map signature_doc (drop i ss)) || b) (sym (next_seen ks ss i s h e ∙ ap (λ b. b || seen_in ks rest) unseen))
      ∙ looked

-- what stands at the place is the plain form of what stands there
holds-at : (P : SignatureDoc → Type 0) (ss : List Signature) (i : ℕ) (s : Signature) → i < length ss → s ≡ get_or ss i s → P (signature_doc s) → HoldsAt P (map signature_doc ss) i
holds-at P ss i s h e p = λ d. subst P (ap signature_doc e ∙ sym (get_or-map signature_doc ss i s d h)) p

-- and what holds at the place holds of it
pub told-at : (P : SignatureDoc → Type 0) (ss : List Signature) (i : ℕ) (s : Signature) → i < length ss → s ≡ get_or ss i s → HoldsAt P (map signature_doc ss) i → P (signature_doc s)
told-at P ss i s h e holds = subst P (get_or-map signature_doc ss i s (signature_doc s) h ∙ ap signature_doc (sym e)) (holds (signature_doc s))

again_at : (ss : List Signature) (i : ℕ) (s : Signature) (seen : List SignatureDoc) → i < length ss → s ≡ get_or ss i s
    → again seen (map signature_doc (drop i ss)) ≡ (if list_any (λ t. bytes_eq s.keyid.bytes t.keyid.bytes) seen then s.keyid.spelling else again (signature_doc s ∷ seen) (map signature_doc (drop (i + 1) ss)))
again_at ss i s seen h e = rw (drop-cons ss i s h, ← e, add-one) refl

module _ {K : Type 0} (now : K → List ℕ) where
  -- what stands again from a place on, beside the signatures before it, stands again in all; their identifiers are the keys
  abbrev pub Goes : List K → List Signature → ℕ → Type 0
  Goes ks ss i = (seen : List SignatureDoc) × (again [] (map signature_doc ss) ≡ again seen (map signature_doc (drop i ss)))
      × ((bytes : List ℕ) → stands now ks bytes ≡ list_any (λ t. bytes_eq bytes t.keyid.bytes) seen)

  pub goes_first : (ks : List K) → ks ≡ [] → (ss : List Signature) → Goes ks ss 0
  goes_first ks h ss = ([], refl, λ bytes. ap (λ n. stands now n bytes) h)

  pub goes_found : (ks : List K) (ss : List Signature) (i : ℕ) (s : Signature) → i < length ss → s ≡ get_or ss i s → Goes ks ss i → stands now ks s.keyid.bytes ≡ true
      → HoldsAt (λ d. again [] (map signature_doc ss) ≡ d.keyid.spelling) (map signature_doc ss) i
  goes_found ks ss i s h e g seen =
      holds-at (λ d. again [] (map signature_doc ss) ≡ d.keyid.spelling) ss i s h e
      (g.1 ∙ again_at ss i s g.0 h e
      ∙ ap (λ b. if b then s.keyid.spelling else again (signature_doc s ∷ g.0) (map signature_doc (drop (i + 1) ss))) (sym (g.2 s.keyid.bytes) ∙ seen))

  pub goes_noted : (ks : List K) (ss : List Signature) (i : ℕ) (k : K) (s : Signature) → i < length ss → s ≡ get_or ss i s → now k ≡ s.keyid.bytes → Goes ks ss i → stands now ks s.keyid.bytes ≡ false
      → Goes (insert_key (by_bytes now) ks k) ss (i + 1)
  goes_noted ks ss i k s h e same g unseen = (
    signature_doc s ∷ g.0,
    g.1 ∙ again_at ss i s g.0 h e
        ∙ ap (λ b. if b then s.keyid.spelling else again (signature_doc s ∷ g.0) (map signature_doc (drop (i + 1) ss))) (sym (g.2 s.keyid.bytes) ∙ unseen),
    λ bytes. inserted now ks k bytes ∙ ap (λ x. bytes_eq bytes x || stands now ks bytes) same ∙ ap (λ b. bytes_eq bytes s.keyid.bytes || b) (g.2 bytes),
  )

pub was_there : (added there : Bool) → added ≡ not there → added ≡ false → there ≡ true
was_there added true h e = refl
was_there added false h e = absurd (cc (h, e))

pub was_new : (added there : Bool) → added ≡ not there → added ≡ true → there ≡ false
was_new added true h e = absurd (cc (h, e))
was_new added false h e = refl

pub never : {A : Type 0} (P : ℕ → Type 0) (o : Option ℕ) → ((i : ℕ) → o ≢ Some i) → MatchOption o A P → A
never P None h m = m
never P (Some i) h m = absurd (h i refl)
