-- ASCII is its own NFC, and members of ASCII names stand in order.
use Rattle.std.proofs.Common.{◌≡◌, ◌<◌, ℕ, Bool, List, [], ◌∷◌, ◌++◌, map, string_bytes, string_cmp, nat_cmp, Less, refl, sym, ap, ap₂, ◌∙◌, subst, append_assoc, All}
use Rattle.std.proofs.lemmas.List.Elements.{All-from_get_or}
use Rattle.std.proofs.lemmas.List.Sorted.{IsPermutation-refl}
use Rattle.std.proofs.lemmas.Str.{chars-IsAscii, encodes-IsAscii}
use Rattle.std.specs.Prelude.{IsAscii, encode_utf8_all}
use Rattle.std.specs.Cmp.Lexicographic.{slice_cmp}
use Rattle.std.specs.List.{AllByRecursion}
use Rattle.std.specs.List.Sorted.{IsStrictlySortedBy}
use Rattle.std.specs.Map.{keys_of}
use Rattle.serde_json.specs.View.{members_view}
use Rattle.serde_json.proofs.Views.{Entry}
use Rattle.unicode_normalization.specs.Forms.{nfc, Nfc}
use Rattle.unicode_normalization.proofs.FormsLemmas.{normalize-ascii}
use Rattle.tough_cjson.specs.Ascii.{HaveAsciiNames}
use Rattle.tough_cjson.specs.Canon.{CanonMembers, Member, IsInOrder, nfc_text, quoted, joined, member_text}
use Rattle.tough_cjson.proofs.lemmas.Joining.{comma_unless, is_nil, piece_more}
use Rattle.tough_cjson.proofs.Ordered.{Rising}

pub nfc_text-IsAscii : (s : List ℕ) → IsAscii s → nfc_text s ≡ s
unfolding nfc_text
nfc_text-IsAscii s h =
    let all : All (λ b. b < 128) s = All-from_get_or (λ b. b < 128) s 0 (λ i lt. h i) in
    ap (λ cs. encode_utf8_all (nfc cs)) (chars-IsAscii s h) ∙ ap encode_utf8_all (normalize-ascii Nfc s all) ∙ encodes-IsAscii s h

-- a name below the others, as bytes
below : (k : List ℕ) (es : List Entry) (ps : List Member) → AllByRecursion (λ y. slice_cmp nat_cmp k (string_bytes y) ≡ Less) (keys_of es)
    → HaveAsciiNames (members_view es) → CanonMembers (members_view es) ps → AllByRecursion (λ y. slice_cmp nat_cmp k y ≡ Less) (keys_of ps)
below k [] ps all ascii h = subst (λ (l : List Member). AllByRecursion (λ y. slice_cmp nat_cmp k y ≡ Less) (keys_of l)) (sym h) tt
below k (e ∷ es) ps all ascii h = subst (λ (l : List Member). AllByRecursion (λ y. slice_cmp nat_cmp k y ≡ Less) (keys_of l)) (sym h.4)
    (ap (slice_cmp nat_cmp k) (nfc_text-IsAscii (string_bytes e.0) ascii.0) ∙ all.0, below k es h.1 all.1 ascii.1 h.3)

rising : (es : List Entry) (ps : List Member) → IsStrictlySortedBy string_cmp (keys_of es) → HaveAsciiNames (members_view es) → CanonMembers (members_view es) ps → Rising ps
unfolding IsStrictlySortedBy
rising [] ps sorted ascii h = subst Rising (sym h) tt
rising (e ∷ es) ps sorted ascii h = subst Rising (sym h.4)
    (subst (λ k. AllByRecursion (λ y. slice_cmp nat_cmp k y ≡ Less) (keys_of h.1)) (sym (nfc_text-IsAscii (string_bytes e.0) ascii.0)) (below (string_bytes e.0) es h.1 sorted.0 ascii.1 h.3), rising es h.1 sorted.1 ascii.1 h.3)

-- members of ASCII names are in order as a map keeps them
pub in_place : (es : List Entry) (ps : List Member) → IsStrictlySortedBy string_cmp (keys_of es) → HaveAsciiNames (members_view es) → CanonMembers (members_view es) ps → IsInOrder ps ps
in_place es ps sorted ascii h = record { same = IsPermutation-refl ps; rising = rising es ps sorted ascii h }

-- the names that are left are ASCII too
pub ascii_at : (done : List Entry) (e : Entry) (left : List Entry) → HaveAsciiNames (members_view (done ++ e ∷ left)) → IsAscii (string_bytes e.0)
ascii_at [] e left h = h.0
ascii_at (f ∷ fs) e left h = ascii_at fs e left h.1

pub is_nil-map : {A B : Type 0} (f : A → B) (xs : List A) → is_nil (map f xs) ≡ is_nil xs
is_nil-map f [] = refl
is_nil-map f (x ∷ xs) = refl

map_more : {A B : Type 0} (f : A → B) (xs : List A) (x : A) → map f (xs ++ x ∷ []) ≡ map f xs ++ f x ∷ []
map_more f [] x = refl
map_more f (y ∷ ys) x = ap (λ l. f y ∷ l) (map_more f ys x)

-- one more member, written behind the others
pub written_more : (args : List ℕ) (ps : List Member) (name t : List ℕ) (first : Bool) (o0 o1 o2 o3 o4 : List ℕ)
    → o0 ≡ args ++ 123 ∷ joined (map member_text ps) → first ≡ is_nil ps
    → o1 ≡ o0 ++ comma_unless first → o2 ≡ o1 ++ quoted name → o3 ≡ o2 ++ 58 ∷ [] → o4 ≡ o3 ++ t
    → o4 ≡ args ++ 123 ∷ joined (map member_text (ps ++ (name, t) ∷ []))
written_more args ps name t first o0 o1 o2 o3 o4 e0 f e1 e2 e3 e4 =
    let q = quoted name in
    let ts = map member_text ps in
    e4 ∙ ap (λ s. s ++ t) (e3 ∙ ap (λ s. s ++ 58 ∷ []) e2)
    ∙ append_assoc (o1 ++ q) (58 ∷ []) t ∙ append_assoc o1 q (58 ∷ t)
    ∙ ap (λ s. s ++ (q ++ 58 ∷ t)) (e1 ∙ ap₂ (λ a b. a ++ comma_unless b) e0 (f ∙ sym (is_nil-map member_text ps)))
    ∙ append_assoc _ _ (q ++ 58 ∷ t) ∙ piece_more args 123 ts (q ++ 58 ∷ t)
    ∙ ap (λ us. args ++ 123 ∷ joined us) (sym (map_more member_text ps (name, t)))
