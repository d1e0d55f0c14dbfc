-- Objects that are written member by member.
use Rattle.std.proofs.Common.{◌≡◌, ℕ, List, [], ◌∷◌, ◌++◌, flat_map, map, Bool, true, false, not, nat_lt, ◌==◌, ◌&&◌, if◌then◌else◌, Option, Some, None, option_map, option_and_then, Ordering, Less, Equal, Greater, nat_cmp, is_eq, bytes_eq, String, string_bytes, refl, sym, ap, ap₂, ◌∙◌, append_assoc, arith, Result, Ok, Err, OnOk}
use Rattle.std.proofs.lemmas.Bool.{and_parts, ltb-true}
use Rattle.std.proofs.lemmas.Bool.Decides.{nat_tests}
use Rattle.std.proofs.lemmas.Cmp.{nat_list_cmp_total}
use Rattle.std.proofs.lemmas.Map.Text.{is_eq-slice_cmp}
use Rattle.std.proofs.lemmas.Slice.Eq.{bytes_eq-Decides}
use Rattle.std.proofs.lemmas.Str.Ascii.{IsAscii-nil, IsAscii-cons}
use Rattle.std.specs.declared.alloc.Global.{Global}
use Rattle.std.specs.Cmp.Lexicographic.{slice_cmp}
use Rattle.std.specs.List.{AllByRecursion, list_all}
use Rattle.std.specs.Map.{keys_of}
use Rattle.std.specs.Ordering.{match_ordering, ordering_reverse, is_le}
use Rattle.json.specs.Print.{escape, escape_byte, escape_letter}
use Rattle.json.specs.Print as print
use Rattle.serde_json.specs.Data.{Data, string, object, Members, no_members, member, put}
use Rattle.serde_json.specs.Find.{get_member}
use Rattle.serde_json.specs.View.{view, members_view}
use Rattle.serde_json.specs.Written.{has_float, members_have_float, compact_text, members_text}
use Rattle.serde_json.proofs.Views.{Entry}
use Rattle.tough_cjson.specs.Canon.{Member, escaped, escaped_byte, joined, member_text}
use Rattle.tough_cjson.specs.CanonicalText.{canonical_of, member_texts, in_order, put_in, object_text}
use Rattle.tough_cjson.proofs.lemmas.Joining.{is_nil, comma_unless, piece_more}
use Rattle.tough_cjson.proofs.lemmas.Plain.{nfc_text-IsAscii}
use Rattle.tough_json.specs.declared.pieces.Form.{Form}
use Rattle.tough_json.specs.declared.pieces.Form.TheVariants as forms
use Rattle.tough_json.specs.declared.pieces.ObjectText.{ObjectText}
use Rattle.tough_json.specs.Pieces.{compact_of, agreed, text_in, is_simple_byte, IsSimple, IsBelow, AreBelow, AreSimple, and_last, replaced, piece, ArePieces, is_none_yet, Appends, Stands, IsNamed}
use Rattle.tough_json.specs.Writing.{with}
use Rattle.tough_json.proofs.lemmas.Write.{if_free-ok}

-- ---- names that stand as they are

three : (x y z : Bool) → (not x && (not y && not z)) ≡ true → (x ≡ false) × (y ≡ false) × (z ≡ false)
three true y z h = cc
three false true z h = cc
three false false true h = cc
three false false false h = (refl, refl, refl)

plain_byte : (b : ℕ) → is_simple_byte b ≡ true → escaped_byte b ≡ b ∷ []
plain_byte b h = let p = three (nat_lt b 32) (b == 34) (b == 92) h in rw (p.1, p.2) refl

-- a name whose bytes are all ASCII with none of these
pub simple-from : (s : List ℕ) → list_all (λ b. nat_lt b 128 && is_simple_byte b) s ≡ true → IsSimple s
simple-from [] h = (IsAscii-nil, refl)
simple-from (b ∷ s) h =
    let p = and_parts (nat_lt b 128 && is_simple_byte b) (list_all (λ c. nat_lt c 128 && is_simple_byte c) s) h in
    let q = and_parts (nat_lt b 128) (is_simple_byte b) p.0 in
    let r = simple-from s p.1 in (IsAscii-cons b s (ltb-true b 128 q.0) r.0, rw (q.1, r.1) refl)

letter : (b : ℕ) → nat_lt b 32 ≡ false → (b == 34) ≡ false → (b == 92) ≡ false → escape_letter b ≡ 0
letter b low quote slash = grind (arith, nat_tests)

shown_byte : (b : ℕ) → is_simple_byte b ≡ true → escape_byte b ≡ b ∷ []
unfolding escape_byte
shown_byte b h = let p = three (nat_lt b 32) (b == 34) (b == 92) h in rw (letter b p.0 p.1 p.2, p.0) refl

plain : (s : List ℕ) → list_all is_simple_byte s ≡ true → escaped s ≡ s
unfolding escaped
plain [] h = refl
plain (b ∷ s) h = let p = and_parts (is_simple_byte b) (list_all is_simple_byte s) h in ap₂ (λ l m. l ++ m) (plain_byte b p.0) (plain s p.1)

shown : (s : List ℕ) → list_all is_simple_byte s ≡ true → escape s ≡ s
shown [] h = refl
shown (b ∷ s) h = let p = and_parts (is_simple_byte b) (list_all is_simple_byte s) h in ap₂ (λ l m. l ++ m) (shown_byte b p.0) (shown s p.1)

-- ---- the canonical text

abbrev Below : List ℕ → List Member → Type 0
Below k ps = AllByRecursion (λ y. slice_cmp nat_cmp k y ≡ Less) (keys_of ps)

put-first : (m : Member) (ps : List Member) → Below m.0 ps → put_in m ps ≡ Some (m ∷ ps)
put-first m [] h = refl
put-first m (x ∷ xs) h = rw h.0 refl

written : (k t : List ℕ) → list_all is_simple_byte k ≡ true → member_text (k, t) ≡ piece k t
written k t h = ap (λ l. 34 ∷ l) (append_assoc (escaped k) (34 ∷ []) (58 ∷ t) ∙ ap (λ s. s ++ 34 ∷ 58 ∷ t) (plain k h))

record Canonical (ms : Members) (ts : List (List ℕ)) : Type 0 where
  members : List Member
  texts : member_texts ms ≡ Some members
  ordered : in_order members ≡ Some members
  pieces : map member_text members ≡ ts
  below : (k : List ℕ) → IsBelow k ms → Below k members

canonical : (ms : Members) (ts : List (List ℕ)) → AreSimple ms → ArePieces forms.Canonical ms ts → Canonical ms ts
unfolding canonical_of
canonical no_members ts s h = record { members = []; texts = refl; ordered = refl; pieces = sym h; below = λ k b. tt }
canonical (member k d ms) ts s h =
    let r = canonical ms h.1 s.2 h.3 in
    let normal = nfc_text-IsAscii k s.0.0 in record {
      members = (k, h.0) ∷ r.members;
      texts = rw (h.2, r.texts, normal) refl;
      ordered = ap (option_and_then (put_in (k, h.0))) r.ordered ∙ put-first (k, h.0) r.members (r.below k s.1);
      pieces = ap₂ (λ t us. t ∷ us) (written k h.0 s.0.1) r.pieces ∙ sym h.4;
      below = λ j b. (b.0, r.below j b.1);
    }

canonical-object : (ms : Members) (ts : List (List ℕ)) → AreSimple ms → ArePieces forms.Canonical ms ts → canonical_of (object ms) ≡ Some (123 ∷ (joined ts ++ 125 ∷ []))
unfolding canonical_of
canonical-object ms ts s h =
    let r = canonical ms ts s h in
    ap (λ o. option_map object_text (option_and_then in_order o)) r.texts ∙ ap (option_map object_text) r.ordered ∙ ap (λ us. Some (123 ∷ (joined us ++ 125 ∷ []))) r.pieces

-- ---- compact JSON

unless : (b : Bool) (s t : List ℕ) → (if b then None else Some s) ≡ Some t → (b ≡ false) × (s ≡ t)
unless false s t h = (refl, cc)
unless true s t h = cc

said : (k s t rest : List ℕ) → list_all is_simple_byte k ≡ true → s ≡ t → print.quoted k ++ 58 ∷ (s ++ rest) ≡ piece k t ++ rest
said k s t rest h e = ap (λ l. 34 ∷ l) (append_assoc (escape k) (34 ∷ []) (58 ∷ (s ++ rest)) ∙ ap₂ (λ a b. a ++ 34 ∷ 58 ∷ (b ++ rest)) (shown k h) e ∙ sym (append_assoc k (34 ∷ 58 ∷ t) rest))

abbrev after : List (List ℕ) → List ℕ
after us = flat_map (λ u. 44 ∷ u) us ++ 125 ∷ []

later : (ms : Members) (ts : List (List ℕ)) → AreSimple ms → ArePieces forms.Compact ms ts → (members_have_float ms ≡ false) × (members_text true ms ≡ after ts)
later no_members ts s h = (refl, ap after (sym h))
later (member k d ms) ts s h =
    let p = unless (has_float d) (compact_text d) h.0 h.2 in
    let r = later ms h.1 s.2 h.3 in
    (rw (p.0, r.0) refl, ap (λ l. 44 ∷ l) (said k (compact_text d) h.0 (members_text true ms) s.0.1 p.1 ∙ ap (λ l. piece k h.0 ++ l) r.1 ∙ sym (append_assoc (piece k h.0) (flat_map (λ u. 44 ∷ u) h.1) (125 ∷ []))) ∙ ap after (sym h.4))

compact-object : (ms : Members) (ts : List (List ℕ)) → AreSimple ms → ArePieces forms.Compact ms ts → text_in forms.Compact (object ms) ≡ Some (123 ∷ (joined ts ++ 125 ∷ []))
compact-object no_members ts s h = ap (λ us. Some (123 ∷ (joined us ++ 125 ∷ []))) (sym h)
compact-object (member k d ms) ts s h =
    let p = unless (has_float d) (compact_text d) h.0 h.2 in
    let r = later ms h.1 s.2 h.3 in
    rw (p.0, r.0) (ap (λ l. Some (123 ∷ l)) (said k (compact_text d) h.0 (members_text true ms) s.0.1 p.1 ∙ ap (λ l. piece k h.0 ++ l) r.1 ∙ sym (append_assoc (piece k h.0) (flat_map (λ u. 44 ∷ u) h.1) (125 ∷ []))) ∙ ap (λ us. Some (123 ∷ (joined us ++ 125 ∷ []))) (sym h.4))

-- ---- the text that is both

agreed_at : (b : Bool) (s t u : List ℕ) → bytes_eq s t ≡ b → (if b then Some s else None) ≡ Some u → (Some s ≡ Some u) × (Some t ≡ Some u)
agreed_at true s t u is h = (h, ap Some (sym ((bytes_eq-Decides s t).0 is)) ∙ h)
agreed_at false s t u is h = absurd (cc h)

agreed-parts : (a b : Option (List ℕ)) (t : List ℕ) → agreed a b ≡ Some t → (a ≡ Some t) × (b ≡ Some t)
agreed-parts None b t h = absurd (cc h)
agreed-parts (Some s) None t h = absurd (cc h)
agreed-parts (Some s) (Some u) t h = agreed_at (bytes_eq s u) s u t refl h

agreed-same : (t : List ℕ) → agreed (Some t) (Some t) ≡ Some t
agreed-same t = rw ((bytes_eq-Decides t t).1 refl) refl

-- the text that is both is each of the two
pub both-parts : (d : Data) (t : List ℕ) → text_in forms.Both d ≡ Some t → (text_in forms.Canonical d ≡ Some t) × (text_in forms.Compact d ≡ Some t)
both-parts d t h = agreed-parts (canonical_of d) (compact_of d) t h

pieces-canonical : (ms : Members) (ts : List (List ℕ)) → ArePieces forms.Both ms ts → ArePieces forms.Canonical ms ts
pieces-canonical no_members ts h = h
pieces-canonical (member k d ms) ts h = (h.0, h.1, (both-parts d h.0 h.2).0, pieces-canonical ms h.1 h.3, h.4)

pieces-compact : (ms : Members) (ts : List (List ℕ)) → ArePieces forms.Both ms ts → ArePieces forms.Compact ms ts
pieces-compact no_members ts h = h
pieces-compact (member k d ms) ts h = (h.0, h.1, (both-parts d h.0 h.2).1, pieces-compact ms h.1 h.3, h.4)

both-object : (ms : Members) (ts : List (List ℕ)) → AreSimple ms → ArePieces forms.Both ms ts → text_in forms.Both (object ms) ≡ Some (123 ∷ (joined ts ++ 125 ∷ []))
both-object ms ts s h =
    let t = 123 ∷ (joined ts ++ 125 ∷ []) in
    let canonical : canonical_of (object ms) ≡ Some t = canonical-object ms ts s (pieces-canonical ms ts h) in
    let compact : compact_of (object ms) ≡ Some t = compact-object ms ts s (pieces-compact ms ts h) in
    ap₂ agreed canonical compact ∙ agreed-same t

object-text : (form : Form) (ms : Members) (ts : List (List ℕ)) → AreSimple ms → ArePieces form ms ts → text_in form (object ms) ≡ Some (123 ∷ (joined ts ++ 125 ∷ []))
object-text forms.Canonical ms ts s h = canonical-object ms ts s h
object-text forms.Compact ms ts s h = compact-object ms ts s h
object-text forms.Both ms ts s h = both-object ms ts s h

-- ---- one more member

below-last : (k : List ℕ) (ms : Members) (n : List ℕ) (d : Data) → IsBelow k ms → slice_cmp nat_cmp k n ≡ Less → IsBelow k (and_last ms n d)
below-last k no_members n d h less = (less, tt)
below-last k (member l e ms) n d h less = (h.0, below-last k ms n d h.1 less)

simple-last : (ms : Members) (n : List ℕ) (d : Data) → AreSimple ms → IsSimple n → AreBelow n ms → AreSimple (and_last ms n d)
simple-last no_members n d s here below = (here, tt, tt)
simple-last (member k e ms) n d s here below = (s.0, below-last k ms n d s.1 below.0, simple-last ms n d s.2 here below.1)

above-last : (m : List ℕ) (ms : Members) (n : List ℕ) (d : Data) → AreBelow n ms → slice_cmp nat_cmp n m ≡ Less → AreBelow m (and_last ms n d)
above-last m no_members n d below less = (less, tt)
above-last m (member k e ms) n d below less = (nat_list_cmp_total.trans k n m below.0 less, above-last m ms n d below.1 less)

pieces-last : (form : Form) (ms : Members) (ts : List (List ℕ)) (n : List ℕ) (d : Data) (t : List ℕ) → ArePieces form ms ts → text_in form d ≡ Some t → ArePieces form (and_last ms n d) (ts ++ piece n t ∷ [])
pieces-last form no_members ts n d t h is = (t, [], is, refl, ap (λ us. us ++ piece n t ∷ []) h)
pieces-last form (member k e ms) ts n d t h is = (h.0, h.1 ++ piece n t ∷ [], h.2, pieces-last form ms h.1 n d t h.3 is, ap (λ us. us ++ piece n t ∷ []) h.4)

none-is_nil : (ts : List (List ℕ)) → is_none_yet ts ≡ is_nil ts
none-is_nil [] = refl
none-is_nil (t ∷ ts) = refl

some-more : (ts : List (List ℕ)) (t : List ℕ) → false ≡ is_none_yet (ts ++ t ∷ [])
some-more [] t = refl
some-more (u ∷ ts) t = refl

-- a member's text is its beginning, with the value's text behind it
piece-begun : (n t : List ℕ) → piece n [] ++ t ≡ piece n t
piece-begun n t = ap (λ l. 34 ∷ l) (append_assoc n (34 ∷ 58 ∷ []) t)

text-more : (base : List ℕ) (ts : List (List ℕ)) (n t before after : List ℕ) → before ≡ (base ++ 123 ∷ joined ts) ++ (comma_unless (is_none_yet ts) ++ piece n []) → after ≡ before ++ t → after ≡ base ++ 123 ∷ joined (ts ++ piece n t ∷ [])
text-more base ts n t before after e g =
    let old = base ++ 123 ∷ joined ts in
    let comma = comma_unless (is_none_yet ts) in
    g ∙ ap (λ l. l ++ t) e ∙ append_assoc old (comma ++ piece n []) t
    ∙ ap (λ l. old ++ l) (append_assoc comma (piece n []) t ∙ ap₂ (λ b l. comma_unless b ++ l) (none-is_nil ts) (piece-begun n t))
    ∙ piece_more base 123 ts (piece n t)

-- the name is written
pub named-next : (base : List ℕ) (form : Form) (ms : Members) (n : List ℕ) (o : ObjectText) (kind : Form) (last : String Global) (text : List ℕ) → Stands base form ms o → IsSimple n → slice_cmp nat_cmp (string_bytes o.last) n ≡ Less
    → kind ≡ o.form → string_bytes last ≡ n → text ≡ o.text.items ++ (comma_unless o.is_first ++ piece n []) → AreBelow n ms × IsNamed base form ms n kind last text
named-next base form ms n o kind last text s here less same named written =
    let below = s.above n less in (
      below,
      record {
        same = same ∙ s.kind;
        simple = s.simple;
        here = here;
        below = below;
        named = named;
        pieces = s.pieces;
        told = s.told;
        written = written ∙ ap₂ (λ a b. a ++ (comma_unless b ++ piece n [])) s.text s.first;
      },
    )

-- and the value behind it
pub stands-last : (base : List ℕ) (form : Form) (ms : Members) (n : List ℕ) (d : Data) (kind : Form) (last : String Global) (before : List ℕ) (p : ObjectText) → IsNamed base form ms n kind last before → Appends before (text_in form d) p.text.items
    → p.form ≡ kind → string_bytes p.last ≡ string_bytes last → p.is_first ≡ false → Stands base form (and_last ms n d) p
stands-last base form ms n d kind last before p s told same named first = record {
  kind = same ∙ s.same;
  simple = simple-last ms n d s.simple s.here s.below;
  above = λ m more. above-last m ms n d s.below (ap (λ l. slice_cmp nat_cmp l m) (sym (named ∙ s.named)) ∙ more);
  pieces = s.pieces ++ piece n told.0 ∷ [];
  told = pieces-last form ms s.pieces n d told.0 s.told told.1;
  text = text-more base s.pieces n told.0 before p.text.items s.written told.2;
  first = first ∙ some-more s.pieces (piece n told.0);
}

-- a member whose name is above the others is put at their end
last-free : (n : List ℕ) (ms : Members) → AreBelow n ms → get_member n ms ≡ None
last-free n no_members h = refl
last-free n (member k e ms) h =
    let above : slice_cmp nat_cmp n k ≡ Greater = nat_list_cmp_total.antisymm n k ∙ ap ordering_reverse h.0 in rw above (last-free n ms h.1)

put-last : (n : List ℕ) (d : Data) (ms : Members) → AreBelow n ms → put n d ms ≡ and_last ms n d
put-last n d no_members h = refl
put-last n d (member k e ms) h =
    let above : slice_cmp nat_cmp n k ≡ Greater = nat_list_cmp_total.antisymm n k ∙ ap ordering_reverse h.0 in rw above (ap (member k e) (put-last n d ms h.1))

pub with-last : (n : List ℕ) (d : Data) (ms : Members) → AreBelow n ms → with n d ms ≡ Some (and_last ms n d)
with-last n d ms h = rw (last-free n ms h, put-last n d ms h) refl

-- ---- a member in the place of another

pub replaced-last : (n : List ℕ) (x : Data) (es : List Entry) (e : Entry) → replaced n x (members_view (es ++ e ∷ [])) ≡ and_last (replaced n x (members_view es)) (string_bytes e.0) (if bytes_eq (string_bytes e.0) n then x else view e.1)
replaced-last n x [] e = refl
replaced-last n x (f ∷ fs) e = ap (member (string_bytes f.0) (if bytes_eq (string_bytes f.0) n then x else view f.1)) (replaced-last n x fs e)

same-name : (k l : List ℕ) → slice_cmp nat_cmp k l ≡ Equal → k ≡ l
same-name k l h = (bytes_eq-Decides k l).0 (sym (is_eq-slice_cmp k l) ∙ ap is_eq h)

get-replaced_at : (o : Ordering) (k l n : List ℕ) (x e : Data) (a b : Option Data) → slice_cmp nat_cmp k l ≡ o → bytes_eq k n ≡ false → a ≡ b
    → match_ordering o a (Some (if bytes_eq l n then x else e)) a ≡ match_ordering o b (Some e) b
get-replaced_at Less k l n x e a b is apart h = h
get-replaced_at Equal k l n x e a b is apart h = let other : bytes_eq l n ≡ false = ap (λ m. bytes_eq m n) (sym (same-name k l is)) ∙ apart in rw other refl
get-replaced_at Greater k l n x e a b is apart h = h

get-replaced : (k n : List ℕ) (x : Data) (ms : Members) → bytes_eq k n ≡ false → get_member k (replaced n x ms) ≡ get_member k ms
get-replaced k n x no_members apart = refl
get-replaced k n x (member l e ms) apart = get-replaced_at (slice_cmp nat_cmp k l) k l n x e (get_member k (replaced n x ms)) (get_member k ms) refl apart (get-replaced k n x ms apart)

put-replaced_at : (o : Ordering) (k l n : List ℕ) (d x e : Data) (ms a b : Members) → slice_cmp nat_cmp k l ≡ o → bytes_eq k n ≡ false → a ≡ replaced n x b
    → match_ordering o (member k d (replaced n x (member l e ms))) (member l d (replaced n x ms)) (member l (if bytes_eq l n then x else e) a) ≡ replaced n x (match_ordering o (member k d (member l e ms)) (member l d ms) (member l e b))
put-replaced_at Less k l n d x e ms a b is apart h = rw apart refl
put-replaced_at Equal k l n d x e ms a b is apart h = let other : bytes_eq l n ≡ false = ap (λ m. bytes_eq m n) (sym (same-name k l is)) ∙ apart in rw other refl
put-replaced_at Greater k l n d x e ms a b is apart h = ap (member l (if bytes_eq l n then x else e)) h

put-replaced : (k n : List ℕ) (d x : Data) (ms : Members) → bytes_eq k n ≡ false → put k d (replaced n x ms) ≡ replaced n x (put k d ms)
put-replaced k n d x no_members apart = rw apart refl
put-replaced k n d x (member l e ms) apart = put-replaced_at (slice_cmp nat_cmp k l) k l n d x e ms (put k d (replaced n x ms)) (put k d ms) refl apart (put-replaced k n d x ms apart)

-- another member is put in beside it
pub with-replaced : (k n : List ℕ) (d x : Data) (ms new : Members) → bytes_eq k n ≡ false → with k d ms ≡ Some new → with k d (replaced n x ms) ≡ Some (replaced n x new)
with-replaced k n d x ms new apart h =
    let free = if_free-ok (get_member k ms) (put k d ms) new h in
    rw (get-replaced k n x ms apart, free.0, put-replaced k n d x ms apart, free.1) refl

differ : (o : Ordering) (n l : List ℕ) → slice_cmp nat_cmp n l ≡ o → is_eq (ordering_reverse o) ≡ false → bytes_eq l n ≡ false
differ o n l is apart = sym (is_eq-slice_cmp l n) ∙ ap is_eq (nat_list_cmp_total.antisymm l n ∙ ap ordering_reverse is) ∙ apart

absent_at : (o : Ordering) (n l : List ℕ) (x e : Data) (ms : Members) → slice_cmp nat_cmp n l ≡ o → match_ordering o (get_member n ms) (Some e) (get_member n ms) ≡ None → (get_member n ms ≡ None → replaced n x ms ≡ ms) → replaced n x (member l e ms) ≡ member l e ms
absent_at Less n l x e ms is h more = let other = differ Less n l is refl in rw (other, more h) refl
absent_at Equal n l x e ms is h more = cc
absent_at Greater n l x e ms is h more = let other = differ Greater n l is refl in rw (other, more h) refl

absent : (n : List ℕ) (x : Data) (ms : Members) → get_member n ms ≡ None → replaced n x ms ≡ ms
absent n x no_members h = refl
absent n x (member l e ms) h = absent_at (slice_cmp nat_cmp n l) n l x e ms refl h (absent n x ms)

itself : (n : List ℕ) → bytes_eq n n ≡ true
itself n = (bytes_eq-Decides n n).1 refl

place_at : (o : Ordering) (n l : List ℕ) (d x e : Data) (ms : Members) → slice_cmp nat_cmp n l ≡ o → match_ordering o (get_member n ms) (Some e) (get_member n ms) ≡ None → (get_member n ms ≡ None → replaced n x (put n d ms) ≡ put n x ms)
    → replaced n x (match_ordering o (member n d (member l e ms)) (member l d ms) (member l e (put n d ms))) ≡ match_ordering o (member n x (member l e ms)) (member l x ms) (member l e (put n x ms))
place_at Less n l d x e ms is h more = let other = differ Less n l is refl in rw (itself n, other, absent n x ms h) refl
place_at Equal n l d x e ms is h more = cc
place_at Greater n l d x e ms is h more = let other = differ Greater n l is refl in rw (other, more h) refl

place : (n : List ℕ) (d x : Data) (ms : Members) → get_member n ms ≡ None → replaced n x (put n d ms) ≡ put n x ms
place n d x no_members h = rw itself refl
place n d x (member l e ms) h = place_at (slice_cmp nat_cmp n l) n l d x e ms refl h (place n d x ms)

-- the member itself, with another value
pub with-place : (n : List ℕ) (d x : Data) (ms new : Members) → with n d ms ≡ Some new → with n x ms ≡ Some (replaced n x new)
with-place n d x ms new h =
    let free = if_free-ok (get_member n ms) (put n d ms) new h in
    rw (free.0, ← free.1, place n d x ms free.0) refl

pub finished : (base : List ℕ) (form : Form) (ms : Members) (o : ObjectText) (text : List ℕ) → Stands base form ms o → text ≡ o.text.items ++ 125 ∷ [] → Appends base (text_in form (object ms)) text
finished base form ms o text s e = (
  123 ∷ (joined s.pieces ++ 125 ∷ []),
  object-text form ms s.pieces s.simple s.told,
  e ∙ ap (λ l. l ++ 125 ∷ []) s.text ∙ append_assoc base (123 ∷ joined s.pieces) (125 ∷ []),
)

canonical-quoted : (s : List ℕ) → IsSimple s → canonical_of (string s) ≡ Some (34 ∷ (s ++ 34 ∷ []))
unfolding canonical_of
canonical-quoted s h = ap (λ l. Some (34 ∷ (escaped l ++ 34 ∷ []))) (nfc_text-IsAscii s h.0) ∙ ap (λ l. Some (34 ∷ (l ++ 34 ∷ []))) (plain s h.1)

compact-quoted : (s : List ℕ) → IsSimple s → compact_of (string s) ≡ Some (34 ∷ (s ++ 34 ∷ []))
compact-quoted s h = ap (λ l. Some (34 ∷ (l ++ 34 ∷ []))) (shown s h.1)

-- a text that stands in quotes as it is
pub quoted-text : (form : Form) (s : List ℕ) → IsSimple s → text_in form (string s) ≡ Some (34 ∷ (s ++ 34 ∷ []))
quoted-text forms.Canonical s h = canonical-quoted s h
quoted-text forms.Compact s h = compact-quoted s h
quoted-text forms.Both s h = ap₂ agreed (canonical-quoted s h) (compact-quoted s h) ∙ agreed-same (34 ∷ (s ++ 34 ∷ []))

pub quoted-behind : (o s a b p : List ℕ) → a ≡ o ++ 34 ∷ [] → b ≡ a ++ s → p ≡ b ++ 34 ∷ [] → p ≡ o ++ 34 ∷ (s ++ 34 ∷ [])
quoted-behind o s a b p e f g = g ∙ ap (λ l. l ++ 34 ∷ []) (f ∙ ap (λ l. l ++ s) e) ∙ append_assoc (o ++ 34 ∷ []) s (34 ∷ []) ∙ append_assoc o (34 ∷ []) (s ++ 34 ∷ [])

-- begun behind no text
pub from-none : (o : Option (List ℕ)) (t : List ℕ) → Appends [] o t → o ≡ Some t
from-none o t h = h.1 ∙ ap Some (sym h.2)

greater : (o : Ordering) → is_le o ≡ false → o ≡ Greater
greater Less h = cc
greater Equal h = cc
greater Greater h = refl

pub below-from : (l n : List ℕ) → is_le (slice_cmp nat_cmp n l) ≡ false → slice_cmp nat_cmp l n ≡ Less
below-from l n h = nat_list_cmp_total.antisymm l n ∙ ap ordering_reverse (greater (slice_cmp nat_cmp n l) h)

pub if_ok : {A E P Q : Type 0} (r : Result A E) → (P → Q) → OnOk r P → OnOk r Q
if_ok (Ok a) f h = f h
if_ok (Err e) f h = h

pub replaced-same : (n : List ℕ) (x : Data) (es : List Entry) (e : Entry) → bytes_eq (string_bytes e.0) n ≡ true → replaced n x (members_view (es ++ e ∷ [])) ≡ and_last (replaced n x (members_view es)) n x
replaced-same n x es e h =
    replaced-last n x es e ∙ ap (λ b. and_last (replaced n x (members_view es)) (string_bytes e.0) (if b then x else view e.1)) h
    ∙ ap (λ l. and_last (replaced n x (members_view es)) l x) ((bytes_eq-Decides (string_bytes e.0) n).0 h)

pub replaced-other : (n : List ℕ) (x : Data) (es : List Entry) (e : Entry) → bytes_eq (string_bytes e.0) n ≡ false → replaced n x (members_view (es ++ e ∷ [])) ≡ and_last (replaced n x (members_view es)) (string_bytes e.0) (view e.1)
replaced-other n x es e h = replaced-last n x es e ∙ ap (λ b. and_last (replaced n x (members_view es)) (string_bytes e.0) (if b then x else view e.1)) h
