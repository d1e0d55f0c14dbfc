-- What signatures add to a role's JSON can always be written.
use Rattle.std.proofs.Common.{◌≡◌, ℕ, Bool, true, false, List, [], ◌∷◌, codes, Option, Some, None, Ok, option_and_then, if◌then◌else◌, ◌++◌, ◌-◌, length, take, drop, refl, sym, ap, ap₂, ◌∙◌}
use Rattle.std.proofs.lemmas.Slice.Eq.{bytes_eq-Decides}
use Rattle.std.proofs.lemmas.List.{take_rest}
use Rattle.tough_decoded.specs.Spelled.{Spelled, hex_bytes}
use Rattle.serde_json.specs.Data.{Data, string, array, object, Items, no_items, item, no_members, member}
use Rattle.serde_json.specs.Written.{has_float, items_have_float, compact_text}
use Rattle.tough_json.specs.CanonicalText.{canonical_of}
use Rattle.tough_json.specs.Pieces.{text_in}
use Rattle.tough_json.specs.declared.pieces.Form.{Form}
use Rattle.tough_json.specs.declared.pieces.Form.TheVariants as forms
use Rattle.tough_json.specs.Reading.{◌>>=◌}
use Rattle.tough_json.specs.Writing.{with, stands_for, hexadecimal_json, all_json}
use Rattle.tough_json.proofs.lemmas.Computed.{Canon-computed, then_some}
use Rattle.tough_json.proofs.lemmas.Exactness.{accepted}
use Rattle.tough_json.proofs.lemmas.Write.{bind_ok, some-inj}
use Rattle.tough_keys.specs.Same.{Verifies}
use Rattle.tough_roles.specs.Policy.{Policy}
use Rattle.tough_roles.specs.Verdict.{Refused, verdict}
use Rattle.tough_roles.specs.declared.role_type.RoleType.{RoleType}
use Rattle.tough_roles.specs.Signature.{SignatureDoc, signature_json, signed_parts_json, IsSpelled, AreSpelled}

-- ---- no float in signatures

digits_at : (t : List ℕ) (b : Bool) (x : Data) → (if b then Some (string t) else None) ≡ Some x → Some (string t) ≡ Some x
digits_at t true x h = h
digits_at t false x h = cc

digits-are : (s : Spelled) (x : Data) → hexadecimal_json s ≡ Some x → hexadecimal_json s ≡ Some (string s.spelling)
digits-are s x h = h ∙ sym (digits_at s.spelling (stands_for (hex_bytes s.spelling) s.bytes) x h)

-- the JSON of a signature with these spellings
abbrev signature_of : SignatureDoc → Data
signature_of s = object (member (codes "keyid") (string s.keyid.spelling) (member (codes "sig") (string s.sig.spelling) no_members))

signature-is : (s : SignatureDoc) → hexadecimal_json s.sig ≡ Some (string s.sig.spelling) → hexadecimal_json s.keyid ≡ Some (string s.keyid.spelling) → signature_json s ≡ Some (signature_of s)
unfolding signature_json
signature-is s sig keyid = rw (sig, keyid) refl

signature-plain : (s : SignatureDoc) (d : Data) → signature_json s ≡ Some d → has_float d ≡ false
unfolding signature_json
signature-plain s d w =
    let a = bind_ok (hexadecimal_json s.sig) (λ x. with (codes "sig") x no_members >>= λ m. hexadecimal_json s.keyid >>= λ id. with (codes "keyid") id m >>= λ ms. Some (object ms)) d w in
    let b = bind_ok (with (codes "sig") a.0 no_members) (λ m. hexadecimal_json s.keyid >>= λ id. with (codes "keyid") id m >>= λ ms. Some (object ms)) d a.2 in
    let c = bind_ok (hexadecimal_json s.keyid) (λ id. with (codes "keyid") id b.0 >>= λ ms. Some (object ms)) d b.2 in
    ap has_float (some-inj (sym w ∙ signature-is s (digits-are s.sig a.0 a.1) (digits-are s.keyid c.0 c.1)))

all-plain : (ss : List SignatureDoc) (ds : Items) → all_json signature_json ss ≡ Some ds → items_have_float ds ≡ false
unfolding all_json
all-plain [] ds w = ap items_have_float (sym (some-inj w))
all-plain (s ∷ ss) ds w =
    let a = bind_ok (signature_json s) (λ d. all_json signature_json ss >>= λ rest. Some (item d rest)) ds w in
    let b = bind_ok (all_json signature_json ss) (λ rest. Some (item a.0 rest)) ds a.2 in
    ap items_have_float (sym (some-inj b.2)) ∙ rw (signature-plain s a.0 a.1) (all-plain ss b.0 b.1)

-- the JSON of a document of these parts
abbrev document_of : Data → Items → Data
document_of role items = object (member (codes "signatures") (array items) (member (codes "signed") role no_members))

document-is : (role : Data) (ss : List SignatureDoc) (items : Items) → all_json signature_json ss ≡ Some items → signed_parts_json role ss ≡ Some (document_of role items)
unfolding signed_parts_json
document-is role ss items w = rw w refl

-- the text of a document of these parts is that of the document
pub signed-text : (form : Form) (o : Option Data) (d : Data) (ss : List SignatureDoc) (items : Items) (t : List ℕ) → o ≡ Some d → all_json signature_json ss ≡ Some items → text_in form (document_of d items) ≡ Some t
    → option_and_then (text_in form) (o >>= λ role. signed_parts_json role ss) ≡ Some t
signed-text form o d ss items t is w h = ap (λ x. option_and_then (text_in form) (x >>= λ role. signed_parts_json role ss)) is ∙ ap (option_and_then (text_in form)) (document-is d ss items w) ∙ h

document-plain : (role : Data) (items : Items) → has_float role ≡ false → items_have_float items ≡ false → has_float (document_of role items) ≡ false
document-plain role items f g = rw (g, f) refl

parts-plain : (role : Data) (ss : List SignatureDoc) (d : Data) → signed_parts_json role ss ≡ Some d → has_float role ≡ false → has_float d ≡ false
unfolding signed_parts_json
parts-plain role ss d w f =
    let a = bind_ok (all_json signature_json ss) (λ ds. with (codes "signatures") (array ds) no_members >>= λ m. with (codes "signed") role m >>= λ ms. Some (object ms)) d w in
    ap has_float (some-inj (sym w ∙ document-is role ss a.0 a.1)) ∙ document-plain role a.0 f (all-plain ss a.0 a.1)

-- a float of the document is one of the role
float_at : (role : Data) (ss : List SignatureDoc) (d : Data) (b : Bool) → has_float role ≡ b → signed_parts_json role ss ≡ Some d → has_float d ≡ true → (if b then None else Some (compact_text role)) ≡ None
float_at role ss d true f w h = refl
float_at role ss d false f w h = let none : true ≡ false = sym h ∙ parts-plain role ss d w f in cc

pub role-floats : (o : Option Data) (ss : List SignatureDoc) (d : Data) → (o >>= λ role. signed_parts_json role ss) ≡ Some d → has_float d ≡ true → option_and_then (text_in forms.Compact) o ≡ None
role-floats None ss d w h = refl
role-floats (Some role) ss d w h = float_at role ss d (has_float role) refl w h

-- what stands behind the text before it
drop-behind : (before role : List ℕ) → drop (length before) (before ++ role) ≡ role
drop-behind [] role = refl
drop-behind (b ∷ bs) role = drop-behind bs role

pub role-behind : (before role text : List ℕ) (at : ℕ) → at ≡ length before → text ≡ before ++ role → take (length text - at) (drop at text) ≡ role
role-behind before role text at is whole = take_rest text at ∙ ap₂ drop is whole ∙ drop-behind before role

-- ---- what was verified can be written

digits-some : (s : Spelled) → IsSpelled s → hexadecimal_json s ≡ Some (string s.spelling)
digits-some s h = rw (h, (bytes_eq-Decides s.bytes s.bytes).1 refl) refl

all-some : (ss : List SignatureDoc) → AreSpelled ss → (items : Items) × (all_json signature_json ss ≡ Some items)
unfolding all_json
all-some [] h = (no_items, refl)
all-some (s ∷ ss) h = let r = all-some ss h.2 in (item (signature_of s) r.0, rw (signature-is s (digits-some s.sig h.1) (digits-some s.keyid h.0), r.1) refl)

verdict-text : (v : Verifies) (absent : Refused) (type : RoleType) (p : Option Policy) (text : Option (List ℕ)) (ss : List SignatureDoc) → verdict v absent type p text ss ≡ Ok tt → (t : List ℕ) × (text ≡ Some t)
unfolding verdict
verdict-text v absent type None text ss h = cc
verdict-text v absent type (Some p) None ss h = cc
verdict-text v absent type (Some p) (Some t) ss h = (t, refl)

-- what was verified holds no float
pub verified-plain : (v : Verifies) (absent : Refused) (type : RoleType) (p : Option Policy) (o : Option Data) (ss : List SignatureDoc) → verdict v absent type p (option_and_then canonical_of o) ss ≡ Ok tt → (d : Data) × (o ≡ Some d) × (has_float d ≡ false)
verified-plain v absent type p o ss h =
    let t = verdict-text v absent type p (option_and_then canonical_of o) ss h in
    let d = then_some canonical_of o t.0 t.1 in
    (d.0, d.1, (accepted d.0 t.0 (Canon-computed d.0 t.0 d.2)).0)

text-at : (o : Option Data) (d : Data) → o ≡ Some d → has_float d ≡ false → option_and_then (text_in forms.Compact) o ≡ Some (compact_text d)
text-at o d e f = rw (e, f) refl

pub verified-text : (v : Verifies) (absent : Refused) (type : RoleType) (p : Option Policy) (o : Option Data) (ss : List SignatureDoc) → verdict v absent type p (option_and_then canonical_of o) ss ≡ Ok tt → (t : List ℕ) × (option_and_then (text_in forms.Compact) o ≡ Some t)
verified-text v absent type p o ss h = let d = verified-plain v absent type p o ss h in (compact_text d.0, text-at o d.0 d.1 d.2)

pub verified-written : (v : Verifies) (absent : Refused) (type : RoleType) (p : Option Policy) (o : Option Data) (ss : List SignatureDoc) → verdict v absent type p (option_and_then canonical_of o) ss ≡ Ok tt → AreSpelled ss
    → (t : List ℕ) × (option_and_then (text_in forms.Compact) (o >>= λ role. signed_parts_json role ss) ≡ Some t)
verified-written v absent type p o ss h spelled =
    let d = verified-plain v absent type p o ss h in
    let items = all-some ss spelled in
    let plain = document-plain d.0 items.0 d.2 (all-plain ss items.0 items.1) in
    let is = ap (λ x. x >>= λ role. signed_parts_json role ss) d.1 ∙ document-is d.0 ss items.0 items.1 in
    (compact_text (document_of d.0 items.0), text-at (o >>= λ role. signed_parts_json role ss) (document_of d.0 items.0) is plain)
