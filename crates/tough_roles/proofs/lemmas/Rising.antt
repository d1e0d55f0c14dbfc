-- Members whose names rise, and what is put among them.
use Rattle.std.proofs.Common.{◌≡◌, ℕ, List, [], ◌∷◌, Bool, true, false, Ordering, Less, Equal, Greater, nat_cmp, codes, if◌then◌else◌, Some, None, String, string_bytes, refl, ap, ◌∙◌, subst}
use Rattle.std.proofs.lemmas.Cmp.{nat_list_cmp_total}
use Rattle.std.specs.Cmp.Lexicographic.{slice_cmp}
use Rattle.std.specs.declared.alloc.Global.{Global}
use Rattle.std.specs.List.{AllByRecursion}
use Rattle.std.specs.List.Sorted.{IsStrictlySortedBy}
use Rattle.std.specs.Map.{keys_of}
use Rattle.std.specs.Ordering.{match_ordering, ordering_reverse}
use Rattle.std.specs.Str.{bytes_eq}
use Rattle.std.specs.String.{string_cmp}
use Rattle.tough_decoded.specs.Spelled.{Spelled, hex_bytes}
use Rattle.serde_json.specs.Data.{Data, string, array, object, Items, item, Members, no_members, member, put}
use Rattle.serde_json.specs.Find.{get_member}
use Rattle.serde_json.specs.View.{members_view}
use Rattle.serde_json.proofs.Views.{Entry}
use Rattle.tough_json.specs.Pieces.{IsBelow, replaced}
use Rattle.tough_json.specs.Reading.{◌>>=◌}
use Rattle.tough_json.specs.Writing.{with, hexadecimal_json, all_json, stands_for}
use Rattle.tough_json.proofs.lemmas.Write.{bind_ok, some-inj, if_free-ok}
use Rattle.tough_roles.specs.Orderly.{IsOrderly, AreOrderly, HasOrder, HasOrderly}
use Rattle.tough_roles.specs.Signature.{SignatureDoc, signature_json, signed_parts_json}

-- ---- the members of a program

below-rest : (k : String Global) (es : List Entry) → AllByRecursion (λ l. string_cmp k l ≡ Less) (keys_of es) → IsBelow (string_bytes k) (members_view es)
below-rest k [] h = tt
below-rest k (e ∷ es) h = (h.0, below-rest k es h.1)

pub sorted-order : (es : List Entry) → IsStrictlySortedBy string_cmp (keys_of es) → HasOrderly (members_view es) → HasOrder (members_view es)
unfolding IsStrictlySortedBy
sorted-order [] s h = tt
sorted-order (e ∷ es) s h = (below-rest e.0 es s.0, h.0, sorted-order es s.1 h.1)

-- ---- one more member

below-put : (n k : List ℕ) (d : Data) (ms : Members) → slice_cmp nat_cmp n k ≡ Less → IsBelow n ms → IsBelow n (put k d ms)
below-put n k d no_members h b = (h, tt)
below-put n k d (member l e ms) h b = by (slice_cmp nat_cmp k l) (below-put n k d ms h b.1)
  where
    by : (o : Ordering) → IsBelow n (put k d ms) → IsBelow n (match_ordering o (member k d (member l e ms)) (member l d ms) (member l e (put k d ms)))
    by Less later = (h, b)
    by Equal later = (b.0, b.1)
    by Greater later = (b.0, later)

below-all : (n k : List ℕ) (ms : Members) → slice_cmp nat_cmp n k ≡ Less → IsBelow k ms → IsBelow n ms
below-all n k no_members h b = tt
below-all n k (member l e ms) h b = (nat_list_cmp_total.trans n k l h b.0, below-all n k ms h b.1)

pub put-order : (k : List ℕ) (d : Data) (ms : Members) → IsOrderly d → HasOrder ms → HasOrder (put k d ms)
put-order k d no_members o h = (tt, o, tt)
put-order k d (member l e ms) o h = by (slice_cmp nat_cmp k l) refl (put-order k d ms o h.2)
  where
    by : (c : Ordering) → slice_cmp nat_cmp k l ≡ c → HasOrder (put k d ms) → HasOrder (match_ordering c (member k d (member l e ms)) (member l d ms) (member l e (put k d ms)))
    by Less is later = ((is, below-all k l ms is h.0), o, h)
    by Equal is later = (h.0, o, h.2)
    by Greater is later = (below-put l k d ms (nat_list_cmp_total.antisymm l k ∙ ap ordering_reverse is) h.0, h.1, later)

pub with-order : (k : List ℕ) (d : Data) (ms new : Members) → with k d ms ≡ Some new → IsOrderly d → HasOrder ms → HasOrder new
with-order k d ms new w o h = subst HasOrder (if_free-ok (get_member k ms) (put k d ms) new w).1 (put-order k d ms o h)

below-replaced : (k n : List ℕ) (x : Data) (ms : Members) → IsBelow k ms → IsBelow k (replaced n x ms)
below-replaced k n x no_members h = tt
below-replaced k n x (member l d ms) h = (h.0, below-replaced k n x ms h.1)

either-orderly : (b : Bool) (x d : Data) → IsOrderly x → IsOrderly d → IsOrderly (if b then x else d)
either-orderly true x d o p = o
either-orderly false x d o p = p

pub replaced-order : (n : List ℕ) (x : Data) (ms : Members) → IsOrderly x → HasOrder ms → HasOrder (replaced n x ms)
replaced-order n x no_members o h = tt
replaced-order n x (member k d ms) o h = (below-replaced k n x ms h.0, either-orderly (bytes_eq k n) x d o h.1, replaced-order n x ms o h.2)

-- ---- a signed document

digits-at : (s : List ℕ) (d : Data) (b : Bool) → (if b then Some (string s) else None) ≡ Some d → IsOrderly d
digits-at s d true h = subst IsOrderly (some-inj h) tt
digits-at s d false h = cc

pub digits-orderly : (s : Spelled) (d : Data) → hexadecimal_json s ≡ Some d → IsOrderly d
digits-orderly s d h = digits-at s.spelling d (stands_for (hex_bytes s.spelling) s.bytes) h

signature-orderly : (s : SignatureDoc) (d : Data) → signature_json s ≡ Some d → IsOrderly d
unfolding signature_json
signature-orderly s d w =
    let a = bind_ok (hexadecimal_json s.sig) (λ x. with (codes "sig") x no_members >>= λ m. hexadecimal_json s.keyid >>= λ id. with (codes "keyid") id m >>= λ ms. Some (object ms)) d w in
    let b = bind_ok (with (codes "sig") a.0 no_members) (λ m. hexadecimal_json s.keyid >>= λ id. with (codes "keyid") id m >>= λ ms. Some (object ms)) d a.2 in
    let c = bind_ok (hexadecimal_json s.keyid) (λ id. with (codes "keyid") id b.0 >>= λ ms. Some (object ms)) d b.2 in
    let e = bind_ok (with (codes "keyid") c.0 b.0) (λ ms. Some (object ms)) d c.2 in
    subst IsOrderly (some-inj e.2)
    (with-order (codes "keyid") c.0 b.0 e.0 e.1 (digits-orderly s.keyid c.0 c.1) (with-order (codes "sig") a.0 no_members b.0 b.1 (digits-orderly s.sig a.0 a.1) tt))

signatures-orderly : (ss : List SignatureDoc) (ds : Items) → all_json signature_json ss ≡ Some ds → AreOrderly ds
unfolding all_json
signatures-orderly [] ds w = subst AreOrderly (some-inj w) tt
signatures-orderly (s ∷ ss) ds w =
    let a = bind_ok (signature_json s) (λ d. all_json signature_json ss >>= λ rest. Some (item d rest)) ds w in
    let b = bind_ok (all_json signature_json ss) (λ rest. Some (item a.0 rest)) ds a.2 in
    subst AreOrderly (some-inj b.2) (signature-orderly s a.0 a.1, signatures-orderly ss b.0 b.1)

pub document-orderly : (role : Data) (ss : List SignatureDoc) (d : Data) → signed_parts_json role ss ≡ Some d → IsOrderly role → IsOrderly d
unfolding signed_parts_json
document-orderly role ss d w o =
    let a = bind_ok (all_json signature_json ss) (λ ds. with (codes "signatures") (array ds) no_members >>= λ m. with (codes "signed") role m >>= λ ms. Some (object ms)) d w in
    let b = bind_ok (with (codes "signatures") (array a.0) no_members) (λ m. with (codes "signed") role m >>= λ ms. Some (object ms)) d a.2 in
    let c = bind_ok (with (codes "signed") role b.0) (λ ms. Some (object ms)) d b.2 in
    subst IsOrderly (some-inj c.2) (with-order (codes "signed") role b.0 c.0 c.1 o (with-order (codes "signatures") (array a.0) no_members b.0 b.1 (signatures-orderly ss a.0 a.1) tt))
