-- The comparison of keys answers whether what makes them equal is the same.
use Rattle.std.proofs.Common.{◌≡◌, ℕ, ℤ, List, Bool, true, false, ◌&&◌, nat_eq, refl, sym, ap, ◌∙◌, arith, subst}
use Rattle.std.proofs.lemmas.Bool.Decides.{nat_tests}
use Rattle.std.specs.Prelude.{Decides}
use Rattle.std.specs.Str.{bytes_eq}
use Rattle.std.specs.Cmp.{signed_Decides, IsEquivalence, IsPartialEquivalence, partial_equiv_from_equiv}
use Rattle.std.specs.Bool.{one_answer}
use Rattle.std.specs.Ordering.{int_eq}
use Rattle.std.specs.Bool.{beq}
use Rattle.std.proofs.lemmas.Slice.Eq.{bytes_eq-Decides}
use Rattle.serde_json.specs.Data.{Num, unsigned, negative, float, Data, null, boolean, number, string, array, object, Items, no_items, item, Members, no_members, member}
use Rattle.tough_keys.specs.declared.kind.Kind.{Kind}
use Rattle.tough_keys.specs.declared.kind.Kind.TheVariants as kinds
use Rattle.tough_keys.specs.declared.key.Key.{Key}
use Rattle.tough_keys.specs.Key.{KeyDoc, key_doc}
use Rattle.tough_keys.specs.Same.{without_float, blurred, blurred_items, blurred_members, KeyData, data_of, key_data}
use Rattle.tough_keys.specs.Equal.{same_number, same, same_items, same_members, same_kind, same_doc, same_key}

and_left : (a b : Bool) → a && b ≡ true → a ≡ true
and_left true b h = refl
and_left false b h = absurd (cc (h))

and_right : (a b : Bool) → a && b ≡ true → b ≡ true
and_right true b h = h
and_right false b h = absurd (cc (h))

both : (a b : Bool) → a ≡ true → b ≡ true → a && b ≡ true
both true b h k = k
both false b h k = h

same_bool : (b c : Bool) → beq b c ≡ true → b ≡ c
same_bool true true h = refl
same_bool true false h = absurd (cc (h))
same_bool false true h = absurd (cc (h))
same_bool false false h = refl

self_bool : (b : Bool) → beq b b ≡ true
self_bool true = refl
self_bool false = refl

nat_is : (n m : ℕ) → nat_eq n m ≡ true → n ≡ m
nat_is n m h = grind (arith, nat_tests)

nat_same : (n m : ℕ) → n ≡ m → nat_eq n m ≡ true
nat_same n m h = grind (arith, nat_tests)

int_is : (n m : ℤ) → int_eq n m ≡ true → n ≡ m
int_is n m h = (signed_Decides n m).0 h

int_same : (n m : ℤ) → n ≡ m → int_eq n m ≡ true
int_same n m h = (signed_Decides n m).1 h

the_bool : (b c : Bool) → boolean b ≡ boolean c → b ≡ c
the_bool b c h = cc (h)

to_number : (a b : Num) → same_number a b ≡ true → without_float a ≡ without_float b
to_number (unsigned n) (unsigned m) h = ap unsigned (nat_is n m h)
to_number (unsigned n) (negative m) h = absurd (cc (h))
to_number (unsigned n) (float m) h = absurd (cc (h))
to_number (negative n) (unsigned m) h = absurd (cc (h))
to_number (negative n) (negative m) h = ap negative (int_is n m h)
to_number (negative n) (float m) h = absurd (cc (h))
to_number (float n) (unsigned m) h = absurd (cc (h))
to_number (float n) (negative m) h = absurd (cc (h))
to_number (float n) (float m) h = refl

from_number : (a b : Num) → without_float a ≡ without_float b → same_number a b ≡ true
from_number (unsigned n) (unsigned m) h = nat_same n m (cc (h))
from_number (unsigned n) (negative m) h = absurd (cc (h))
from_number (unsigned n) (float m) h = absurd (cc (h))
from_number (negative n) (unsigned m) h = absurd (cc (h))
from_number (negative n) (negative m) h = int_same n m (cc (h))
from_number (negative n) (float m) h = absurd (cc (h))
from_number (float n) (unsigned m) h = absurd (cc (h))
from_number (float n) (negative m) h = absurd (cc (h))
from_number (float n) (float m) h = refl

abbrev key_of : Kind → List ℕ → Members → Members → KeyData
key_of k p a c = record { kind = k; public = p; keyval_extra = a; extra = c }

mutual
  to : (a b : Data) → same a b ≡ true → blurred a ≡ blurred b
  to null null h = refl
  to null (boolean c) h = absurd (cc (h))
  to null (number m) h = absurd (cc (h))
  to null (string t) h = absurd (cc (h))
  to null (array ys) h = absurd (cc (h))
  to null (object ns) h = absurd (cc (h))
  to (boolean b) null h = absurd (cc (h))
  to (boolean b) (boolean c) h = ap boolean (same_bool b c h)
  to (boolean b) (number m) h = absurd (cc (h))
  to (boolean b) (string t) h = absurd (cc (h))
  to (boolean b) (array ys) h = absurd (cc (h))
  to (boolean b) (object ns) h = absurd (cc (h))
  to (number n) null h = absurd (cc (h))
  to (number n) (boolean c) h = absurd (cc (h))
  to (number n) (number m) h = ap number (to_number n m h)
  to (number n) (string t) h = absurd (cc (h))
  to (number n) (array ys) h = absurd (cc (h))
  to (number n) (object ns) h = absurd (cc (h))
  to (string s) null h = absurd (cc (h))
  to (string s) (boolean c) h = absurd (cc (h))
  to (string s) (number m) h = absurd (cc (h))
  to (string s) (string t) h = ap string ((bytes_eq-Decides s t).0 h)
  to (string s) (array ys) h = absurd (cc (h))
  to (string s) (object ns) h = absurd (cc (h))
  to (array xs) null h = absurd (cc (h))
  to (array xs) (boolean c) h = absurd (cc (h))
  to (array xs) (number m) h = absurd (cc (h))
  to (array xs) (string t) h = absurd (cc (h))
  to (array xs) (array ys) h = ap array (to_items xs ys h)
  to (array xs) (object ns) h = absurd (cc (h))
  to (object ms) null h = absurd (cc (h))
  to (object ms) (boolean c) h = absurd (cc (h))
  to (object ms) (number m) h = absurd (cc (h))
  to (object ms) (string t) h = absurd (cc (h))
  to (object ms) (array ys) h = absurd (cc (h))
  to (object ms) (object ns) h = ap object (to_members ms ns h)

  to_items : (a b : Items) → same_items a b ≡ true → blurred_items a ≡ blurred_items b
  to_items no_items no_items h = refl
  to_items no_items (item e es) h = absurd (cc (h))
  to_items (item d ds) no_items h = absurd (cc (h))
  to_items (item d ds) (item e es) h = ap (λ x. item x (blurred_items ds)) (to d e (and_left _ _ h)) ∙ ap (item (blurred e)) (to_items ds es (and_right _ _ h))

  to_members : (a b : Members) → same_members a b ≡ true → blurred_members a ≡ blurred_members b
  to_members no_members no_members h = refl
  to_members no_members (member l e ns) h = absurd (cc (h))
  to_members (member k d ms) no_members h = absurd (cc (h))
  to_members (member k d ms) (member l e ns) h =
      ap (λ x. member x (blurred d) (blurred_members ms)) ((bytes_eq-Decides k l).0 (and_left _ _ h))
      ∙ (ap (λ x. member l x (blurred_members ms)) (to d e (and_left _ _ (and_right _ _ h)))
      ∙ ap (member l (blurred e)) (to_members ms ns (and_right _ _ (and_right _ _ h))))

mutual
  from : (a b : Data) → blurred a ≡ blurred b → same a b ≡ true
  from null null h = refl
  from null (boolean c) h = absurd (cc (h))
  from null (number m) h = absurd (cc (h))
  from null (string t) h = absurd (cc (h))
  from null (array ys) h = absurd (cc (h))
  from null (object ns) h = absurd (cc (h))
  from (boolean b) null h = absurd (cc (h))
  from (boolean b) (boolean c) h = ap (beq b) (sym (the_bool b c h)) ∙ self_bool b
  from (boolean b) (number m) h = absurd (cc (h))
  from (boolean b) (string t) h = absurd (cc (h))
  from (boolean b) (array ys) h = absurd (cc (h))
  from (boolean b) (object ns) h = absurd (cc (h))
  from (number n) null h = absurd (cc (h))
  from (number n) (boolean c) h = absurd (cc (h))
  from (number n) (number m) h = from_number n m (cc (h))
  from (number n) (string t) h = absurd (cc (h))
  from (number n) (array ys) h = absurd (cc (h))
  from (number n) (object ns) h = absurd (cc (h))
  from (string s) null h = absurd (cc (h))
  from (string s) (boolean c) h = absurd (cc (h))
  from (string s) (number m) h = absurd (cc (h))
  from (string s) (string t) h = (bytes_eq-Decides s t).1 (cc (h))
  from (string s) (array ys) h = absurd (cc (h))
  from (string s) (object ns) h = absurd (cc (h))
  from (array xs) null h = absurd (cc (h))
  from (array xs) (boolean c) h = absurd (cc (h))
  from (array xs) (number m) h = absurd (cc (h))
  from (array xs) (string t) h = absurd (cc (h))
  from (array xs) (array ys) h = from_items xs ys (cc (h))
  from (array xs) (object ns) h = absurd (cc (h))
  from (object ms) null h = absurd (cc (h))
  from (object ms) (boolean c) h = absurd (cc (h))
  from (object ms) (number m) h = absurd (cc (h))
  from (object ms) (string t) h = absurd (cc (h))
  from (object ms) (array ys) h = absurd (cc (h))
  from (object ms) (object ns) h = from_members ms ns (cc (h))

  from_items : (a b : Items) → blurred_items a ≡ blurred_items b → same_items a b ≡ true
  from_items no_items no_items h = refl
  from_items no_items (item e es) h = absurd (cc (h))
  from_items (item d ds) no_items h = absurd (cc (h))
  from_items (item d ds) (item e es) h = both _ _ (from d e (cc (h))) (from_items ds es (cc (h)))

  from_members : (a b : Members) → blurred_members a ≡ blurred_members b → same_members a b ≡ true
  from_members no_members no_members h = refl
  from_members no_members (member l e ns) h = absurd (cc (h))
  from_members (member k d ms) no_members h = absurd (cc (h))
  from_members (member k d ms) (member l e ns) h = both _ _ ((bytes_eq-Decides k l).1 (cc (h))) (both _ _ (from d e (cc (h))) (from_members ms ns (cc (h))))

to_kind : (a b : Kind) → same_kind a b ≡ true → a ≡ b
to_kind kinds.Rsa kinds.Rsa h = refl
to_kind kinds.Rsa kinds.Ed25519 h = absurd (cc (h))
to_kind kinds.Rsa kinds.Ecdsa h = absurd (cc (h))
to_kind kinds.Rsa kinds.EcdsaOld h = absurd (cc (h))
to_kind kinds.Ed25519 kinds.Rsa h = absurd (cc (h))
to_kind kinds.Ed25519 kinds.Ed25519 h = refl
to_kind kinds.Ed25519 kinds.Ecdsa h = absurd (cc (h))
to_kind kinds.Ed25519 kinds.EcdsaOld h = absurd (cc (h))
to_kind kinds.Ecdsa kinds.Rsa h = absurd (cc (h))
to_kind kinds.Ecdsa kinds.Ed25519 h = absurd (cc (h))
to_kind kinds.Ecdsa kinds.Ecdsa h = refl
to_kind kinds.Ecdsa kinds.EcdsaOld h = absurd (cc (h))
to_kind kinds.EcdsaOld kinds.Rsa h = absurd (cc (h))
to_kind kinds.EcdsaOld kinds.Ed25519 h = absurd (cc (h))
to_kind kinds.EcdsaOld kinds.Ecdsa h = absurd (cc (h))
to_kind kinds.EcdsaOld kinds.EcdsaOld h = refl

self_kind : (a : Kind) → same_kind a a ≡ true
self_kind kinds.Rsa = refl
self_kind kinds.Ed25519 = refl
self_kind kinds.Ecdsa = refl
self_kind kinds.EcdsaOld = refl

data_is : (j k : Kind) (p q : List ℕ) (a b c d : Members) → j ≡ k → p ≡ q → a ≡ b → c ≡ d → key_of j p a c ≡ key_of k q b d
data_is j k p q a b c d e f g h =
    ap (λ x. key_of x p a c) e ∙ (ap (λ x. key_of k x a c) f ∙ (ap (λ x. key_of k q x c) g ∙ ap (λ x. key_of k q b x) h))

module _ (a b : KeyDoc) where
  abbrev of_kind : Bool
  of_kind = same_kind a.kind b.kind

  abbrev of_public : Bool
  of_public = bytes_eq a.public.bytes b.public.bytes

  abbrev of_keyval : Bool
  of_keyval = same_members a.keyval_extra b.keyval_extra

  abbrev of_extra : Bool
  of_extra = same_members a.extra b.extra

  same_is : of_kind && (of_public && (of_keyval && of_extra)) ≡ true → data_of a ≡ data_of b
  same_is h =
      let public = and_right of_kind (of_public && (of_keyval && of_extra)) h in
      let extras = and_right of_public (of_keyval && of_extra) public in
      data_is a.kind b.kind a.public.bytes b.public.bytes (blurred_members a.keyval_extra) (blurred_members b.keyval_extra) (blurred_members a.extra) (blurred_members b.extra)
      (to_kind a.kind b.kind (and_left of_kind (of_public && (of_keyval && of_extra)) h))
      ((bytes_eq-Decides a.public.bytes b.public.bytes).0 (and_left of_public (of_keyval && of_extra) public))
      (to_members a.keyval_extra b.keyval_extra (and_left of_keyval of_extra extras))
      (to_members a.extra b.extra (and_right of_keyval of_extra extras))

  is_same : data_of a ≡ data_of b → of_kind && (of_public && (of_keyval && of_extra)) ≡ true
  is_same h =
      both of_kind (of_public && (of_keyval && of_extra)) (ap (same_kind a.kind) (sym (ap (λ (d : KeyData). d.kind) h)) ∙ self_kind a.kind)
      (both of_public (of_keyval && of_extra) ((bytes_eq-Decides a.public.bytes b.public.bytes).1 (ap (λ (d : KeyData). d.public) h))
      (both of_keyval of_extra (from_members a.keyval_extra b.keyval_extra (ap (λ (d : KeyData). d.keyval_extra) h)) (from_members a.extra b.extra (ap (λ (d : KeyData). d.extra) h))))

-- keys that are the same have the same data
pub data_of-same : (a b : KeyDoc) → same_doc a b ≡ true → data_of a ≡ data_of b
data_of-same a b h = same_is a b h

pub same_doc-refl : (k : KeyDoc) → same_doc k k ≡ true
same_doc-refl k = is_same k k refl

pub same_key-Decides : (a b : Key) → Decides (same_key a b) (key_data a ≡ key_data b)
same_key-Decides a b = (same_is (key_doc a) (key_doc b), is_same (key_doc a) (key_doc b))

pub same_key-equiv : IsEquivalence same_key
same_key-equiv = record {
  refl = λ x. (same_key-Decides x x).1 refl;
  symm = λ x y. one_answer _ _ (same_key-Decides x y) (λ h. sym ((same_key-Decides y x).0 h), λ h. (same_key-Decides y x).1 (sym h));
  congr = λ x y z e. let is = (same_key-Decides x y).0 e in
      one_answer _ _ (same_key-Decides x z) (λ h. is ∙ (same_key-Decides y z).0 h, λ h. (same_key-Decides y z).1 (sym is ∙ h));
}

pub same_key-per : IsPartialEquivalence same_key
same_key-per = partial_equiv_from_equiv same_key-equiv
