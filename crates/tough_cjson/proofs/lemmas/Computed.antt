-- The computed text is the one text of the value.
use Rattle.std.proofs.Common.{◌≡◌, ◌≢◌, ◌^◌, ℕ, Bool, true, false, cond, nat_lt, List, ◌∷◌, Option, Some, None, option_map, option_and_then, refl, sym, ap, ◌∙◌}
use Rattle.std.proofs.lemmas.Bool.{false≢true, ltb-true, lt-ltb}
use Rattle.std.specs.Fmt.{signed_decimal}
use lib.Signed.{mag}
use Rattle.serde_json.specs.Data.{Num, Data, null, boolean, number, string, array, object, Items, no_items, item, Members, no_members, member}
use Rattle.serde_json.specs.Find.{as_integer}
use Rattle.tough_cjson.specs.declared.error.CjsonError.{CjsonError}
use Rattle.tough_cjson.specs.declared.error.CjsonError.TheVariants.{Float, SameName, Memory}
use Rattle.tough_cjson.specs.Canon.{Canon, CanonItems, CanonMembers, Member, IsWhole, Holds, nfc_text}
use Rattle.tough_cjson.specs.CanonicalText.{canonical_of, item_texts, member_texts, number_text, whole_text, array_text, object_text, in_order}
use Rattle.tough_cjson.proofs.lemmas.Exactness.{accepted}
use Rattle.tough_cjson.proofs.Placing.{in_order-apart, IsInOrder-in_order, are_apart}
use Rattle.tough_cjson.proofs.Ordered.{sorted-same, in-moved, in-back}

-- what a step on an option gave, taken apart
pub mapped : {A B : Type 0} (f : A → B) (o : Option A) (y : B) → option_map f o ≡ Some y → (x : A) × (o ≡ Some x) × (f x ≡ y)
mapped f None y h = cc
mapped f (Some x) y h = (x, refl, cc)

pub then_some : {A B : Type 0} (f : A → Option B) (o : Option A) (y : B) → option_and_then f o ≡ Some y → (x : A) × (o ≡ Some x) × (f x ≡ Some y)
then_some f None y h = cc
then_some f (Some x) y h = (x, refl, h)

if_some : (b : Bool) (s t : List ℕ) → cond b (Some s) None ≡ Some t → (b ≡ true) × (t ≡ s)
if_some true s t h = (refl, cc)
if_some false s t h = cc

-- ---- what is computed is a text

whole-text : (n : Num) (t : List ℕ) → number_text n ≡ Some t → IsWhole n t
whole-text n t h =
    let z = then_some whole_text (as_integer n) t h in
    let p = if_some (nat_lt (mag z.0) (2 ^ 128)) (signed_decimal z.0) t z.2 in
    record { whole = z.0; held = z.1; small = ltb-true _ _ p.0; text = p.1 }

mutual
  unfolding canonical_of

  pub Canon-computed : (d : Data) (t : List ℕ) → canonical_of d ≡ Some t → Canon d t
  Canon-computed null t h = cc
  Canon-computed (boolean b) t h = cc
  Canon-computed (number n) t h = whole-text n t h
  Canon-computed (string s) t h = cc
  Canon-computed (array ds) t h =
      let r = mapped array_text (item_texts ds) t h in
      (r.0, CanonItems-computed ds r.0 r.1, sym r.2)
  Canon-computed (object ms) t h =
      let r = mapped object_text (option_and_then in_order (member_texts ms)) t h in
      let p = then_some in_order (member_texts ms) r.0 r.1 in
      (p.0, r.0, CanonMembers-computed ms p.0 p.1, IsInOrder-in_order p.0 r.0 p.2, sym r.2)

  CanonItems-computed : (ds : Items) (ts : List (List ℕ)) → item_texts ds ≡ Some ts → CanonItems ds ts
  CanonItems-computed no_items ts h = cc
  CanonItems-computed (item d ds) ts h =
      let p = then_some (λ t. option_map (λ us. t ∷ us) (item_texts ds)) (canonical_of d) ts h in
      let r = mapped (λ us. p.0 ∷ us) (item_texts ds) ts p.2 in
      (p.0, r.0, Canon-computed d p.0 p.1, CanonItems-computed ds r.0 r.1, sym r.2)

  CanonMembers-computed : (ms : Members) (ps : List Member) → member_texts ms ≡ Some ps → CanonMembers ms ps
  CanonMembers-computed no_members ps h = cc
  CanonMembers-computed (member k d ms) ps h =
      let p = then_some (λ t. option_map (λ qs. (nfc_text k, t) ∷ qs) (member_texts ms)) (canonical_of d) ps h in
      let r = mapped (λ qs. (nfc_text k, p.0) ∷ qs) (member_texts ms) ps p.2 in
      (p.0, r.0, Canon-computed d p.0 p.1, CanonMembers-computed ms r.0 r.1, sym r.2)

-- ---- what has a text is computed

number_text-whole : (n : Num) (t : List ℕ) → IsWhole n t → number_text n ≡ Some t
number_text-whole n t h =
    ap (option_and_then whole_text) h.held
    ∙ ap (λ b. cond b (Some (signed_decimal h.whole)) None) (lt-ltb _ _ h.small)
    ∙ ap Some (sym h.text)

mutual
  unfolding canonical_of

  pub computed : (d : Data) (t : List ℕ) → Canon d t → canonical_of d ≡ Some t
  computed null t h = ap Some (sym h)
  computed (boolean b) t h = ap Some (sym h)
  computed (number n) t h = number_text-whole n t h
  computed (string s) t h = ap Some (sym h)
  computed (array ds) t h = ap (option_map array_text) (items-computed ds h.0 h.1) ∙ ap Some (sym h.2)
  computed (object ms) t h =
      let sorted = in_order-apart h.0 (are_apart ms h.0 h.2 (accepted (object ms) t h).1) in
      let same = sorted-same sorted.0 h.1 sorted.2.rising h.3.rising
      (λ m i. in-moved h.0 h.1 m h.3.same (in-back h.0 sorted.0 m sorted.2.same i))
      (λ m i. in-moved h.0 sorted.0 m sorted.2.same (in-back h.0 h.1 m h.3.same i)) in
      ap (λ o. option_map object_text (option_and_then in_order o)) (members-computed ms h.0 h.2)
      ∙ ap (option_map object_text) (sorted.1 ∙ ap Some same) ∙ ap Some (sym h.4)

  items-computed : (ds : Items) (ts : List (List ℕ)) → CanonItems ds ts → item_texts ds ≡ Some ts
  items-computed no_items ts h = ap Some (sym h)
  items-computed (item d ds) ts h =
      ap (option_and_then (λ t. option_map (λ us. t ∷ us) (item_texts ds))) (computed d h.0 h.2)
      ∙ ap (option_map (λ us. h.0 ∷ us)) (items-computed ds h.1 h.3) ∙ ap Some (sym h.4)

  members-computed : (ms : Members) (ps : List Member) → CanonMembers ms ps → member_texts ms ≡ Some ps
  members-computed no_members ps h = ap Some (sym h)
  members-computed (member k d ms) ps h =
      ap (option_and_then (λ t. option_map (λ qs. (nfc_text k, t) ∷ qs) (member_texts ms))) (computed d h.0 h.2)
      ∙ ap (option_map (λ qs. (nfc_text k, h.0) ∷ qs)) (members-computed ms h.1 h.3) ∙ ap Some (sym h.4)

-- ---- a value that is refused has no computed text

none_unless : (d : Data) (o : Option (List ℕ)) → canonical_of d ≡ o → ((t : List ℕ) → Canon d t → ⊥) → o ≡ None
none_unless d None is h = refl
none_unless d (Some t) is h = absurd (h t (Canon-computed d t is))

pub not-computed : (d : Data) (e : CjsonError) → Holds d e → e ≢ Memory → canonical_of d ≡ None
not-computed d Float r other = none_unless d _ refl (λ t h. false≢true (sym (accepted d t h).0 ∙ r))
not-computed d SameName r other = none_unless d _ refl (λ t h. false≢true (sym (accepted d t h).1 ∙ r))
not-computed d Memory r other = absurd (other refl)
