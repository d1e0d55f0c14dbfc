-- What a part of a value holds, the value holds.
use Rattle.std.proofs.Common.{◌≡◌, ℕ, zero, suc, ◌<◌, Bool, true, false, ◌||◌, List, [], ◌∷◌, ◌++◌, length, get_or, bytes_eq, string_bytes, refl, sym, ap, ◌∙◌, arith, inl, inr}
use Rattle.std.proofs.lemmas.Bool.{cases_Bool, false≢true}
use Rattle.std.proofs.lemmas.Slice.Eq.{bytes_eq-Decides}
use Rattle.serde_json.specs.View.{view, items_view, members_view}
use Rattle.serde_json.specs.declared.value.Value.{Value}
use Rattle.serde_json.proofs.Views.{Entry}
use Rattle.tough_cjson.specs.declared.error.CjsonError.{CjsonError}
use Rattle.tough_cjson.specs.declared.error.CjsonError.TheVariants.{Float, SameName, Memory}
use Rattle.tough_cjson.specs.Canon.{nfc_text, has_name, members_share_name, Holds, AreItemsRefused, AreMembersRefused}

pub or-right : (b c : Bool) → c ≡ true → (b || c) ≡ true
or-right true c h = refl
or-right false c h = h

pub or-left : (b c : Bool) → b ≡ true → (b || c) ≡ true
or-left true c h = refl
or-left false c h = cc

pub items_hold : (e : CjsonError) (vs : List Value) (i : ℕ) (d : Value) → i < length vs → Holds (view (get_or vs i d)) e → AreItemsRefused (items_view vs) e
items_hold e [] i d lt h = absurd (omega arith)
items_hold Float (v ∷ vs) zero d lt h = or-left _ _ h
items_hold SameName (v ∷ vs) zero d lt h = or-left _ _ h
items_hold Memory (v ∷ vs) zero d lt h = tt
items_hold Float (v ∷ vs) (suc i) d lt h = or-right _ _ (items_hold Float vs i d (omega arith) h)
items_hold SameName (v ∷ vs) (suc i) d lt h = or-right _ _ (items_hold SameName vs i d (omega arith) h)
items_hold Memory (v ∷ vs) (suc i) d lt h = tt

pub members_hold : (e : CjsonError) (done : List Entry) (m : Entry) (left : List Entry) → Holds (view m.1) e → AreMembersRefused (members_view (done ++ m ∷ left)) e
members_hold Float [] m left h = or-left _ _ h
members_hold SameName [] m left h = or-right _ _ (or-left _ _ h)
members_hold Memory [] m left h = tt
members_hold Float (f ∷ fs) m left h = or-right _ _ (members_hold Float fs m left h)
members_hold SameName (f ∷ fs) m left h = or-right _ _ (or-right _ _ (members_hold SameName fs m left h))
members_hold Memory (f ∷ fs) m left h = tt

bytes_eq-same : (n : List ℕ) → bytes_eq n n ≡ true
bytes_eq-same n = (bytes_eq-Decides n n).1 refl

pub has_name-there : (n : List ℕ) (done : List Entry) (m : Entry) (left : List Entry) → n ≡ nfc_text (string_bytes m.0) → has_name n (members_view (done ++ m ∷ left)) ≡ true
has_name-there n [] m left h = or-left _ _ ((bytes_eq-Decides _ _).1 h)
has_name-there n (f ∷ fs) m left h = or-right _ _ (has_name-there n fs m left h)

pub shares_at : (done : List Entry) (m : Entry) (left : List Entry) → has_name (nfc_text (string_bytes m.0)) (members_view done) ≡ true → members_share_name (members_view (done ++ m ∷ left)) ≡ true
shares_at [] m left h = absurd (false≢true h)
shares_at (f ∷ fs) m left h =
    elim (cases_Bool (bytes_eq (nfc_text (string_bytes m.0)) (nfc_text (string_bytes f.0)))) [
      | inl same ↦ or-left _ _ (has_name-there _ fs m left (sym ((bytes_eq-Decides _ _).0 same)))
      | inr other ↦ or-right _ _ (or-right _ _ (shares_at fs m left (sym (ap (λ b. b || has_name (nfc_text (string_bytes m.0)) (members_view fs)) other) ∙ h)))
    ]
