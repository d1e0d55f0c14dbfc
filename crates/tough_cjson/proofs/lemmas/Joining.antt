-- Texts one after another.
use Rattle.std.proofs.Common.{◌≡◌, ℕ, Bool, true, false, cond, List, [], ◌∷◌, ◌++◌, flat_map, refl, sym, ap, ap₂, ◌∙◌, append_assoc, append-nil}
use Rattle.std.proofs.lemmas.List.Concat.{flat_map-append}
use Rattle.serde_json.specs.View.{view, items_view, members_view}
use Rattle.serde_json.specs.declared.value.Value.{Value}
use Rattle.serde_json.proofs.Views.{Entry}
use Rattle.std.specs.Prelude.{string_bytes}
use Rattle.tough_cjson.specs.Canon.{Canon, CanonItems, CanonMembers, Member, joined, nfc_text}

abbrev pub is_nil : {A : Type 0} → List A → Bool
is_nil [] = true
is_nil (x ∷ xs) = false

abbrev pub comma_unless : Bool → List ℕ
comma_unless b = cond b [] (44 ∷ [])

abbrev comma : List ℕ → List ℕ
comma u = 44 ∷ u

pub joined_more : (ts : List (List ℕ)) (t : List ℕ) → joined (ts ++ t ∷ []) ≡ joined ts ++ (comma_unless (is_nil ts) ++ t)
joined_more [] t = append-nil t
joined_more (u ∷ us) t = ap (λ s. u ++ s) (flat_map-append comma us (t ∷ []) ∙ ap (λ s. flat_map comma us ++ s) (append-nil (44 ∷ t))) ∙ sym (append_assoc u (flat_map comma us) (44 ∷ t))

pub is_nil_more : {A : Type 0} (xs : List A) (x : A) → is_nil (xs ++ x ∷ []) ≡ false
is_nil_more [] x = refl
is_nil_more (y ∷ ys) x = refl

pub CanonItems_more : (vs : List Value) (v : Value) (ts : List (List ℕ)) (t : List ℕ) → CanonItems (items_view vs) ts → Canon (view v) t → CanonItems (items_view (vs ++ v ∷ [])) (ts ++ t ∷ [])
CanonItems_more [] v ts t h k = (t, [], k, refl, ap (λ us. us ++ t ∷ []) h)
CanonItems_more (w ∷ ws) v ts t h k = (h.0, h.1 ++ t ∷ [], h.2, CanonItems_more ws v h.1 t h.3 k, ap (λ us. us ++ t ∷ []) h.4)

pub CanonMembers_more : (es : List Entry) (e : Entry) (ps : List Member) (t : List ℕ) → CanonMembers (members_view es) ps → Canon (view e.1) t → CanonMembers (members_view (es ++ e ∷ [])) (ps ++ (nfc_text (string_bytes e.0), t) ∷ [])
CanonMembers_more [] e ps t h k = (t, [], k, refl, ap (λ us. us ++ (nfc_text (string_bytes e.0), t) ∷ []) h)
CanonMembers_more (f ∷ fs) e ps t h k = (h.0, h.1 ++ (nfc_text (string_bytes e.0), t) ∷ [], h.2, CanonMembers_more fs e h.1 t h.3 k, ap (λ us. us ++ (nfc_text (string_bytes e.0), t) ∷ []) h.4)

-- a text goes on with the next piece, behind its comma
pub piece_more : (args : List ℕ) (head : ℕ) (ts : List (List ℕ)) (t : List ℕ) → (args ++ head ∷ joined ts) ++ (comma_unless (is_nil ts) ++ t) ≡ args ++ head ∷ joined (ts ++ t ∷ [])
piece_more args head ts t = append_assoc args (head ∷ joined ts) _ ∙ ap (λ s. args ++ head ∷ s) (sym (joined_more ts t))

pub item_more : (args : List ℕ) (ts : List (List ℕ)) (t : List ℕ) (first : Bool) (o p q : List ℕ) → o ≡ args ++ 91 ∷ joined ts → first ≡ is_nil ts → p ≡ o ++ comma_unless first → q ≡ p ++ t → q ≡ args ++ 91 ∷ joined (ts ++ t ∷ [])
item_more args ts t first o p q e f g h = h ∙ ap (λ s. s ++ t) (g ∙ ap₂ (λ a b. a ++ comma_unless b) e f) ∙ append_assoc _ _ t ∙ piece_more args 91 ts t
