-- What is found among entries that were put in one after another.
use Rattle.std.proofs.Common.{◌≡◌, ℕ, List, [], ◌∷◌, ◌++◌, cond, Some, inl, inr, codes, refl, sym, ap, ◌∙◌}
use Rattle.std.proofs.lemmas.List.{append_cancel_right}
use Rattle.std.specs.Ordering.{nat_cmp}
use Rattle.std.specs.Cmp.Lexicographic.{slice_cmp}
use Rattle.std.specs.BTreeMap.{insert_entry}
use Rattle.std.specs.List.{AllByRecursion}
use Rattle.std.specs.Map.{lookup}
use Rattle.std.specs.Str.{bytes_eq}
use Rattle.tough_roles.specs.Reaches.{IsAmong}
use Rattle.tough_round.proofs.Names.{same-bytes, apart}
use Rattle.tough_round.proofs.Serving.{map-all, AreDistinct}
use Rattle.tough_round.proofs.Inserting.{found-insert}

abbrev pub with_json : List ℕ → List ℕ
with_json name = name ++ codes ".json"

module _ {D X : Type 0} (name : D → List ℕ) (meta : D → X) where
  abbrev pub listed : List (List ℕ × X) → List D → List (List ℕ × X)
  listed found [] = found
  listed found (d ∷ ds) = listed (insert_entry (slice_cmp nat_cmp) found (with_json (name d)) (meta d)) ds

  -- another name's entry stays
  pub kept : (q : List ℕ) (ds : List D) → AllByRecursion (λ d. q ≡ with_json (name d) → ⊥) ds → (found : List (List ℕ × X)) → lookup (bytes_eq q) (listed found ds) ≡ lookup (bytes_eq q) found
  kept q [] a found = refl
  kept q (d ∷ ds) a found =
      kept q ds a.1 (insert_entry (slice_cmp nat_cmp) found (with_json (name d)) (meta d))
      ∙ (found-insert found (with_json (name d)) (meta d) q ∙ ap (λ b. cond b (Some (meta d)) (lookup (bytes_eq q) found)) (apart q (with_json (name d)) a.0))

  pub listed-one : (d : D) (ds : List D) → IsAmong d ds → AreDistinct name ds → (found : List (List ℕ × X)) → lookup (bytes_eq (with_json (name d))) (listed found ds) ≡ Some (meta d)
  listed-one d [] h once found = absurd h
  listed-one d (x ∷ xs) (inl h) once found =
      let q = with_json (name d) in
      let same : name x ≡ name d = ap name h in
      kept q xs (map-all (λ y. name y ≡ name x → ⊥) (λ y. q ≡ with_json (name y) → ⊥) xs (λ y differs k. differs (sym (same ∙ append_cancel_right (name d) (name y) (codes ".json") k))) once.0) (insert_entry (slice_cmp nat_cmp) found (with_json (name x)) (meta x))
      ∙ (found-insert found (with_json (name x)) (meta x) q ∙ (ap (λ b. cond b (Some (meta x)) (lookup (bytes_eq q) found)) (same-bytes q (with_json (name x)) (ap with_json (sym same))) ∙ ap (λ y. Some (meta y)) h))
  listed-one d (x ∷ xs) (inr h) once found = listed-one d xs h once.1 (insert_entry (slice_cmp nat_cmp) found (with_json (name x)) (meta x))

  -- an entry that stood there alone, under a name that none has
  pub listed-first : (q : List ℕ) (x : X) (ds : List D) → AllByRecursion (λ d. q ≡ with_json (name d) → ⊥) ds → lookup (bytes_eq q) (listed ((q, x) ∷ []) ds) ≡ Some x
  listed-first q x ds a = kept q ds a ((q, x) ∷ []) ∙ ap (λ b. cond b (Some x) (lookup (bytes_eq q) [])) (same-bytes q q refl)
