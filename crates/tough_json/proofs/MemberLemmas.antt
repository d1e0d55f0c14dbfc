-- Members that are taken out.
use Rattle.std.proofs.Common.{◌≡◌, ℕ, List, [], ◌∷◌, String, Global, string_bytes, nat_cmp, Ordering, Less, Equal, Greater, is_eq, cond, refl, ap}
use Rattle.std.specs.BTreeMap.{is_at}
use Rattle.std.specs.Map.{remove_entry}
use Rattle.std.specs.Ordering.{match_ordering}
use Rattle.std.specs.Cmp.Lexicographic.{slice_cmp}
use Rattle.serde_json.specs.declared.value.Value.{Value}
use Rattle.serde_json.specs.Data.{Members, member}
use Rattle.serde_json.specs.View.{view, members_view}
use Rattle.tough_json.specs.Reading.{without}

left_at : (o : Ordering) (e : String Global × Value) (es rest : List (String Global × Value)) (ms : Members) → members_view rest ≡ ms
    → members_view (cond (is_eq o) es (e ∷ rest)) ≡ match_ordering o (member (string_bytes e.0) (view e.1) ms) (members_view es) (member (string_bytes e.0) (view e.1) ms)
left_at Less e es rest ms h = ap (member (string_bytes e.0) (view e.1)) h
left_at Equal e es rest ms h = refl
left_at Greater e es rest ms h = ap (member (string_bytes e.0) (view e.1)) h

pub members_view-remove_entry : (name : List ℕ) (es : List (String Global × Value)) → members_view (remove_entry (is_at (λ k. slice_cmp nat_cmp name (string_bytes k))) es) ≡ without name (members_view es)
members_view-remove_entry name [] = refl
members_view-remove_entry name (e ∷ es) = left_at (slice_cmp nat_cmp name (string_bytes e.0)) e es (remove_entry (is_at (λ k. slice_cmp nat_cmp name (string_bytes k))) es) (without name (members_view es)) (members_view-remove_entry name es)
