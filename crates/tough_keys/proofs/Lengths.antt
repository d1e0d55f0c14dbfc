-- Lists of different lengths aren't the same.
use Rattle.std.proofs.Common.{◌≡◌, ◌≢◌, ℕ, List, [], ◌∷◌, ◌&&◌, Bool, true, false, length, refl, sym, ap, ◌∙◌, suc, String}
use Rattle.std.specs.Str.{bytes_eq}
use Rattle.std.specs.declared.alloc.Global.{Global}
use Rattle.serde_json.specs.declared.value.Value.{Value}
use Rattle.serde_json.specs.View.{view, items_view, members_view}
use Rattle.tough_keys.specs.Equal.{same, same_items, same_members}

and_false : (a b : Bool) → b ≡ false → a && b ≡ false
and_false true b h = h
and_false false b h = refl

pub items_differ : (xs ys : List Value) → length xs ≢ length ys → same_items (items_view xs) (items_view ys) ≡ false
items_differ [] [] h = absurd (h refl)
items_differ [] (y ∷ ys) h = refl
items_differ (x ∷ xs) [] h = refl
items_differ (x ∷ xs) (y ∷ ys) h = and_false _ _ (items_differ xs ys (λ e. h (ap suc e)))

pub members_differ : (xs ys : List (String Global × Value)) → length xs ≢ length ys → same_members (members_view xs) (members_view ys) ≡ false
members_differ [] [] h = absurd (h refl)
members_differ [] (y ∷ ys) h = refl
members_differ (x ∷ xs) [] h = refl
members_differ (x ∷ xs) (y ∷ ys) h = and_false _ _ (and_false _ _ (members_differ xs ys (λ e. h (ap suc e))))
