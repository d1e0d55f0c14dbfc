-- What a change of the stored nodes does to the contents.
use Rattle.std.proofs.Common.{◌≡◌, ℕ, Bool, true, false, cond, List, Option, String, option_map, string_bytes, string_cmp, bytes_eq, nat_cmp, refl, ap, ◌∙◌}
use Rattle.std.specs.Cmp.Lexicographic.{slice_cmp}
use Rattle.std.specs.Map.{update}
use Rattle.std.specs.BTreeMap.{BTreeMap, UpdatesBy, get_by_text}
use Rattle.std.proofs.lemmas.Map.Text.{btree_map_updates_text}

map_cond : {A B : Type 0} (f : A → B) (b : Bool) (x y : Option A) → option_map f (cond b x y) ≡ cond b (option_map f x) (option_map f y)
map_cond f true x y = refl
map_cond f false x y = refl

-- a map that is changed at these bytes, seen through a view of its values
pub viewed : {X V Y : Type 0} (view : X → V) (bytes : List ℕ) (before after : BTreeMap (String Y) X) (w : Option X) → UpdatesBy string_cmp (λ k. slice_cmp nat_cmp bytes (string_bytes k)) before after w
    → (cs : List ℕ) → option_map view (get_by_text after cs) ≡ update bytes_eq (λ path. option_map view (get_by_text before path)) bytes (option_map view w) cs
viewed view bytes before after w changed cs = ap (option_map view) (btree_map_updates_text bytes before after w changed cs) ∙ map_cond view (bytes_eq bytes cs) w (get_by_text before cs)
