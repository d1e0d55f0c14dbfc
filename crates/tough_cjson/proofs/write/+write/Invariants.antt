use Rattle.std.proofs.Common.{◌≡◌, ℕ, ◌++◌, ◌∷◌, List, map, take}
use Rattle.serde_json.specs.View.{items_view, members_view}
use Rattle.serde_json.proofs.Views.{Entry}
use Rattle.tough_cjson.specs.Canon.{CanonItems, CanonMembers, Member, joined, member_text}
use Rattle.tough_cjson.specs.ByName.{kept}
use Rattle.tough_cjson.proofs.lemmas.Joining.{is_nil}
use Rattle.tough_cjson.proofs.ByName.{Lent, AreWritten, texts_of}
use Rattle.tough_cjson.proofs.write.+write.Given as goal

abbrev pub invariant-write_items-loop-item : goal.invariant-write_items-loop-item
invariant-write_items-loop-item l =
    (ts : List (List ℕ)) × CanonItems (items_view (take l.item-index l.item-items)) ts
    × (l.out.items ≡ l.fn.out.items ++ 91 ∷ joined ts) × (l.is_first ≡ is_nil ts)

abbrev pub invariant-write_sorted-loop-name : goal.invariant-write_sorted-loop-name
invariant-write_sorted-loop-name l =
    (done : List Lent) × (l.sorted.entries ≡ done ++ l.name-iterator)
    × AreWritten (kept done) × (l.out.items ≡ l.fn.out.items ++ 123 ∷ joined (map member_text (texts_of (kept done))))
    × (l.is_first ≡ is_nil (texts_of (kept done)))

abbrev pub invariant-write_in_place-loop-name : goal.invariant-write_in_place-loop-name
invariant-write_in_place-loop-name l =
    (done : List Entry) × (ps : List Member) × (l.members.entries ≡ done ++ l.name-iterator)
    × CanonMembers (members_view done) ps × (l.out.items ≡ l.fn.out.items ++ 123 ∷ joined (map member_text ps))
    × (l.is_first ≡ is_nil ps)
