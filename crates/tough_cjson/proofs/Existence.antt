-- What holds no float and no name twice has a text.
use Rattle.std.proofs.Common.{◌≡◌, ℕ, false, pos, List, [], ◌∷◌, refl, sym}
use Rattle.std.proofs.lemmas.Bool.{or_parts, false≢true}
use Rattle.serde_json.specs.Data.{Num, unsigned, negative, float, Data, null, boolean, number, string, array, object, Items, no_items, item, Members, no_members, member}
use Rattle.serde_json.specs.Find.{is_float}
use Rattle.serde_json.specs.Written.{has_float, items_have_float, members_have_float}
use Rattle.tough_cjson.specs.Canon.{Canon, CanonItems, CanonMembers, Member, IsWhole, nfc_text, has_name, shares_name, items_share_name, members_share_name}
use Rattle.tough_cjson.specs.Small.{IsSmall, AreItemsSmall, AreMembersSmall}
use Rattle.tough_cjson.proofs.Placing.{in_order-apart, are_apart}

whole : (n : Num) → IsSmall (number n) → is_float n ≡ false → (t : List ℕ) × IsWhole n t
whole (unsigned m) small h = (_, record { whole = pos m; held = refl; small = small (pos m) refl; text = refl })
whole (negative z) small h = (_, record { whole = z; held = refl; small = small z refl; text = refl })
whole (float x) small h = absurd (false≢true (sym h))

mutual
  pub text_of : (d : Data) → IsSmall d → has_float d ≡ false → shares_name d ≡ false → (t : List ℕ) × Canon d t
  text_of null small f n = (_, refl)
  text_of (boolean b) small f n = (_, refl)
  text_of (number m) small f n = whole m small f
  text_of (string s) small f n = (_, refl)
  text_of (array ds) small f n = let r = texts_of ds small f n in (_, (r.0, r.1, refl))
  text_of (object ms) small f n =
      let r = member_texts_of ms small f n in
      let o = in_order-apart r.0 (are_apart ms r.0 r.1 n) in
      (_, (r.0, o.0, r.1, o.2, refl))

  texts_of : (ds : Items) → AreItemsSmall ds → items_have_float ds ≡ false → items_share_name ds ≡ false → (ts : List (List ℕ)) × CanonItems ds ts
  texts_of no_items small f n = ([], refl)
  texts_of (item d ds) small f n =
      let fs = or_parts _ _ f in
      let ns = or_parts _ _ n in
      let t = text_of d small.0 fs.0 ns.0 in
      let r = texts_of ds small.1 fs.1 ns.1 in
      (t.0 ∷ r.0, (t.0, r.0, t.1, r.1, refl))

  member_texts_of : (ms : Members) → AreMembersSmall ms → members_have_float ms ≡ false → members_share_name ms ≡ false → (ps : List Member) × CanonMembers ms ps
  member_texts_of no_members small f n = ([], refl)
  member_texts_of (member k d ms) small f n =
      let fs = or_parts _ _ f in
      let ns = or_parts (has_name (nfc_text k) ms) _ n in
      let rest = or_parts _ _ ns.1 in
      let t = text_of d small.0 fs.0 rest.0 in
      let r = member_texts_of ms small.1 fs.1 rest.1 in
      ((nfc_text k, t.0) ∷ r.0, (t.0, r.0, t.1, r.1, refl))
