-- The compact text of a value is read as it, and that of a signed document too.
use Rattle.std.proofs.Common.{◌≡◌, ℕ, suc, ◌<◌, ◌≤◌, ltb-true, pos, negsuc, Bool, true, false, List, [], ◌∷◌, ◌++◌, Option, Some, None, if◌then◌else◌, IsUtf8, Greater, nat_cmp, option_map, option_and_then, refl, sym, ap, ◌∙◌, arith, append-nil}
use Rattle.std.proofs.lemmas.Bool.{or_parts, true≢false}
use Rattle.std.proofs.lemmas.Cmp.{nat_list_cmp_total}
use Rattle.std.proofs.lemmas.Fmt.{IsAscii-decimal, IsAscii-signed}
use Rattle.std.proofs.lemmas.Str.{IsUtf8-append, IsUtf8-from_ascii}
use Rattle.std.specs.Cmp.Lexicographic.{slice_cmp}
use Rattle.std.specs.Ordering.{ordering_reverse}
use Rattle.json.specs.Json as json
use Rattle.json.specs.Lex.{tokens}
use Rattle.json.specs.Print.{IsNumber, quoted}
use Rattle.json.specs.Tree as tree
use Rattle.json.proofs.Printed.Decimals.{IsNumber-decimal, IsNumber-signed_decimal}
use Rattle.json.proofs.Printed.Tokens.{tokens-print}
use Rattle.json.proofs.Printed.Trees.{ArePrintable-json_tokens, value-json_tokens}
use Rattle.json.proofs.Printed.Utf8.{IsUtf8-are_ascii, IsUtf8-boolean, IsUtf8-quoted}
use Rattle.serde_json.specs.Data.{Num, unsigned, negative, float, Data, null, boolean, number, string, array, object, Items, no_items, item, Members, no_members, member, put, depth, items_depth, members_depth}
use Rattle.serde_json.specs.Find.{is_float}
use Rattle.serde_json.specs.Read.{number_of, of_json, of_items, of_members, read, max_depth}
use Rattle.serde_json.specs.Written.{number_text, outline, items_outline, members_outline, has_float, items_have_float, members_have_float, comma_if, compact_text, items_text, members_text}
use Rattle.serde_json.proofs.Numbers.{number_of-decimal, number_of-negative}
use Rattle.serde_json.proofs.Texts.{print-outline}
use Rattle.tough_json.specs.Pieces.{IsBelow, text_in}
use Rattle.tough_json.specs.Results.{json_of}
use Rattle.tough_json.specs.declared.pieces.Form.TheVariants as forms
use Rattle.tough_json.proofs.lemmas.Json.{json_of-some}
use Rattle.tough_json.proofs.lemmas.Write.{bind_ok, some-inj}
use Rattle.tough_roles.specs.Signature.{SignedDoc, signed_parts_json, signed_at, signed_json}
use Rattle.tough_roles.proofs.lemmas.Signed.{signed-back}
use Rattle.tough_roles.specs.Orderly.{IsOrderly, AreOrderly, HasOrder}
use Rattle.tough_roles.specs.Readable.{IsWord, IsValue, AreValues, AreMembers, IsReadable}

-- ---- numbers

number-back : (n : Num) → IsWord n → is_float n ≡ false → number_of (number_text n) ≡ Some n
number-back (unsigned n) w f = number_of-decimal n w
number-back (negative (pos n)) w f = let low : n < 0 = ltb-true n 0 w.0 in absurd (omega arith)
number-back (negative (negsuc n)) w f = number_of-negative n w.1
number-back (float x) w f = absurd (true≢false f)

number-is : (n : Num) → IsWord n → is_float n ≡ false → IsNumber (number_text n)
number-is (unsigned n) w f = IsNumber-decimal n w
number-is (negative z) w f = IsNumber-signed_decimal z w.1
number-is (float x) w f = absurd (true≢false f)

number-utf8 : (n : Num) → IsWord n → is_float n ≡ false → IsUtf8 (number_text n)
number-utf8 (unsigned n) w f = IsUtf8-from_ascii _ (IsAscii-decimal n w)
number-utf8 (negative z) w f = IsUtf8-from_ascii _ (IsAscii-signed z w.1)
number-utf8 (float x) w f = absurd (true≢false f)

-- ---- members that were put in one after another

abbrev last : Members → List ℕ → Data → Members
last no_members k d = member k d no_members
last (member l e ms) k d = member l e (last ms k d)

abbrev both : Members → Members → Members
both no_members ms = ms
both (member k d xs) ms = member k d (both xs ms)

both-none : (xs : Members) → both xs no_members ≡ xs
both-none no_members = refl
both-none (member k d xs) = ap (member k d) (both-none xs)

both-last : (xs : Members) (k : List ℕ) (d : Data) (ms : Members) → both (last xs k d) ms ≡ both xs (member k d ms)
both-last no_members k d ms = refl
both-last (member l e xs) k d ms = ap (member l e) (both-last xs k d ms)

-- each of the first is below each of the second
abbrev Before : Members → Members → Type 0
Before no_members ms = Unit {0}
Before (member k d xs) ms = IsBelow k ms × Before xs ms

before-none : (xs : Members) → Before xs no_members
before-none no_members = tt
before-none (member k d xs) = (tt, before-none xs)

before-rest : (xs : Members) (k : List ℕ) (d : Data) (ms : Members) → Before xs (member k d ms) → IsBelow k ms → Before (last xs k d) ms
before-rest no_members k d ms h below = (below, tt)
before-rest (member l e xs) k d ms h below = (h.0.1, before-rest xs k d ms h.1 below)

put-last : (xs : Members) (k : List ℕ) (d : Data) (ms : Members) → Before xs (member k d ms) → put k d xs ≡ last xs k d
put-last no_members k d ms h = refl
put-last (member l e xs) k d ms h =
    let above : slice_cmp nat_cmp k l ≡ Greater = nat_list_cmp_total.antisymm k l ∙ ap ordering_reverse h.0.0 in
    rw above (ap (member l e) (put-last xs k d ms h.1))

-- ---- the value that the JSON is

mutual
  of_json-outline : (d : Data) → IsOrderly d → has_float d ≡ false → of_json (outline d) ≡ Some d
  of_json-outline null v f = refl
  of_json-outline (boolean b) v f = refl
  of_json-outline (number n) v f = ap (option_map number) (number-back n v f)
  of_json-outline (string s) v f = refl
  of_json-outline (array ds) v f = ap (option_map array) (of_items-outline ds v f)
  of_json-outline (object ms) v f = ap (option_map object) (of_members-outline ms no_members v f tt)

  of_items-outline : (ds : Items) → AreOrderly ds → items_have_float ds ≡ false → of_items (items_outline ds) ≡ Some ds
  of_items-outline no_items v f = refl
  of_items-outline (item d ds) v f =
      let p = or_parts (has_float d) _ f in
      rw (of_json-outline d v.0 p.0, of_items-outline ds v.1 p.1) refl

  of_members-outline : (ms xs : Members) → HasOrder ms → members_have_float ms ≡ false → Before xs ms → of_members (members_outline ms) xs ≡ Some (both xs ms)
  of_members-outline no_members xs v f h = ap Some (sym (both-none xs))
  of_members-outline (member k d ms) xs v f h =
      let p = or_parts (has_float d) _ f in
      ap (option_and_then (λ e. of_members (members_outline ms) (put k e xs))) (of_json-outline d v.1 p.0)
      ∙ ap (of_members (members_outline ms)) (put-last xs k d ms h)
      ∙ of_members-outline ms (last xs k d) v.2 p.1 (before-rest xs k d ms h v.0)
      ∙ ap Some (both-last xs k d ms)

-- ---- its tokens

mutual
  pub numbers-outline : (d : Data) → IsOrderly d → has_float d ≡ false → tree.HasNumbers (outline d)
  numbers-outline null v f = tt
  numbers-outline (boolean b) v f = tt
  numbers-outline (number n) v f = number-is n v f
  numbers-outline (string s) v f = tt
  numbers-outline (array ds) v f = item_numbers ds v f
  numbers-outline (object ms) v f = member_numbers ms v f

  item_numbers : (ds : Items) → AreOrderly ds → items_have_float ds ≡ false → tree.ItemsHaveNumbers (items_outline ds)
  item_numbers no_items v f = tt
  item_numbers (item d ds) v f = let p = or_parts (has_float d) _ f in (numbers-outline d v.0 p.0, item_numbers ds v.1 p.1)

  member_numbers : (ms : Members) → HasOrder ms → members_have_float ms ≡ false → tree.MembersHaveNumbers (members_outline ms)
  member_numbers no_members v f = tt
  member_numbers (member k d ms) v f = let p = or_parts (has_float d) _ f in (numbers-outline d v.1 p.0, member_numbers ms v.2 p.1)

mutual
  depth-outline : (d : Data) → tree.depth (outline d) ≡ depth d
  depth-outline null = refl
  depth-outline (boolean b) = refl
  depth-outline (number n) = refl
  depth-outline (string s) = refl
  depth-outline (array ds) = ap suc (items_depth-outline ds)
  depth-outline (object ms) = ap suc (members_depth-outline ms)

  items_depth-outline : (ds : Items) → tree.items_depth (items_outline ds) ≡ items_depth ds
  items_depth-outline no_items = refl
  items_depth-outline (item d ds) = rw (depth-outline d, items_depth-outline ds) refl

  members_depth-outline : (ms : Members) → tree.members_depth (members_outline ms) ≡ members_depth ms
  members_depth-outline no_members = refl
  members_depth-outline (member k d ms) = rw (depth-outline d, members_depth-outline ms) refl

pub text-read : (d : Data) → IsOrderly d → has_float d ≡ false → depth d ≤ max_depth → read (compact_text d) ≡ Some d
text-read d v f shallow =
    let ts = tree.json_tokens (outline d) in
    let shown : tokens (compact_text d) ≡ ts = ap tokens (sym (print-outline d)) ∙ tokens-print ts (ArePrintable-json_tokens (outline d) (numbers-outline d v f)) in
    let parsed = value-json_tokens (outline d) max_depth [] (omega (arith, depth-outline d)) in
    ap (λ o. option_and_then of_json (option_and_then (λ p. json.if_last p.0 p.1) o)) (ap (json.value max_depth) (shown ∙ sym (append-nil ts)) ∙ parsed) ∙ of_json-outline d v f

-- ---- its bytes are UTF-8

colon : IsUtf8 (58 ∷ [])
colon = IsUtf8-are_ascii (58 ∷ []) refl

comma : (later : Bool) → IsUtf8 (comma_if later)
comma true = IsUtf8-are_ascii (44 ∷ []) refl
comma false = IsUtf8-are_ascii [] refl

named_text : (k t : List ℕ) → IsUtf8 k → IsUtf8 t → IsUtf8 (quoted k ++ 58 ∷ t)
named_text k t u w = IsUtf8-append (quoted k) (58 ∷ t) (IsUtf8-quoted k u) (IsUtf8-append (58 ∷ []) t colon w)

mutual
  text-utf8 : (d : Data) → IsValue d → has_float d ≡ false → IsUtf8 (compact_text d)
  text-utf8 null v f = IsUtf8-are_ascii _ refl
  text-utf8 (boolean b) v f = IsUtf8-boolean b
  text-utf8 (number n) v f = number-utf8 n v f
  text-utf8 (string s) v f = IsUtf8-quoted s v
  text-utf8 (array ds) v f = IsUtf8-append (91 ∷ []) (items_text false ds) (IsUtf8-are_ascii (91 ∷ []) refl) (items-utf8 false ds v f)
  text-utf8 (object ms) v f = IsUtf8-append (123 ∷ []) (members_text false ms) (IsUtf8-are_ascii (123 ∷ []) refl) (members-utf8 false ms v f)

  items-utf8 : (later : Bool) (ds : Items) → AreValues ds → items_have_float ds ≡ false → IsUtf8 (items_text later ds)
  items-utf8 later no_items v f = IsUtf8-are_ascii (93 ∷ []) refl
  items-utf8 later (item d ds) v f =
      let p = or_parts (has_float d) _ f in
      IsUtf8-append (comma_if later) (compact_text d ++ items_text true ds) (comma later) (IsUtf8-append (compact_text d) (items_text true ds) (text-utf8 d v.0 p.0) (items-utf8 true ds v.1 p.1))

  members-utf8 : (later : Bool) (ms : Members) → AreMembers ms → members_have_float ms ≡ false → IsUtf8 (members_text later ms)
  members-utf8 later no_members v f = IsUtf8-are_ascii (125 ∷ []) refl
  members-utf8 later (member k d ms) v f =
      let p = or_parts (has_float d) _ f in
      IsUtf8-append (comma_if later) (quoted k ++ 58 ∷ (compact_text d ++ members_text true ms)) (comma later)
      (named_text k (compact_text d ++ members_text true ms) v.0 (IsUtf8-append (compact_text d) (members_text true ms) (text-utf8 d v.2 p.0) (members-utf8 true ms v.3 p.1)))

-- ---- a value is in order

mutual
  value-orderly : (d : Data) → IsValue d → IsOrderly d
  value-orderly null v = tt
  value-orderly (boolean b) v = tt
  value-orderly (number n) v = v
  value-orderly (string s) v = tt
  value-orderly (array ds) v = values-orderly ds v
  value-orderly (object ms) v = members-order ms v

  values-orderly : (ds : Items) → AreValues ds → AreOrderly ds
  values-orderly no_items v = tt
  values-orderly (item d ds) v = (value-orderly d v.0, values-orderly ds v.1)

  members-order : (ms : Members) → AreMembers ms → HasOrder ms
  members-order no_members v = tt
  members-order (member k d ms) v = (v.1, value-orderly d v.2, members-order ms v.3)

-- ---- what is written is read

no-float : (d : Data) (bytes : List ℕ) (b : Bool) → has_float d ≡ b → (if b then None else Some (compact_text d)) ≡ Some bytes → (has_float d ≡ false) × (compact_text d ≡ bytes)
no-float d bytes true f h = cc
no-float d bytes false f h = (f, some-inj h)

pub text-back : (d : Data) (bytes : List ℕ) → IsReadable d → text_in forms.Compact d ≡ Some bytes → json_of bytes ≡ Some d
text-back d bytes r h =
    let p = no-float d bytes (has_float d) refl h in
    ap json_of (sym p.1) ∙ json_of-some (compact_text d) d (text-utf8 d r.value p.0) (text-read d (value-orderly d r.value) p.0 r.shallow)

-- the bytes read as x, where the JSON that they are the text of does
pub read-back : {A : Type 0} (f : Data → Option A) (d : Data) (x : A) (bytes : List ℕ) → IsReadable d → text_in forms.Compact d ≡ Some bytes → f d ≡ Some x → option_and_then f (json_of bytes) ≡ Some x
read-back f d x bytes r h is = ap (option_and_then f) (text-back d bytes r h) ∙ is

-- a signed document's JSON is read as it, where its role's is
pub document-back : {A : Type 0} (f : Data → Option A) (g : A → Option Data) (s : SignedDoc A) (d : Data) → ((e : Data) → g s.role ≡ Some e → f e ≡ Some s.role) → signed_json g s ≡ Some d → signed_at f d ≡ Some s
document-back f g s d back w =
    let a = bind_ok (g s.role) (λ role. signed_parts_json role s.signatures) d w in
    rw (signed-back a.0 s.signatures d a.2, back a.0 a.1) refl
