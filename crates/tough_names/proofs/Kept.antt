-- What a reader keeps of plain characters, and of the items before them.
use Rattle.std.proofs.Common.{◌≡◌, ℕ, List, [], ◌∷◌, ◌++◌, map, chars, encode_utf8, encode_utf8_all, String, string_bytes, refl, sym, ap, ◌∙◌, append_assoc, append-nil, true, Bool, false}
use Rattle.std.specs.Prelude.{flat_map}
use Rattle.std.specs.declared.alloc.Global.{Global}
use Rattle.std.proofs.lemmas.Grind.{flat_map-append}
use Rattle.std.proofs.lemmas.List.{map-append}
use Rattle.std.proofs.lemmas.Str.{chars_from_encodes, chars-nil, encodes-append, encodes-chars, IsUtf8-string_bytes}
use Rattle.tough_names.specs.declared.pattern.item.Item.{Item}
use Rattle.tough_names.specs.declared.pattern.item.Item.TheVariants.{Text}
use Rattle.tough_names.specs.Glob.{Part}
use Rattle.tough_names.specs.Items.{literal, literals, item_parts, parts_of}

-- one more item
pub parts-more : (items : List Item) (item : Item) → parts_of (items ++ item ∷ []) ≡ parts_of items ++ item_parts item
parts-more items item = flat_map-append item_parts items (item ∷ []) ∙ ap (λ ps. parts_of items ++ ps) (append-nil (item_parts item))

-- no plain characters
pub no-literals : (ps : List Part) (text : List ℕ) → text ≡ [] → ps ++ literals (chars text) ≡ ps
no-literals ps text e = ap (λ t. ps ++ literals (chars t)) e ∙ ap (λ cs. ps ++ literals cs) chars-nil ∙ append-nil ps

-- the plain characters become an item
pub text-ended : (items more : List Item) (text : String Global) (left : List ℕ) → more ≡ items ++ Text text ∷ [] → left ≡ []
    → parts_of more ++ literals (chars left) ≡ parts_of items ++ literals (chars (string_bytes text))
text-ended items more text left e f = no-literals (parts_of more) left f ∙ ap parts_of e ∙ parts-more items (Text text)

-- an item of one part follows
pub part-added : (items more : List Item) (item : Item) (part : Part) (was left : List ℕ) → more ≡ items ++ item ∷ [] → item_parts item ≡ part ∷ [] → was ≡ [] → left ≡ was
    → parts_of more ++ literals (chars left) ≡ (parts_of items ++ literals (chars was)) ++ part ∷ []
part-added items more item part was left e is f g =
    no-literals (parts_of more) left (g ∙ f) ∙ ap parts_of e ∙ parts-more items item ∙ ap (λ ps. parts_of items ++ ps) is
    ∙ ap (λ ps. ps ++ part ∷ []) (sym (no-literals (parts_of items) was f))

-- one more plain character
pub chars-push : (old new : String Global) (c : ℕ) → string_bytes new ≡ string_bytes old ++ encode_utf8 c → chars (string_bytes new) ≡ chars (string_bytes old) ++ c ∷ []
chars-push old new c e = sym (chars_from_encodes (chars (string_bytes old) ++ c ∷ []) (string_bytes new) (IsUtf8-string_bytes new)
    (encodes-append (chars (string_bytes old)) (c ∷ [])
    ∙ ap (λ bs. bs ++ (encode_utf8 c ++ [])) (encodes-chars (string_bytes old) (IsUtf8-string_bytes old))
    ∙ ap (λ bs. string_bytes old ++ bs) (append-nil (encode_utf8 c)) ∙ sym e))

pub literal-added : (ps : List Part) (old new : String Global) (c : ℕ) → string_bytes new ≡ string_bytes old ++ encode_utf8 c
    → ps ++ literals (chars (string_bytes new)) ≡ (ps ++ literals (chars (string_bytes old))) ++ literal c ∷ []
literal-added ps old new c e =
    ap (λ cs. ps ++ literals cs) (chars-push old new c e)
    ∙ ap (λ ls. ps ++ ls) (map-append literal (chars (string_bytes old)) (c ∷ []))
    ∙ sym (append_assoc ps (literals (chars (string_bytes old))) (literal c ∷ []))
