-- The pretty text of a value is read as the value, as its compact text is.
use Rattle.std.proofs.Common.{◌≡◌, ℕ, suc, zero, ◌*◌, ◌≤◌, Bool, true, false, List, [], ◌∷◌, ◌++◌, map, replicate, Option, Some, None, if◌then◌else◌, IsUtf8, inl, inr, option_and_then, refl, sym, ap, ◌∙◌, subst, append_assoc}
use Rattle.json.specs.Json as json
use Rattle.json.specs.Layout.{Last, nothing, bracket, name, value, is_value, line, gap, depth_at, after, step, piece, pretty, pretty_from}
use Rattle.json.specs.Lex.{tokens}
use Rattle.json.specs.Print.{ArePrintable, token_text, separator, begins, ends}
use Rattle.json.specs.Spaced.{IsGap, AreGaps, print_spaced}
use Rattle.json.specs.Token.{Token, begin_object, end_object, begin_array, end_array, key, string, number, boolean, null, bad}
use Rattle.json.specs.Tree.{json_tokens}
use Rattle.json.proofs.Printed.Tokens.{tokens-print, tokens-print_spaced}
use Rattle.json.proofs.Printed.Trees.{ArePrintable-json_tokens}
use Rattle.serde_json.specs.Data.{Data, depth}
use Rattle.serde_json.specs.Read.{of_json, read, max_depth}
use Rattle.serde_json.specs.Written.{outline, has_float, compact_text}
use Rattle.serde_json.proofs.Texts.{print-outline}
use Rattle.tough_json.specs.Pieces.{text_in}
use Rattle.tough_json.specs.declared.pieces.Form.TheVariants as forms
use Rattle.tough_json.proofs.lemmas.Computed.{then_some}
use Rattle.tough_json.proofs.lemmas.Json.{json_of-some}
use Rattle.tough_json.proofs.lemmas.Write.{bind_ok, some-inj}
use Rattle.tough_roles.specs.declared.signed.Signed.{Signed}
use Rattle.tough_roles.specs.Document.{document_json}
use Rattle.tough_roles.specs.Orderly.{IsOrderly}
use Rattle.tough_roles.specs.Readable.{NestsWithin, IsTextOf}
use Rattle.tough_roles.specs.Signature.{signatures_doc, signed_parts_json}
use Rattle.tough_roles.proofs.lemmas.Rereading.{numbers-outline, text-read}
use Rattle.tough_roles.proofs.lemmas.Rising.{document-orderly}
use Rattle.tough_roles.proofs.lemmas.Signed.{signed-back}
use Rattle.tough_sign.specs.Pretty.{pretty_text, pretty_in}
use Rattle.tough_sign.proofs.Newline.{read-newline}

-- ---- the tokens with the gaps before them

line-gap : (depth : ℕ) → IsGap (line depth)
line-gap depth = (inr refl, blanks (2 * depth))
  where
    blanks : (n : ℕ) → IsGap (replicate n 32)
    blanks zero = tt
    blanks (suc n) = (inl refl, blanks n)

gap-gap : (l : Last) (b : Bool) (depth : ℕ) → IsGap (gap l b depth)
gap-gap nothing b depth = tt
gap-gap bracket true depth = line-gap depth
gap-gap bracket false depth = tt
gap-gap name b depth = (inl refl, tt)
gap-gap value b depth = line-gap depth

abbrev spaced_from : Last × ℕ → List Token → List (List ℕ × Token)
spaced_from s [] = []
spaced_from s (t ∷ ts) = (gap s.0 (begins t) (depth_at s.1 t), t) ∷ spaced_from (step s t) ts

same-tokens : (s : Last × ℕ) (ts : List Token) → map (λ p. p.1) (spaced_from s ts) ≡ ts
same-tokens s [] = refl
same-tokens s (t ∷ ts) = ap (λ l. t ∷ l) (same-tokens (step s t) ts)

are-gaps : (s : Last × ℕ) (ts : List Token) → AreGaps (spaced_from s ts)
are-gaps s [] = tt
are-gaps s (t ∷ ts) = (gap-gap s.0 (begins t) (depth_at s.1 t), are-gaps (step s t) ts)

value-ends : (t : Token) (depth : ℕ) → is_value (after t depth).0 ≡ ends t
value-ends begin_object depth = refl
value-ends end_object depth = refl
value-ends begin_array depth = refl
value-ends end_array depth = refl
value-ends (key s) depth = refl
value-ends (string s) depth = refl
value-ends (number s) depth = refl
value-ends (boolean b) depth = refl
value-ends null depth = refl
value-ends bad depth = refl

pretty-spaced : (s : Last × ℕ) (ts : List Token) → pretty_from s ts ≡ print_spaced (is_value s.0) (spaced_from s ts)
unfolding pretty_from print_spaced
pretty-spaced s [] = refl
pretty-spaced s (t ∷ ts) =
    let rest = print_spaced (ends t) (spaced_from (step s t) ts) in
    ap (λ l. piece s t ++ l) (pretty-spaced (step s t) ts ∙ ap (λ b. print_spaced b (spaced_from (step s t) ts)) (value-ends t (depth_at s.1 t)))
    ∙ append_assoc (separator (is_value s.0) t) _ rest
    ∙ ap (λ l. separator (is_value s.0) t ++ l) (append_assoc (gap s.0 (begins t) (depth_at s.1 t)) (token_text t) rest)

tokens-pretty : (ts : List Token) → ArePrintable ts → tokens (pretty ts) ≡ ts
tokens-pretty ts h =
    let s : Last × ℕ = (nothing, 0) in
    ap tokens (pretty-spaced s ts) ∙ tokens-print_spaced (spaced_from s ts) (are-gaps s ts) (subst ArePrintable (sym (same-tokens s ts)) h) ∙ same-tokens s ts

-- ---- what is written is read

-- reading looks at the tokens alone
read-tokens : (s t : List ℕ) → tokens s ≡ tokens t → read s ≡ read t
read-tokens s t e = ap (λ (ts : List Token). option_and_then of_json (option_and_then (λ p. json.if_last p.0 p.1) (json.value max_depth ts))) e

pretty-read : (d : Data) → IsOrderly d → has_float d ≡ false → depth d ≤ max_depth → read (pretty_text d) ≡ Some d
pretty-read d o f shallow =
    let ts = json_tokens (outline d) in
    let printable : ArePrintable ts = ArePrintable-json_tokens (outline d) (numbers-outline d o f) in
    let same : tokens (pretty ts) ≡ tokens (compact_text d) = tokens-pretty ts printable ∙ sym (ap tokens (sym (print-outline d)) ∙ tokens-print ts printable) in
    read-newline (pretty ts) ∙ read-tokens (pretty ts) (compact_text d) same ∙ text-read d o f shallow

no-float : (d : Data) (bytes : List ℕ) (b : Bool) → has_float d ≡ b → (if b then None else Some (pretty_text d)) ≡ Some bytes → (has_float d ≡ false) × (pretty_text d ≡ bytes)
no-float d bytes true f h = cc
no-float d bytes false f h = (f, some-inj h)

-- the document is read from its pretty text, where its role's JSON is in order and read as the role
pub pieces-back : {T : Type 0} (json : T → Option Data) (is_read : Data → T → Type 0) (s : Signed T) (bytes : List ℕ) → option_and_then pretty_in (document_json json s) ≡ Some bytes → IsUtf8 bytes
    → ((role : Data) → json s.signed ≡ Some role → IsOrderly role × is_read role s.signed) → NestsWithin max_depth (document_json json s) → IsTextOf is_read s bytes
pieces-back json is_read s bytes told utf8 known within =
    let ss = signatures_doc s.signatures.items in
    let d = then_some pretty_in (document_json json s) bytes told in
    let role = bind_ok (json s.signed) (λ r. signed_parts_json r ss) d.0 d.1 in
    let back = known role.0 role.1 in
    let plain = no-float d.0 bytes (has_float d.0) refl d.2 in
    let shallow : depth d.0 ≤ max_depth = subst (NestsWithin max_depth) d.1 within in (
      d.0,
      json_of-some bytes d.0 utf8 (ap read (sym plain.1) ∙ pretty-read d.0 (document-orderly role.0 ss d.0 role.2 back.0) plain.0 shallow),
      record { role = role.0; found = signed-back role.0 ss d.0 role.2; read = back.1 },
    )

-- ---- what is laid out, where the compact text is told

either-told : (d : Data) (text shown : List ℕ) (b : Bool) → has_float d ≡ b → (if b then None else Some (compact_text d)) ≡ Some text
    → ((e : Data) → has_float e ≡ false → compact_text e ≡ text → shown ≡ pretty_text e) → (if b then None else Some (pretty_text d)) ≡ Some shown
either-told d text shown true f h laid = cc
either-told d text shown false f h laid = ap Some (sym (laid d f (some-inj h)))

pub laid-told : (o : Option Data) (text shown : List ℕ) → option_and_then (text_in forms.Compact) o ≡ Some text
    → ((d : Data) → has_float d ≡ false → compact_text d ≡ text → shown ≡ pretty_text d) → option_and_then pretty_in o ≡ Some shown
laid-told None text shown h laid = cc
laid-told (Some d) text shown h laid = either-told d text shown (has_float d) refl h laid

either-refused : (d : Data) (b : Bool) → (if b then None else Some (compact_text d)) ≡ None → (if b then None else Some (pretty_text d)) ≡ None
either-refused d true h = refl
either-refused d false h = cc

pub laid-refused : (o : Option Data) → option_and_then (text_in forms.Compact) o ≡ None → option_and_then pretty_in o ≡ None
laid-refused None h = refl
laid-refused (Some d) h = either-refused d (has_float d) h
