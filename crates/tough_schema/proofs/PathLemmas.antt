-- Texts that are patterns.
use Rattle.std.proofs.Common.{◌≡◌, ℕ, List, Option, Some, None, option_map, chars, refl}
use Rattle.tough_names.specs.Glob.{Part}
use Rattle.tough_names.specs.Grammar.{parts_in}
use Rattle.tough_names.specs.Spelling.{IsPattern}
use Rattle.tough_names.proofs.lemmas.Patterns.{is_pattern, no_pattern}
use Rattle.tough_json.specs.declared.error.ReadError.{ReadError}
use Rattle.tough_json.specs.declared.error.ReadError.TheVariants as errors
use Rattle.tough_json.specs.Results.{Refuses, IsRefusal}
use Rattle.tough_schema.specs.Paths.{if_pattern}

is_at : (s : List ℕ) (o : Option (List Part)) → parts_in (chars s) ≡ o → IsPattern (chars s) → option_map (λ parts. s) o ≡ Some s
is_at s None h p = absurd (no_pattern (chars s) h p)
is_at s (Some parts) h p = refl

pub if_pattern_is : (s : List ℕ) → IsPattern (chars s) → if_pattern s ≡ Some s
if_pattern_is s p = is_at s (parts_in (chars s)) refl p

none_at : (s : List ℕ) (o : Option (List Part)) → parts_in (chars s) ≡ o → (IsPattern (chars s) → ⊥) → option_map (λ parts. s) o ≡ None
none_at s None h apart = refl
none_at s (Some parts) h apart = absurd (apart (is_pattern (chars s) parts h))

pub if_pattern_none : (s : List ℕ) → (IsPattern (chars s) → ⊥) → if_pattern s ≡ None
if_pattern_none s apart = none_at s (parts_in (chars s)) refl apart

pub refuses_pattern : (e : ReadError) (s : List ℕ) → IsRefusal e → (IsPattern (chars s) → ⊥) → Refuses e (if_pattern s)
refuses_pattern (errors.Json place) s refusal apart = refusal
refuses_pattern (errors.Shape t) s refusal apart = if_pattern_none s apart
refuses_pattern errors.Memory s refusal apart = tt
