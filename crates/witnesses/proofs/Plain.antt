-- From the types of documents to their plain forms.
use Rattle.std.specs.Prelude.{◌≡◌, ℕ, List, Option, Some, option_and_then}
use Rattle.std.proofs.Common.{ap, ◌∙◌}
use Rattle.serde_json.specs.Data.{Data}
use Rattle.tough_json.specs.Results.{json_of}
use Rattle.tough_keys.specs.Same.{Verifies}
use Rattle.tough_roles.specs.Chain.{ReachesUnder}
use Rattle.tough_roles.specs.Readable.{IsTextOf}
use Rattle.tough_roles.specs.Root.{RootDoc}
use Rattle.tough_roles.specs.Signature.{signed_doc, signed_at}
use Rattle.tough_roles.specs.declared.role_type.RoleType.{RoleType}
use Rattle.tough_roles.specs.declared.signed.Signed.{Signed}
use Rattle.tough_roles.proofs.lemmas.Signed.{signed-read}

pub reads : {T A : Type 0} (at : Data → Option A) (doc : T → A) (s : Signed T) (bytes : List ℕ) → IsTextOf (λ d x. at d ≡ Some (doc x)) s bytes
    → option_and_then (signed_at at) (json_of bytes) ≡ Some (signed_doc doc s)
reads at doc s bytes (d, is, h) = ap (option_and_then (signed_at at)) is ∙ signed-read at doc d s h

pub under : {T A : Type 0} (json : A → Option Data) (doc : T → A) (v : Verifies) (r : RootDoc) (type : RoleType) (s : Signed T) → ReachesUnder v r type (λ x. json (doc x)) (signed_doc (λ x. x) s) → ReachesUnder v r type json (signed_doc doc s)
under json doc v r type s h = record { asked = h.asked; there = h.there; text = h.text; canonical = h.canonical; reached = h.reached }
