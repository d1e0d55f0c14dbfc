-- What a step writes is read back.
use Rattle.std.proofs.Common.{◌≡◌, ℕ, List, Option, Some, option_and_then, sym, ap, ◌∙◌}
use Rattle.serde_json.specs.Data.{Data}
use Rattle.serde_json.specs.Read.{max_depth}
use Rattle.tough_json.specs.Pieces.{compact_of}
use Rattle.tough_json.specs.Results.{json_of}
use Rattle.tough_json.proofs.lemmas.Write.{some-inj}
use Rattle.tough_roles.specs.Readable.{NestsWithin, IsTextOf}
use Rattle.tough_roles.specs.Signature.{signed_at, signed_json, signed_doc}
use Rattle.tough_roles.specs.declared.signed.Signed.{Signed}
use Rattle.tough_roles.proofs.lemmas.Signed.{signed-read}
use Rattle.tough_checks.specs.Documents.{ReadsBack}

pub reads-back : {T A : Type 0} (f : Data → Option A) (doc : T → A) (json : A → Option Data) (s : Signed T) (text : List ℕ)
    → option_and_then compact_of (signed_json json (signed_doc doc s)) ≡ Some text
    → (NestsWithin max_depth (signed_json json (signed_doc doc s)) → IsTextOf (λ d x. f d ≡ Some (doc x)) s text)
    → ReadsBack (λ bytes. option_and_then (signed_at f) (json_of bytes)) (signed_json json (signed_doc doc s)) (signed_doc doc s) (option_and_then compact_of (signed_json json (signed_doc doc s)))
reads-back f doc json s text w back = λ bytes e nests.
    let t = back nests in
    let same : text ≡ bytes = some-inj (sym w ∙ e) in
    ap (λ x. option_and_then (signed_at f) (json_of x)) (sym same) ∙ (ap (option_and_then (signed_at f)) t.1 ∙ signed-read f doc t.0 s t.2)
