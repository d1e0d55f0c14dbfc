use Rattle.std.proofs.Common.{◌≡◌, Some, ap, ◌∙◌, arith, string_bytes}
use Rattle.std.proofs.lemmas.Result.{IfOk-weaker}
use Rattle.hex.specs.Hex.{IsBytes}
use Rattle.hex.proofs.HexLemmas.{decode_of-encode_lower}
use Rattle.tough_decoded.specs.Spelled.{ok_of, hex_bytes}
use Rattle.tough_decoded.proofs.decoded.digits.Goals as goal

pub returns-clause-read : goal.returns-clause-read
returns-clause-read c =
    let bytes = c.args.bytes.now in
    let fits : IsBytes bytes = λ i. let f = c.type_inv.bytes i in omega arith in
    IfOk-weaker c.encode.result _ (λ t. hex_bytes (string_bytes t) ≡ Some bytes)
    (λ t h. ap hex_bytes h ∙ ap ok_of (decode_of-encode_lower bytes fits)) c.encode.ensures
