use Rattle.std.proofs.Common.{◌≡◌, subst, sym, ◌∙◌}
use Rattle.std.specs.Prelude.{IsAscii}
use Rattle.base64.specs.GeneralPurpose.{encode_of}
use Rattle.base64.specs.Engines.{standard}
use Rattle.base64.proofs.EngineFacts.{IsAscii-encode_of}
use Rattle.tough_der.proofs.lines.write_pem.Goals as goal

pub push_lines-requires : goal.push_lines-requires
push_lines-requires c =
    let e : c.as_str.result.now ≡ encode_of standard c.args.bytes.now = c.as_str.ensures.value ∙ c.in_ok-symbols.ensures.text in
    subst IsAscii (sym e) (IsAscii-encode_of standard c.args.bytes.now)
