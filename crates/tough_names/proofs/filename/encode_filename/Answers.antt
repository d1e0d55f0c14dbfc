use Rattle.std.proofs.Common.{◌≡◌, ◌<◌, ℕ, get_or, ◌∙◌, arith, rules, string_bytes}
use Rattle.percent_encoding.specs.Percent.{percent_encode}
use Rattle.tough_names.specs.declared.filename.TheConstants.{FILE_NAME}
use Rattle.tough_names.proofs.Unreserved.{filename_of-bytes}
use Rattle.tough_names.proofs.filename.encode_filename.Goals as goal

pub returns-clause-name : goal.returns-clause-name
returns-clause-name c =
    let name = c.args.name.now in
    let bytes : (i : ℕ) → get_or name i 0 < 256 = λ i. let f = c.type_inv.name i in omega arith in
    let text : string_bytes c.append_to.new.out ≡ percent_encode FILE_NAME name = search rules in
    text ∙ filename_of-bytes name bytes
