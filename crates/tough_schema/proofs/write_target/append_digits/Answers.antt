use Rattle.std.proofs.Common.{◌≡◌, Some, option_and_then, IfOk, sym, subst}
use Rattle.serde_json.specs.Data.{string}
use Rattle.tough_json.specs.declared.pieces.Form.{Form}
use Rattle.tough_json.specs.Pieces.{text_in, Appends}
use Rattle.tough_json.specs.Writing.{hexadecimal_json}
use Rattle.tough_schema.proofs.TargetLemmas.{digits-are}
use Rattle.tough_schema.proofs.write_target.append_digits.Goals as goal

pub returns : goal.returns
returns c =
    let is : hexadecimal_json c.args.digest.now ≡ Some (string c.as_str.result.now) = digits-are c.args.digest.now c.as_str.result.now c.as_str.ensures.text c.as_str.ensures.read in
    subst (λ o. IfOk c.append_quoted.result (λ t. (form : Form) → Appends c.args.out.items (option_and_then (text_in form) o) t.items)) (sym is) c.append_quoted.ensures
