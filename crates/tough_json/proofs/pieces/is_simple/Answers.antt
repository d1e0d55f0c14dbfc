use Rattle.std.proofs.Common.{sym, ap, ◌∙◌, ◌&&◌, nat_lt}
use Rattle.std.specs.List.{list_all}
use Rattle.tough_json.specs.Pieces.{is_simple_byte}
use Rattle.tough_json.proofs.lemmas.Piece.{simple-from}
use Rattle.tough_json.proofs.pieces.is_simple.Goals as goal

pub returns : goal.returns
returns c = λ h. simple-from c.args.name.now (ap (list_all (λ b. nat_lt b 128 && is_simple_byte b)) (sym c.as_bytes.ensures.value) ∙ sym c.has_simple_bytes.ensures ∙ h)
