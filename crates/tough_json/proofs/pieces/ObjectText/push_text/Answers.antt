use Rattle.std.proofs.Common.{refl}
use Rattle.tough_json.proofs.lemmas.Piece.{stands-last}
use Rattle.tough_json.proofs.pieces.ObjectText.push_text.Goals as goal

pub returns : goal.returns
returns c = λ base form ms d s is.
    let named = c.in_ok-write_name.ensures.named base form ms s in
    (named.0, stands-last base form ms c.args.name.now d _ _ _ _ named.1 (c.args.text.now, is, c.in_ok-extend_from_slice.ensures.items) refl refl c.in_ok-write_name.ensures.more)
