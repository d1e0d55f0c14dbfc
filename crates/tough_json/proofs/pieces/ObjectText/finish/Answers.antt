use Rattle.tough_json.proofs.lemmas.Piece.{finished}
use Rattle.tough_json.proofs.pieces.ObjectText.finish.Goals as goal

pub returns : goal.returns
returns c = λ base form ms s. finished base form ms c.args.self _ s c.in_ok-extend_from_slice.ensures.items
