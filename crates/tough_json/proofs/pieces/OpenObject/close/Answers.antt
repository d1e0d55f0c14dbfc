use Rattle.std.proofs.Common.{refl}
use Rattle.tough_json.proofs.lemmas.Piece.{stands-last}
use Rattle.tough_json.proofs.pieces.OpenObject.close.Goals as goal

pub returns : goal.returns
returns c = λ base form ms n d before s told. stands-last base form ms n d _ _ before _ s told refl refl refl
