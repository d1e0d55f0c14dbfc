use Rattle.tough_p256.proofs.Constants.{room_words}
use Rattle.tough_p256.proofs.element.room.Goals as goal

pub returns : goal.returns
returns c = room_words
