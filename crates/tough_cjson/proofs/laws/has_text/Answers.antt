use Rattle.tough_cjson.proofs.Existence.{text_of}
use Rattle.tough_cjson.proofs.laws.has_text.Goals as goal

pub returns : goal.returns
returns c = text_of
