use Rattle.std.proofs.Common.{◌≡◌, [], ◌∷◌, refl}
use Rattle.std.specs.Str.{chars as str_chars}
use lib.Utf8.{encode}
use Rattle.unicode_normalization.proofs.Computing.{unicode_normalization}
use Rattle.tough_cjson.specs.Canon.{nfc_text, escaped, quoted}
use Rattle.tough_cjson.proofs.laws.e_acute.Goals as goal

text : (34 ∷ 0xC3 ∷ 0xA9 ∷ 34 ∷ []) ≡ quoted (nfc_text (101 ∷ 0xCC ∷ 0x81 ∷ []))
unfolding unicode_normalization nfc_text escaped str_chars encode
text = refl

pub returns : goal.returns
returns c = text
