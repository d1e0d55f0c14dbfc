use Rattle.std.proofs.Common.{refl}
use Rattle.std.specs.Str.{chars as str_chars}
use lib.Utf8.{encode}
use Rattle.unicode_normalization.proofs.Computing.{unicode_normalization}
use Rattle.tough_cjson.specs.Canon.{nfc_text}
use Rattle.tough_cjson.proofs.laws.e_acute_twice.Goals as goal

pub returns : goal.returns
unfolding unicode_normalization nfc_text str_chars encode
returns c = λ v w. refl
