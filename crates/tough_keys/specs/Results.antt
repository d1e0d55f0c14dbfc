-- What signing and parsing answer.
use Rattle.std.specs.Prelude.{◌≡◌, Option, Some, None, Result, Ok, Err, ⊤}
use Rattle.tough_keys.specs.declared.key.Key.{Key}
use Rattle.tough_keys.specs.declared.parse.KeyParseError.{KeyParseError}
use Rattle.tough_keys.specs.declared.parse.KeyParseError.TheVariants as parses
use Rattle.tough_keys.specs.Key.{KeyDoc, key_doc}

abbrev pub RefusesParse : KeyParseError → Option KeyDoc → Type 0
RefusesParse parses.NotAKey answer = answer ≡ None
RefusesParse parses.Memory answer = ⊤

abbrev pub Parses : Result Key KeyParseError → Option KeyDoc → Type 0
Parses (Ok key) answer = answer ≡ Some (key_doc key)
Parses (Err e) answer = RefusesParse e answer
