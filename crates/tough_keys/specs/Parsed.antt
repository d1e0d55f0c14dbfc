-- A key from a text: 64 hexadecimal digits are an Ed25519 key.
use Rattle.std.specs.Prelude.{ℕ, ◌==◌, List, length, Option, None, option_map, if◌then◌else◌}
use Rattle.tough_decoded.specs.Spelled.{Spelled, hex_bytes}
use Rattle.serde_json.specs.Data.{no_members}
use Rattle.tough_json.specs.Reading.{spelled}
use Rattle.tough_keys.specs.declared.kind.Kind.TheVariants as kinds
use Rattle.tough_keys.specs.Key.{KeyDoc}

abbrev pub ed25519_key : Spelled → KeyDoc
ed25519_key public = record { kind = kinds.Ed25519; public = public; keyval_extra = no_members; extra = no_members }

abbrev pub parsed_key : List ℕ → Option KeyDoc
parsed_key text = if length text == 64 then option_map ed25519_key (spelled hex_bytes text) else None
