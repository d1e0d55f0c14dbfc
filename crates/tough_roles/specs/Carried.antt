-- The errors of values, carried into that of documents.
use Rattle.std.specs.Prelude.{Bool, true, false}
use Rattle.tough_decoded.specs.declared.decoded.DecodeError.{DecodeError}
use Rattle.tough_decoded.specs.declared.decoded.DecodeError.TheVariants as decoding
use Rattle.tough_names.specs.declared.pattern.reading.PatternError.{PatternError}
use Rattle.tough_names.specs.declared.pattern.reading.PatternError.TheVariants as pattern
use Rattle.tough_roles.specs.declared.error.Error.{Error}
use Rattle.tough_roles.specs.declared.error.Error.TheVariants as errors

abbrev pub decode_error : DecodeError → Error
decode_error decoding.HexDecode = errors.HexDecode
decode_error decoding.PemDecode = errors.PemDecode
decode_error decoding.Memory = errors.Memory

abbrev pub pattern_error : PatternError → Error
pattern_error pattern.Glob = errors.Glob
pattern_error pattern.Memory = errors.Memory

-- a request for memory was refused
abbrev pub wants_memory : Error → Bool
wants_memory errors.Memory = true
wants_memory _ = false
