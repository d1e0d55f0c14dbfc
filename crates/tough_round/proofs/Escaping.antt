-- How the names of roles are escaped.
use Rattle.std.proofs.Common.{codes, decimal, IsUtf8, refl}
use Rattle.std.proofs.lemmas.Str.{IsUtf8-append, IsUtf8-from_is_utf8, IsUtf8-from_ascii}
use Rattle.std.proofs.lemmas.Fmt.{IsAscii-decimal_wide}
use Rattle.std.specs.Str.{is_utf8, chars}
use lib.Utf8.{encode}
use Rattle.tough_names.specs.Apart.{EncodesApart}
use Rattle.tough_names.specs.Filename.{filename_of}
use Rattle.tough_names.proofs.lemmas.Filenames.{filename_of-unreserved}
use Rattle.tough_round.proofs.Encoding.{rooted, files-apart}
use Rattle.tough_round.proofs.Serving.{Encodes}

pub escapes : EncodesApart → Encodes IsUtf8 filename_of
unfolding is_utf8 chars encode
escapes apart = record {
  apart = files-apart apart;
  root = (IsUtf8-from_is_utf8 (codes "root") refl, filename_of-unreserved (codes "root") refl);
  targets = (IsUtf8-from_is_utf8 (codes "targets") refl, filename_of-unreserved (codes "targets") refl);
  snapshot = (IsUtf8-from_is_utf8 (codes "snapshot") refl, filename_of-unreserved (codes "snapshot") refl);
  timestamp = (IsUtf8-from_is_utf8 (codes "timestamp") refl, filename_of-unreserved (codes "timestamp") refl);
  rooted = λ n small. (IsUtf8-append (decimal n) (codes ".root") (IsUtf8-from_ascii (decimal n) (IsAscii-decimal_wide n small)) (IsUtf8-from_is_utf8 (codes ".root") refl), rooted n small);
}
