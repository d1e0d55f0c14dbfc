-- Different names have different escapes (percent-encoding, RFC 3986, section 2.1).
use Rattle.std.specs.Prelude.{◌≡◌, ◌<◌, ◌^◌, ℕ, List, All}
use Rattle.percent_encoding.specs.Percent.{percent_encode}
use Rattle.tough_names.specs.declared.filename.TheConstants.{FILE_NAME}

abbrev pub EncodesApart : Type 0
EncodesApart = (a b : List ℕ) → All (λ x. x < 2 ^ 8) a → All (λ x. x < 2 ^ 8) b → percent_encode FILE_NAME a ≡ percent_encode FILE_NAME b → a ≡ b
