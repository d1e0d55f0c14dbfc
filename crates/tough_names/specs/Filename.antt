-- The names of the files of roles.
use Rattle.std.specs.Prelude.{ℕ, ◌==◌, ◌&&◌, ◌||◌, nat_le, Bool, List, [], ◌∷◌, flat_map, if◌then◌else◌}
use Rattle.percent_encoding.specs.Percent.{percent_encode_byte}

-- an ASCII letter or digit, or one of `-`, `.`, `_` and `~` (RFC 3986, section 2.3)
abbrev pub is_unreserved : ℕ → Bool
is_unreserved b =
    (nat_le 65 b && nat_le b 90) || ((nat_le 97 b && nat_le b 122) || ((nat_le 48 b && nat_le b 57) || (b == 45 || (b == 46 || (b == 95 || b == 126)))))

-- an unreserved byte as it stands, and any other as `%` and its two upper-case digits (RFC 3986, section 2.1)
abbrev pub filename_byte : ℕ → List ℕ
filename_byte b = if is_unreserved b then b ∷ [] else percent_encode_byte b

-- the name of the file of a role, by the bytes of the role's name
unfoldable pub filename_of : List ℕ → List ℕ
filename_of name = flat_map filename_byte name
