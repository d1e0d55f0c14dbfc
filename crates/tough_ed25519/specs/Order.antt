-- L, the order of the base point of edwards25519 (RFC 8032, 5.1).
use Rattle.std.specs.Prelude.{ℕ, ◌+◌, ◌^◌}

abbrev pub order : ℕ
order = 2 ^ 252 + 27742317777372353535851937790883648493
