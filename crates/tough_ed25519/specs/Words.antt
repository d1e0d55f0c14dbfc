-- The number that words stand for.
use Rattle.std.specs.Prelude.{ℕ, ◌+◌, ◌*◌, ◌^◌}
use Rattle.tough_ed25519.specs.declared.field.words.Words.{Words}

abbrev pub words_number : Words → ℕ
words_number w = w.first + 2 ^ 64 * (w.second + 2 ^ 64 * (w.third + 2 ^ 64 * w.fourth))
