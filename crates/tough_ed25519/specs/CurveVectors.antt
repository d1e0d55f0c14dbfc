-- The numbers of TEST 1 of RFC 8032, 7.1. Hexadecimal digits stand with the highest byte first, and so the other way round than there.
use Rattle.std.specs.Prelude.{ℕ}

abbrev pub first_key : ℕ
first_key = 0x1a5107f7681a02af_2523a6daf372e10e_3a0764c9d3fe4bd5_b70ab18201985ad7

abbrev pub first_r : ℕ
first_r = 0x5501492265e073d8_74d9e5b81e7f8784_8a826e80cce28690_72ac60c3004356e5

abbrev pub first_s : ℕ
first_s = 0x0b107a8e43415165_24be5b59f0f55bd2_6bb4f91c70391ec6_ac3ba3901582b85f

-- the SHA-512 of R, the key and the empty message, modulo L
abbrev pub first_k : ℕ
first_k = 0x0454522e167e3e8a_132cec316125d8f8_6cdf00c6e7040529_3d19964c8ebcea86
