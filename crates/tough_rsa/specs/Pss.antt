-- EMSA-PSS with SHA-256, MGF1 over SHA-256 and a salt of 32 bytes (RFC 8017, 9.1.2 and B.2.1).
use Rattle.std.specs.Prelude.{ℕ, zero, suc, ◌+◌, ◌-◌, ◌*◌, ◌/◌, ◌%◌, ◌^◌, Bool, ◌&&◌, nat_eq, nat_lt, nat_le, List, [], ◌∷◌, ◌++◌, length, take, drop, replicate, slice_index, bit_xor}
use Rattle.std.specs.List.{list_all}
use Rattle.std.specs.Str.{bytes_eq}
use Rattle.sha2.specs.Sha256.{sha256}
use Rattle.tough_modular.specs.Octets.{number_octets}

-- the hash of the seed and a counter
abbrev pub mask_block : List ℕ → ℕ → List ℕ
mask_block seed counter = sha256 (seed ++ number_octets counter 4)

-- T (B.2.1, 3): so many of them, from this counter on
unfoldable pub mask_blocks : List ℕ → ℕ → ℕ → List ℕ
mask_blocks seed counter zero = []
mask_blocks seed counter (suc k) = mask_block seed counter ++ mask_blocks seed (suc counter) k

-- MGF1 (B.2.1)
unfoldable pub mgf1 : List ℕ → ℕ → List ℕ
mgf1 seed len = take len (mask_blocks seed 0 ((len + 31) / 32))

-- the leftmost bits of the leftmost byte set to zero, so many
unfoldable pub clear_bits : ℕ → List ℕ → List ℕ
clear_bits free [] = []
clear_bits free (b ∷ bs) = (b % 2 ^ (8 - free)) ∷ bs

-- byte by byte
unfoldable pub xor_all : List ℕ → List ℕ → List ℕ
xor_all [] ys = []
xor_all (x ∷ xs) [] = []
xor_all (x ∷ xs) (y ∷ ys) = bit_xor x y ∷ xor_all xs ys

-- DB (7, 8, 9)
abbrev pub unmasked : List ℕ → List ℕ → ℕ → List ℕ
unmasked masked h free = clear_bits free (xor_all masked (mgf1 h (length masked)))

-- the leftmost bytes are zero, and 0x01 follows (10)
abbrev pub is_padded : List ℕ → Bool
is_padded db = list_all (λ b. nat_eq b 0) (take (length db - 33) db) && nat_eq (slice_index db (length db - 33)) 1

-- H' (12, 13)
abbrev pub salted_hash : List ℕ → List ℕ → List ℕ
salted_hash message salt = sha256 (replicate 8 0 ++ sha256 message ++ salt)

-- 10, and with the last 32 bytes of DB as the salt (11), H = H' (14)
unfoldable pub is_consistent : List ℕ → List ℕ → List ℕ → Bool
is_consistent message h db = is_padded db && bytes_eq h (salted_hash message (drop (length db - 32) db))

-- with maskedDB and H (5): 6, and what follows
unfoldable pub halves_match : List ℕ → List ℕ → List ℕ → ℕ → Bool
halves_match message masked h free =
    nat_lt (slice_index masked 0) (2 ^ (8 - free)) && is_consistent message h (unmasked masked h free)

-- EMSA-PSS-VERIFY (9.1.2): 3, 4, and what follows
unfoldable pub emsa_pss_verify : List ℕ → List ℕ → ℕ → Bool
emsa_pss_verify message em bits =
    nat_le 66 (length em) && nat_eq (slice_index em (length em - 1)) 0xbc
    && halves_match message (take (length em - 33) em) (take 32 (drop (length em - 33) em)) (8 * length em - bits)
