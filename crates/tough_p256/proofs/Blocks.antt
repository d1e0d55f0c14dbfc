-- A key's block by its bytes.
use Rattle.std.proofs.Common.{◌≡◌, ⊎_elim, ℕ, ◌-◌, ◌<◌, ◌≤◌, List, ◌++◌, length, get_or, replicate, bit_xor, sym, ap, ◌∙◌, arith, length-append}
use Rattle.std.proofs.lemmas.Bool.{cases_lt}
use Rattle.std.proofs.lemmas.List.{ext_get_or, get_or-map, get_or-replicate, get_or_append_left, get_or-append_right, length-map, length-replicate}
use Rattle.tough_p256.specs.Hmac.{key_block}

padded : (key : List ℕ) → length key ≡ 32 → length (key ++ replicate (64 - length key) 0) ≡ 64
padded key h = length-append key (replicate (64 - length key) 0) ∙ omega (arith, length-replicate {A = ℕ} (64 - length key) 0)

block_at : (key : List ℕ) (byte k : ℕ) → length key ≡ 32 → k < 64 → get_or (key_block key byte) k 0 ≡ bit_xor (get_or (key ++ replicate (64 - length key) 0) k 0) byte
block_at key byte k h l = get_or-map (λ b. bit_xor b byte) (key ++ replicate (64 - length key) 0) k 0 0 (omega (arith, padded key h))

pub block_all : (bs key : List ℕ) (byte : ℕ) → length bs ≡ 64 → length key ≡ 32
    → ((k : ℕ) → k < 32 → get_or bs k 0 ≡ bit_xor (get_or key k 0) byte)
    → ((k : ℕ) → 32 ≤ k → k < 64 → get_or bs k 0 ≡ byte)
    → bs ≡ key_block key byte
block_all bs key byte l n f g =
    ext_get_or 0 bs (key_block key byte) (l ∙ sym (length-map (key ++ replicate (64 - length key) 0) (λ b. bit_xor b byte) ∙ padded key n))
    (λ k h. ⊎_elim (low k) (high k (omega arith)) (cases_lt k 32))
  where
    low : (k : ℕ) → k < 32 → get_or bs k 0 ≡ get_or (key_block key byte) k 0
    low k h = f k h ∙ sym (block_at key byte k n (omega arith) ∙ ap (λ b. bit_xor b byte) (get_or_append_left key (replicate (64 - length key) 0) 0 k (omega arith)))

    high : (k : ℕ) → k < 64 → 32 ≤ k → get_or bs k 0 ≡ get_or (key_block key byte) k 0
    high k h m =
        let a = get_or-append_right key (replicate (64 - length key) 0) 32 k 0 n m in
        let b = get_or-replicate (64 - length key) (k - 32) 0 0 (omega arith) in
        g k m h ∙ sym (block_at key byte k n h ∙ ap (λ b. bit_xor b byte) (a ∙ b))
