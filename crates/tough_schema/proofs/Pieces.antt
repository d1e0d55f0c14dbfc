-- A file that is read piece by piece.
use Rattle.std.proofs.Common.{◌≡◌, ℕ, ◌+◌, ◌-◌, ◌<◌, ◌≤◌, List, ◌++◌, take, drop, length, min, Option, Some, sym, ap, ◌∙◌, arith}
use Rattle.std.proofs.lemmas.List.{length-take, length-take-le, length-drop, take_min}
use Rattle.std.proofs.Math.Seq.{take-add}
use Rattle.tough_files.specs.Contents.{Node, file, Contents, Same}
use Rattle.tough_files.specs.Calls.{got}
use Rattle.tough_files.specs.Changes.{read_answer}
use Rattle.tough_schema.specs.FileDigest.{there}

-- n bytes of the file from a place on, as many as there are up to a bound
pub record Piece (bytes buf : List ℕ) (start n : ℕ) : Type 0 where
  pub within : start + n ≤ length bytes
  pub more : take start bytes ++ take n buf ≡ take (start + n) bytes
  pub ended : n ≡ 0 → start + n ≡ length bytes

bytes_in : (o : Option Node) (bytes got_bytes : List ℕ) (start len : ℕ) → o ≡ Some (file bytes) → got got_bytes ≡ read_answer start len o → got_bytes ≡ take len (drop start bytes)
bytes_in o bytes got_bytes start len is h = let e : got got_bytes ≡ got (take len (drop start bytes)) = h ∙ ap (read_answer start len) is in cc

pub piece-from : (o : Option Node) (bytes buf : List ℕ) (start len n : ℕ) → o ≡ Some (file bytes) → got (take n buf) ≡ read_answer start len o → n ≤ length buf → 0 < len → start ≤ length bytes → Piece bytes buf start n
piece-from o bytes buf start len n is h fits some within =
    let e : take n buf ≡ take len (drop start bytes) = bytes_in o bytes (take n buf) start len is h in
    let count : n ≡ min len (length bytes - start) = sym (length-take-le n buf fits) ∙ ap length e ∙ length-take len (drop start bytes) ∙ ap (min len) (length-drop start bytes) in
    let same : n ≡ min len (length (drop start bytes)) = count ∙ ap (min len) (sym (length-drop start bytes)) in
    record {
      within = omega (arith, count);
      more = ap (λ l. take start bytes ++ l) (e ∙ sym (take_min len (drop start bytes)) ∙ ap (λ k. take k (drop start bytes)) (sym same)) ∙ sym (take-add start n bytes);
      ended = λ (none : n ≡ 0). omega (arith, count, none);
    }

-- what stands there stays where the contents do
pub there-kept : (path : List ℕ) (before after : Contents) → Same before after → there path after ≡ there path before
there-kept path before after same = let e : after ≡ before = λ i q. same q i in ap (there path) e
