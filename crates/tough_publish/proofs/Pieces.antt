-- A file that is read piece by piece.
use Rattle.std.specs.Prelude.{◌≡◌, ◌≢◌, ◌⊎◌, ℕ, ◌+◌, ◌-◌, ◌^◌, ◌≤◌, List, ◌++◌, length, take, drop, Option, Some, None, Result, Ok, Err, Vec}
use Rattle.std.specs.declared.alloc.Global.{Global}
use Rattle.std.proofs.Common.{sym, ap, ◌∙◌, subst, inl, inr, refl, arith, min, length-append}
use Rattle.std.proofs.lemmas.List.{length-take, length-drop, take_all, take_min}
use Rattle.std.proofs.Math.Seq.{take-add}
use Rattle.tough_files.specs.Contents.{Node, file, Contents, Same}
use Rattle.tough_files.specs.declared.files.FilesError.{FilesError}
use Rattle.tough_files.specs.declared.files.FilesError.TheVariants as fault
use Rattle.tough_schema.specs.FileDigest.{there, IsEndless}
use Rattle.tough_publish.specs.Files.{next_piece, ReadsOn, IsContent, IsUnread}

abbrev IsFile : Option Node → Type 0
IsFile n = (b : List ℕ) × (n ≡ Some (file b))

-- after so many reads: a beginning of the file, of as many bytes at least
abbrev pub Begins : Option Node → List ℕ → ℕ → Type 0
Begins n old count = (count ≢ 0 → IsFile n) × ((b : List ℕ) → n ≡ Some (file b) → (old ≡ take (length old) b) × (length old ≤ length b) × (count ≤ length old))

pub there_kept : (path : List ℕ) (before after : Contents) → Same before after → there path after ≡ there path before
there_kept path before after same = let e : after ≡ before = λ i q. same q i in ap (there path) e

same_file : (n : Option Node) (a b : List ℕ) → n ≡ Some (file a) → n ≡ Some (file b) → a ≡ b
same_file n a b p q = let e : Some (file a) ≡ Some (file b) = sym p ∙ q in cc

piece_length : (old b : List ℕ) → length (next_piece old b) ≡ min 4096 (length b - length old)
piece_length old b = length-take 4096 (drop (length old) b) ∙ ap (min 4096) (length-drop (length old) b)

piece_taken : (old b : List ℕ) → next_piece old b ≡ take (length (next_piece old b)) (drop (length old) b)
piece_taken old b = sym (take_min 4096 (drop (length old) b)) ∙ ap (λ k. take k (drop (length old) b)) (sym (length-take 4096 (drop (length old) b)))

-- with the next piece it is a beginning, too
next_begins : (old b : List ℕ) → old ≡ take (length old) b → length old ≤ length b
    → (old ++ next_piece old b ≡ take (length (old ++ next_piece old b)) b) × (length (old ++ next_piece old b) ≤ length b)
next_begins old b is within =
    let p = next_piece old b in
    let joined : old ++ p ≡ take (length old + length p) b = ap (λ l. l ++ p) is ∙ ap (λ l. take (length old) b ++ l) (piece_taken old b) ∙ sym (take-add (length old) (length p) b) in
    let size : length (old ++ p) ≡ length old + length p = length-append old p in
    let count = piece_length old b in
    (joined ∙ ap (λ k. take k b) (sym size), omega (arith, size, count, within))

-- a read that takes nothing has taken all
next_whole : (old b : List ℕ) → old ≡ take (length old) b → length old ≤ length b → length (next_piece old b) ≡ 0 → old ++ next_piece old b ≡ b
next_whole old b is within none =
    let p = next_piece old b in
    let size : length (old ++ p) ≡ length old + length p = length-append old p in
    let count = piece_length old b in
    let all : length b ≤ length (old ++ p) = omega (arith, size, count, within, none) in
    (next_begins old b is within).0 ∙ take_all (length (old ++ p)) b all

-- ---- what the loop keeps

pub reads_more : (n : Option Node) (old new : List ℕ) (k count : ℕ) → Begins n old k → ReadsOn n old (Ok count) new → count ≢ 0 → Begins n new (k + 1)
reads_more n old new k count begins (bytes, is, more, many) some = (
  λ done. (bytes, is),
  λ b at.
      let at_old : n ≡ Some (file bytes) = is in
      let same : bytes ≡ b = same_file n bytes b is at in
      let old_is = begins.1 bytes is in
      let next = next_begins old bytes old_is.0 old_is.1 in
      let size : length (old ++ next_piece old bytes) ≡ length old + length (next_piece old bytes) = length-append old (next_piece old bytes) in
      let enough : k ≤ length old = old_is.2 in
      let longer : k + 1 ≤ length (old ++ next_piece old bytes) = omega (arith, size, enough, many, some) in
      subst (λ x. (new ≡ take (length new) x) × (length new ≤ length x) × (k + 1 ≤ length new)) same
      (subst (λ x. (x ≡ take (length x) bytes) × (length x ≤ length bytes) × (k + 1 ≤ length x)) (sym more) (next.0, next.1, longer)),
)

pub reads_all : (n : Option Node) (old new : List ℕ) (k count : ℕ) → Begins n old k → ReadsOn n old (Ok count) new → count ≡ 0 → n ≡ Some (file new)
reads_all n old new k count begins (bytes, is, more, many) none =
    let old_is = begins.1 bytes is in
    is ∙ ap (λ x. Some (file x)) (sym (next_whole old bytes old_is.0 old_is.1 (sym many ∙ none)) ∙ sym more)

pub read_refused : (n : Option Node) (old new : List ℕ) (e : FilesError) → ReadsOn n old (Err e) new → (e ≡ fault.Memory) ⊎ IsUnread n e
read_refused n old new fault.NotFound h = inr h
read_refused n old new fault.Failed h = inr (inl h)
read_refused n old new fault.Memory h = inl refl

-- so many reads take more bytes than a length counts
pub reads_endless : (n : Option Node) (old : List ℕ) (k : ℕ) → Begins n old k → 2 ^ 64 - 1 ≤ k → IsEndless n
reads_endless n old k begins many =
    let f = begins.0 (λ none. let e : k ≡ 0 = none in omega (arith, e, many)) in
    let h = begins.1 f.0 f.1 in
    let within = h.1 in
    let enough = h.2 in
    (f.0, f.1, omega (arith, within, enough, many))
