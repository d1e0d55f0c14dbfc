-- A file that is read, call by call.
use Rattle.std.proofs.Common.{◌≡◌, ◌≢◌, ℕ, ◌+◌, List, [], ◌∷◌, ◌++◌, length, Ok, Err, inl, inr, refl, ap, sym, ◌∙◌, subst, arith, append_assoc, append-nil, add-zero, length-append}
use Rattle.std.specs.List.{concat}
use Rattle.tough_files.specs.declared.files.FilesError.{FilesError}
use Rattle.tough_files.specs.Calls.{Told, told_of, got, refused}
use Rattle.tough_schema.specs.declared.file_digest.Digests.{Digests}
use Rattle.tough_schema.specs.declared.file_digest.Reading.{Reading}
use Rattle.tough_schema.specs.FileDigest.{HoldsBoth}
use Rattle.tough_schema.specs.Measuring.{read_from, reads_of, reads_to, ReadsAll, FeedsBy, HasReadBy}

concat-more : (ps : List (List ℕ)) (p : List ℕ) → concat (ps ++ p ∷ []) ≡ concat ps ++ p
concat-more [] p = append-nil p
concat-more (q ∷ qs) p = ap (λ l. q ++ l) (concat-more qs p) ∙ sym (append_assoc q (concat qs) p)

-- one read more
reads-more : (path : List ℕ) (start : ℕ) (ps : List (List ℕ)) (p : List ℕ) → reads_of path start (ps ++ p ∷ []) ≡ reads_of path start ps ++ told_of (read_from path (start + length (concat ps))) (got p)
reads-more path start [] p = ap (λ n. told_of (read_from path n) (got p)) (sym (add-zero start))
reads-more path start (q ∷ qs) p =
    let at : start + length q + length (concat qs) ≡ start + length (q ++ concat qs) = omega (arith, length-append q (concat qs)) in
    ap (λ l. told_of (read_from path start) (got q) ++ l) (reads-more path (start + length q) qs p ∙ ap (λ n. reads_of path (start + length q) qs ++ told_of (read_from path n) (got p)) at)

module _ (digests : Digests) (path : List ℕ) (old mid new : List Told) (count : ℕ) (r later : Reading) (h : HasReadBy digests path old mid count r) where
  -- the calls so far, and one more read
  then_read : (p : List ℕ) → new ≡ mid ++ told_of (read_from path r.length) (got p) → new ≡ old ++ reads_of path 0 (h.pieces ++ p ∷ [])
  then_read p is =
      is ∙ (ap (λ l. l ++ told_of (read_from path r.length) (got p)) h.calls
      ∙ (append_assoc old (reads_of path 0 h.pieces) (told_of (read_from path r.length) (got p))
      ∙ ap (λ l. old ++ l) (ap (λ n. reads_of path 0 h.pieces ++ told_of (read_from path n) (got p)) (let at : r.length ≡ 0 + length (concat h.pieces) = omega (arith, h.size) in at) ∙ sym (reads-more path 0 h.pieces p))))

  then_last : (last : _) → new ≡ mid ++ told_of (read_from path r.length) last → new ≡ old ++ reads_to path h.pieces last
  then_last last is =
      is ∙ (ap (λ l. l ++ told_of (read_from path r.length) last) h.calls
      ∙ (append_assoc old (reads_of path 0 h.pieces) (told_of (read_from path r.length) last)
      ∙ ap (λ n. old ++ (reads_of path 0 h.pieces ++ told_of (read_from path n) last)) h.size))

  pub read_more : (n : ℕ) → FeedsBy path r (Ok n) later mid new → n ≢ 0 → HasReadBy digests path old new (count + 1) later
  read_more n (p, is, is_long, longer, held) some =
      let joined = concat-more h.pieces p in
      let size : later.length ≡ length (concat (h.pieces ++ p ∷ [])) = omega (arith, longer, is_long, h.size, ap length joined, length-append (concat h.pieces) p) in
      record {
        pieces = h.pieces ++ p ∷ [];
        calls = then_read p is;
        size = size;
        holds = subst (HoldsBoth digests later) (sym joined) (held digests (concat h.pieces) h.holds);
        many = omega (arith, longer, h.many, some);
      }

  nothing : (p : List ℕ) → length p ≡ 0 → p ≡ []
  nothing [] e = refl
  nothing (x ∷ xs) e = absurd (omega (arith, e))

  -- the read that gave nothing
  pub read_all : (n : ℕ) → FeedsBy path r (Ok n) later mid new → n ≡ 0
      → (new ≡ old ++ reads_to path h.pieces (got [])) × (later.length ≡ length (concat h.pieces)) × HoldsBoth digests later (concat h.pieces)
  read_all n (p, is, is_long, longer, held) none =
      let empty = nothing p (sym is_long ∙ none) in (
        then_last (got []) (is ∙ ap (λ q. mid ++ told_of (read_from path r.length) (got q)) empty),
        omega (arith, longer, none, h.size),
        subst (HoldsBoth digests later) (ap (λ q. concat h.pieces ++ q) empty ∙ append-nil (concat h.pieces)) (held digests (concat h.pieces) h.holds),
      )

  pub read_refused : (e : FilesError) → FeedsBy path r (Err e) later mid new → ReadsAll digests path (Err e) old new
  read_refused e (inl is) = (h.pieces, inl (then_last (refused e) is))
  read_refused e (inr (p, is_failed, is, long)) =
      (h.pieces ++ p ∷ [], inr (is_failed, then_read p is, omega (arith, long, h.size, ap length (concat-more h.pieces p), length-append (concat h.pieces) p)))
