-- What is collected of a file in memory is the file.
use Rattle.std.specs.Prelude.{◌≡◌, ℕ, List, [], ◌∷◌, ◌++◌, map, Some, None, Ok, Err, Vec, ◌⊎◌}
use Rattle.std.specs.declared.alloc.Global.{Global}
use Rattle.std.proofs.Common.{append_assoc, inl, inr, ◌∙◌, sym, ap}
use Rattle.tough_net.specs.declared.error.TransportError.{TransportError}
use Rattle.tough_net.specs.Errors.{IsMemory}
use Rattle.tough_net.specs.Joining.{joined_pieces}
use Rattle.tough_net.specs.Collecting.{Bounds, Fits, Misfits, Exceeds, Collects}
use Rattle.tough_net.specs.MemoryFiles.{Cuts, CutsFile}

-- the pieces up to the end are the whole
pub Cuts_whole : (left : List ℕ) (pieces : List (List ℕ)) → Cuts left (map Ok pieces) None → joined_pieces pieces ≡ left
Cuts_whole left [] h = sym h
Cuts_whole left (piece ∷ pieces) h = ap (λ later. piece ++ later) (Cuts_whole h.0 pieces h.2) ∙ sym h.1.0

-- the pieces up to a piece are a beginning
pub Cuts_part : (left : List ℕ) (pieces : List (List ℕ)) (piece : List ℕ) → Cuts left (map Ok pieces) (Some (Ok piece))
    → (later : List ℕ) × (left ≡ (joined_pieces pieces ++ piece) ++ later)
Cuts_part left [] piece h = (h.0, h.1.0)
Cuts_part left (first ∷ pieces) piece h =
    let more = Cuts_part h.0 pieces piece h.2 in
    let whole = h.1.0 in (
      more.0,
      whole ∙ (ap (λ later. first ++ later) more.1 ∙ sym (append_assoc first (joined_pieces pieces ++ piece) more.0)
          ∙ ap (λ l. l ++ more.0) (sym (append_assoc first (joined_pieces pieces) piece))),
    )

-- no error but for want of memory
pub Cuts_error : (left : List ℕ) (pieces : List (List ℕ)) (e : TransportError) → Cuts left (map Ok pieces) (Some (Err e)) → IsMemory e
Cuts_error left [] e h = h
Cuts_error left (piece ∷ pieces) e h = Cuts_error h.0 pieces e h.2

module _ (bounds : Bounds) (bytes : List ℕ) where
  -- what is collected is the file, which fits
  pub Collects_file : (v : Vec ℕ Global) → Collects bounds (CutsFile (Some bytes)) [] (Ok v) → (v.items ≡ bytes) × Fits bounds bytes
  Collects_file v h =
      let same = h.2 ∙ Cuts_whole bytes h.0 h.1.came in
      (same, rw same at h.3)

  -- an error says that there was no memory, that the file is too long, or that it hasn't the digest
  pub Collects_no_file : (e : TransportError) → Collects bounds (CutsFile (Some bytes)) [] (Err e)
      → IsMemory e ⊎ (((part : List ℕ) × (later : List ℕ) × (bytes ≡ part ++ later) × Exceeds bounds part e) ⊎ Misfits bounds bytes e)
  Collects_no_file e (inl h) = inl h
  Collects_no_file e (inr (inl h)) = inl (Cuts_error bytes h.0 e h.1.came)
  Collects_no_file e (inr (inr (inl h))) =
      let part = Cuts_part bytes h.0 h.1 h.2.came in
      inr (inl (joined_pieces h.0 ++ h.1, part.0, part.1, h.3))
  Collects_no_file e (inr (inr (inr h))) =
      let wrong = h.2 in
      inr (inr (rw (Cuts_whole bytes h.0 h.1.came) at wrong))
