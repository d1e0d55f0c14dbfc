-- How what was collected grows at its front.
use Rattle.std.specs.Prelude.{◌≡◌, ℕ, ◌≤◌, List, [], ◌∷◌, ◌++◌, length, Result, Ok, Err, Option, Some, None, Vec, IfOk, IfErr, ◌⊎◌}
use Rattle.std.specs.declared.alloc.Global.{Global}
use Rattle.std.proofs.Common.{append_assoc, append-nil, inl, inr, ◌∙◌, sym}
use Rattle.futures.specs.Runs.{Runs, After, Within}
use Rattle.tough_net.specs.declared.error.TransportError.{TransportError}
use Rattle.tough_net.specs.Items.{Item}
use Rattle.tough_net.specs.Joining.{joined_pieces}
use Rattle.tough_net.specs.Errors.{IsMemory}
use Rattle.tough_net.specs.Collecting.{Bounds, Fits, Misfits, Exceeds, Comes, Collects}

module _ (bounds : Bounds) (old new : Runs Item) (held : List ℕ) where
  Comes-Within : Within old new → (pieces : List (List ℕ)) (last : Option Item) → Comes bounds new held pieces last → Comes bounds old held pieces last
  Comes-Within within pieces last h = record { came = within _ _ h.came; within = h.within }

  pub Collects-Within : Within old new → (r : Result (Vec ℕ Global) TransportError) → Collects bounds new held r → Collects bounds old held r
  Collects-Within within (Ok v) h = (h.0, Comes-Within within _ _ h.1, h.2, h.3)
  Collects-Within within (Err e) (inl h) = inl h
  Collects-Within within (Err e) (inr (inl h)) = inr (inl (h.0, Comes-Within within _ _ h.1))
  Collects-Within within (Err e) (inr (inr (inl h))) = inr (inr (inl (h.0, h.1, Comes-Within within _ _ h.2, h.3)))
  Collects-Within within (Err e) (inr (inr (inr h))) = inr (inr (inr (h.0, Comes-Within within _ _ h.1, h.2)))

  module _ (piece : List ℕ) (after : After old (Ok piece) new) where
    Comes-After : (pieces : List (List ℕ)) (last : Option Item) → Comes bounds new (held ++ piece) pieces last → Comes bounds old held (piece ∷ pieces) last
    Comes-After pieces last h =
        record { came = after _ _ h.came; within = rw (append_assoc held piece (joined_pieces pieces)) at h.within }

    pub Collects-After : (r : Result (Vec ℕ Global) TransportError) → Collects bounds new (held ++ piece) r → Collects bounds old held r
    Collects-After (Ok v) h = (piece ∷ h.0, Comes-After _ _ h.1, h.2 ∙ append_assoc held piece (joined_pieces h.0), h.3)
    Collects-After (Err e) (inl h) = inl h
    Collects-After (Err e) (inr (inl h)) = inr (inl (piece ∷ h.0, Comes-After _ _ h.1))
    Collects-After (Err e) (inr (inr (inl h))) =
        let far = h.3 in
        inr (inr (inl (piece ∷ h.0, h.1, Comes-After _ _ h.2, rw (append_assoc held piece (joined_pieces h.0)) at far)))
    Collects-After (Err e) (inr (inr (inr h))) =
        let wrong = h.2 in
        inr (inr (inr (piece ∷ h.0, Comes-After _ _ h.1, rw (append_assoc held piece (joined_pieces h.0)) at wrong)))

  Comes_now : length held ≤ bounds.max → (last : Option Item) → old [] last → Comes bounds old held [] last
  Comes_now within last came = record { came = came; within = rw (append-nil held) within }

  pub Collects_finish : length held ≤ bounds.max → old [] None → (r : Result (Vec ℕ Global) TransportError)
      → IfOk r (λ v. v.items ≡ held) → IfOk r (λ _. Fits bounds held) → IfErr r (Misfits bounds held) → Collects bounds old held r
  Collects_finish within came (Ok v) e fits _ = ([], Comes_now within None came, e ∙ sym (append-nil held), rw e fits)
  Collects_finish within came (Err e) _ _ misfits = inr (inr (inr ([], Comes_now within None came, rw (append-nil held) misfits)))

  pub Collects_error : length held ≤ bounds.max → (e : TransportError) → old [] (Some (Err e)) → Collects bounds old held (Err e)
  Collects_error within e came = inr (inl ([], Comes_now within (Some (Err e)) came))

  pub Collects_refused : length held ≤ bounds.max → (piece : List ℕ) (e : TransportError) → old [] (Some (Ok piece))
      → IsMemory e ⊎ Exceeds bounds (held ++ piece) e → Collects bounds old held (Err e)
  Collects_refused within piece e came (inl h) = inl h
  Collects_refused within piece e came (inr over) = inr (inr (inl ([], piece, Comes_now within (Some (Ok piece)) came, rw (append-nil held) over)))
