-- How what was joined grows at its front.
use Rattle.std.specs.Prelude.{◌≡◌, ℕ, List, [], ◌∷◌, ◌++◌, Result, Ok, Err, None, Vec}
use Rattle.std.specs.declared.alloc.Global.{Global}
use Rattle.std.proofs.Common.{append_assoc, append-nil, inl, inr, ◌∙◌, sym}
use Rattle.futures.specs.Runs.{Runs, After, Within}
use Rattle.tough_net.specs.declared.error.TransportError.{TransportError}
use Rattle.tough_net.specs.Items.{Item}
use Rattle.tough_net.specs.Joining.{Joins, joined_pieces}

module _ (old new : Runs Item) (held : List ℕ) where
  pub Joins-Within : Within old new → (r : Result (Vec ℕ Global) TransportError) → Joins new held r → Joins old held r
  Joins-Within within (Ok v) h = (h.0, within _ _ h.1, h.2)
  Joins-Within within (Err e) (inl h) = inl (h.0, within _ _ h.1)
  Joins-Within within (Err e) (inr h) = inr h

  pub Joins-After : (piece : List ℕ) → After old (Ok piece) new → (r : Result (Vec ℕ Global) TransportError) → Joins new (held ++ piece) r → Joins old held r
  Joins-After piece after (Ok v) h = (piece ∷ h.0, after _ _ h.1, h.2 ∙ append_assoc held piece (joined_pieces h.0))
  Joins-After piece after (Err e) (inl h) = inl (piece ∷ h.0, after _ _ h.1)
  Joins-After piece after (Err e) (inr h) = inr h

  pub Joins_end : (v : Vec ℕ Global) → old [] None → v.items ≡ held → Joins old held (Ok v)
  Joins_end v came e = ([], came, e ∙ sym (append-nil held))
