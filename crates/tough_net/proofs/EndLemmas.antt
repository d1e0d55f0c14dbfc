-- Where a fetch ends.
use Rattle.std.specs.Prelude.{◌≡◌, ℕ, ◌+◌, List, [], ◌∷◌, length, map, None, Ok}
use Rattle.std.proofs.Common.{arith, refl, ◌∙◌, length-append}
use Rattle.futures.specs.Runs.{Runs}
use Rattle.tough_net.specs.declared.retry_events.RetryEvent.{RetryEvent}
use Rattle.tough_net.specs.declared.retry_events.RetryEvent.TheVariants.{Fault, Answer, Piece, End}
use Rattle.tough_net.specs.declared.retry_events.RetrySettings.{RetrySettings}
use Rattle.tough_net.specs.Items.{Item}
use Rattle.tough_net.specs.Joining.{joined_pieces}
use Rattle.tough_net.specs.Resource.{Gave, Happens, Leads, Follows, Fetches}
use Rattle.tough_net.specs.Retries.{Progress, turn}
use Rattle.tough_net.proofs.TurnLemmas.{fault_received, answer_received}

module _ {Q : Type 0} (bodies : Q → ℕ → Runs Item) (answers : Q → ℕ → RetryEvent → Type 0) (s : RetrySettings) (q : Q) (url : List ℕ) where
  -- what may happen between two pieces counts nothing
  happens_received : (p : Progress) (event : RetryEvent) → Happens bodies answers q p.received event → (turn s p event).progress.received ≡ p.received
  happens_received p (Fault fault) happens = fault_received s p fault
  happens_received p (Answer status accepts) happens = answer_received s p status accepts
  happens_received p (Piece len) happens = absurd happens
  happens_received p End happens = absurd happens

  leads_received : (p : Progress) (events : List RetryEvent) (r : Progress) → Leads bodies answers s q p events r → r.received ≡ p.received
  leads_received p [] r h = rw h refl
  leads_received p (event ∷ events) r h = leads_received (turn s p event).progress events r h.2 ∙ happens_received p event h.0

  follows_end : (p : Progress) (pieces : List (List ℕ)) → Follows bodies answers s q url p (map Ok pieces) None → Gave bodies q (p.received + length (joined_pieces pieces)) None
  follows_end p [] h =
      let same : p.received + 0 ≡ p.received = omega arith in
      rw same h
  follows_end p (piece ∷ pieces) h =
      let more = h.1 in
      let ended = follows_end more.1 pieces more.3 in
      let same : more.1.received ≡ p.received + length piece = leads_received (record p { received = p.received + length piece }) more.0 more.1 more.2 in
      let sum : p.received + (length piece + length (joined_pieces pieces)) ≡ (p.received + length piece) + length (joined_pieces pieces) = omega arith in
      rw (length-append piece (joined_pieces pieces)) (rw sum (rw same at ended))

  pub Fetches_ended : (p : Progress) (pieces : List (List ℕ)) → Fetches bodies answers s q url p (map Ok pieces) None → Gave bodies q (p.received + length (joined_pieces pieces)) None
  Fetches_ended p pieces h =
      let tells = h.tells in
      let same : tells.1.received ≡ p.received = leads_received p tells.0 tells.1 tells.2 in
      rw same at (follows_end tells.1 pieces tells.3)
