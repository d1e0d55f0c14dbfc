-- How a beginning of a resource grows.
use Rattle.std.specs.Prelude.{◌≡◌, ℕ, ◌+◌, false, List, [], ◌∷◌, ◌++◌, drop, length, Option, Some, None, Ok, Err}
use Rattle.std.proofs.Common.{arith, refl, sym, ◌∙◌, ap, append_assoc, append-nil, length-append}
use Rattle.std.proofs.lemmas.List.{drop-drop}
use Rattle.std.proofs.Math.Seq.{drop-append_seam}
use Rattle.futures.specs.Runs.{Runs, After, Within, Ends}
use Rattle.tough_net.specs.declared.error.TransportError.{TransportError}
use Rattle.tough_net.specs.declared.retry_events.RetryEvent.{RetryEvent}
use Rattle.tough_net.specs.declared.retry_events.RetrySettings.{RetrySettings}
use Rattle.tough_net.specs.Items.{Item, bytes_of, joined, last_bytes, all_bytes}
use Rattle.tough_net.specs.Retries.{Progress, turn}
use Rattle.tough_net.specs.Resource.{Continues, Gave, Happens, IsFetchFault, Fetches}
use Rattle.tough_net.specs.Retrying.{Reads}

-- where p begins what follows byte n, what follows p is what comes n and the length of p later
drop_past : (n : ℕ) (p later resource : List ℕ) → drop n resource ≡ p ++ later → drop (n + length p) resource ≡ later
drop_past n p later resource e = sym (drop-drop (length p) n resource) ∙ (ap (drop (length p)) e ∙ drop-append_seam p later)

module _ {Q : Type 0} (bodies : Q → ℕ → Runs Item) (q : Q) where
  -- nothing may come at any time
  nothing : (n : ℕ) → Continues bodies q n [] None
  nothing n = λ resource honest. (drop n resource, refl)

  pub Continues-After : (n : ℕ) (p : List ℕ) → Continues bodies q n [] (Some (Ok p)) → (xs : List Item) (last : Option Item)
      → Continues bodies q (n + length p) xs last → Continues bodies q n (Ok p ∷ xs) last
  Continues-After n p first xs last more resource honest =
      let a = first resource honest in
      let b = more resource honest in
      let whole = sym (drop_past n p a.0 resource a.1) ∙ b.1 in
      (b.0, rw (append_assoc p (joined xs) (last_bytes last), append_assoc p (all_bytes xs last) b.0) (rw whole at a.1))

  pub Continues-Within_rest : (n : ℕ) (p : List ℕ) (old new : Runs Item) → Within (Continues bodies q n) old → After old (Ok p) new → Within (Continues bodies q (n + length p)) new
  Continues-Within_rest n p old new stands after xs last h resource honest =
      let b = stands (Ok p ∷ xs) last (after xs last h) resource honest in
      let e = rw (append_assoc p (joined xs) (last_bytes last), append_assoc p (all_bytes xs last) b.0) at b.1 in
      (b.0, drop_past n p (all_bytes xs last ++ b.0) resource e)

  pub Continues-Within_body : (n : ℕ) (source : Runs Item) → Within (bodies q n) source → Within (Continues bodies q n) source
  Continues-Within_body n source within xs last h resource honest = honest n xs last (within xs last h)

module _ {Q : Type 0} (bodies : Q → ℕ → Runs Item) (answers : Q → ℕ → RetryEvent → Type 0) (s : RetrySettings) (q : Q) (url : List ℕ) (p : Progress) where
  pub Fetches_end : Gave bodies q p.received None → Fetches bodies answers s q url p [] None
  Fetches_end gave = record { continues = nothing bodies q p.received; tells = ([], p, refl, gave) }

  pub Fetches_fault : (e : TransportError) → IsFetchFault bodies answers s q url p e → Fetches bodies answers s q url p [] (Some (Err e))
  Fetches_fault e h = record { continues = nothing bodies q p.received; tells = ([], p, refl, h) }

  pub Fetches-After_fault : (e : TransportError) → IsFetchFault bodies answers s q url p e → After (Fetches bodies answers s q url p) (Err e) Ends
  Fetches-After_fault e h xs last ends = rw (ends.0, ends.1) (record { continues = nothing bodies q p.received; tells = ([], p, refl, (h, (refl, refl))) })

  pub Fetches_piece : (piece : List ℕ) → Continues bodies q p.received [] (Some (Ok piece)) → Gave bodies q p.received (Some (Ok piece)) → Fetches bodies answers s q url p [] (Some (Ok piece))
  Fetches_piece piece continues gave = record { continues = continues; tells = ([], p, refl, gave) }

  pub Fetches-After_piece : (piece : List ℕ) → Continues bodies q p.received [] (Some (Ok piece)) → Gave bodies q p.received (Some (Ok piece))
      → After (Fetches bodies answers s q url p) (Ok piece) (Fetches bodies answers s q url (record p { received = p.received + length piece }))
  Fetches-After_piece piece continues gave xs last h =
      record { continues = Continues-After bodies q p.received piece continues xs last h.continues; tells = ([], p, refl, (gave, h.tells)) }

  pub Fetches-Within : (event : RetryEvent) → Happens bodies answers q p.received event → (turn s p event).progress.is_over ≡ false
      → (turn s p event).progress.received ≡ p.received → Within (Fetches bodies answers s q url p) (Fetches bodies answers s q url (turn s p event).progress)
  Fetches-Within event happens on same xs last h =
      record { continues = rw same at h.continues; tells = (event ∷ h.tells.0, h.tells.1, (happens, on, h.tells.2), h.tells.3) }

-- what the pieces of a body count
piece_joined : (items : List Item) (piece : List ℕ) → length (joined (items ++ Ok piece ∷ [])) ≡ length (joined items) + length piece
piece_joined [] piece = rw (append-nil piece) (omega arith)
piece_joined (x ∷ items) piece =
    let more = piece_joined items piece in
    rw (length-append (bytes_of x) (joined (items ++ Ok piece ∷ [])), length-append (bytes_of x) (joined items)) (omega arith)

module _ {Q : Type 0} (bodies : Q → ℕ → Runs Item) (q : Q) where
  pub Reads_gave : (at : ℕ) (source : Runs Item) (last : Option Item) → Reads bodies q at source → source [] last → Gave bodies q at last
  Reads_gave at source last r h = record { from = r.from; items = r.items; gave = rw (append-nil r.items) at (r.gives [] last h); reached = r.reached }

  pub Reads_rest : (at : ℕ) (old new : Runs Item) (piece : List ℕ) → Reads bodies q at old → After old (Ok piece) new → Reads bodies q (at + length piece) new
  Reads_rest at old new piece r after =
      let reached = r.reached in
      let counted = piece_joined r.items piece in
      record {
        from = r.from;
        items = r.items ++ Ok piece ∷ [];
        reached = omega arith;
        gives = (λ xs last h. rw (append_assoc r.items (Ok piece ∷ []) xs) (r.gives (Ok piece ∷ xs) last (after xs last h)));
      }

  pub Reads_within : (at : ℕ) (old new : Runs Item) → Reads bodies q at old → Within old new → Reads bodies q at new
  Reads_within at old new r within = record { from = r.from; items = r.items; reached = r.reached; gives = (λ xs last h. r.gives xs last (within xs last h)) }

  pub Reads_body : (at : ℕ) (source : Runs Item) → Within (bodies q at) source → Reads bodies q at source
  Reads_body at source within = record { from = at; items = []; reached = omega arith; gives = within }
