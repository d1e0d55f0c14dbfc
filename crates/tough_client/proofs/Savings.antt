-- How a saving follows from where it stands.
use Rattle.std.specs.Prelude.{◌≡◌, ℤ, ℕ, Bool, true, List, Option, Some, None, IsSomeAnd, Result, Ok, Err}
use Rattle.std.proofs.Common.{refl, sym, inl, inr, subst, ◌∙◌}
use Rattle.url.specs.Parts.{Parts}
use Rattle.futures.specs.declared.task.Poll.{Poll}
use Rattle.futures.specs.declared.task.Poll.TheVariants.{Ready, Pending}
use Rattle.futures.specs.Poll.{IfReady, OnPending}
use Rattle.futures.specs.Runs.{Runs}
use Rattle.tough_files.specs.Calls.{Told}
use Rattle.tough_keys.specs.Same.{Verifies}
use Rattle.tough_names.specs.Named.{Named}
use Rattle.tough_net.specs.declared.digest_check.DigestCheck.{DigestCheck}
use Rattle.tough_net.specs.declared.error.TransportError.{TransportError}
use Rattle.tough_net.specs.declared.max_size.MaxSize.{MaxSize}
use Rattle.tough_net.specs.Items.{Item}
use Rattle.tough_vault.specs.Act.{Act}
use Rattle.tough_checks.specs.declared.checks.StepError.{StepError}
use Rattle.tough_trust.specs.Steps.{Keeping}
use Rattle.tough_error.specs.declared.error.Error.{Error}
use Rattle.tough_save.specs.declared.error.SaveError.{SaveError}
use Rattle.tough_save.specs.declared.saving.Saving.{Saving}
use Rattle.tough_save.specs.Savings.{Saves, Tells, stream_of, temp_of, target_of}
use Rattle.tough_client.specs.declared.repository.Repository.{Repository}
use Rattle.tough_client.specs.declared.save.Prefix.{Prefix}
use Rattle.tough_client.specs.Repositories.{keeping_of}
use Rattle.tough_client.specs.Saving.{Finishes, Continues, Starts, SavesTarget, GoesOnSaving, pieces_of}

-- a saving that goes on by its stream, into the same files, has come to where the later one stands
module _ {S : Type 0} (yields : S → Runs Item) (tells : Bool) (name : Named) (s later : Saving (DigestCheck (MaxSize S))) (old mid : List Told) where
  pub goes_on : ((r : Result (Unit {0}) SaveError) → Tells (pieces_of yields tells (stream_of later)) r → Tells (pieces_of yields tells (stream_of s)) r)
      → (tells ≡ true → (r : Result (Unit {0}) SaveError) (calls : List Told) → Saves (pieces_of yields tells (stream_of later)) (temp_of s) (target_of s) r mid calls
      → Saves (pieces_of yields tells (stream_of s)) (temp_of s) (target_of s) r old calls)
      → temp_of later ≡ temp_of s → target_of later ≡ target_of s → Continues yields tells name s old mid later
  goes_on same follows temp target result new fin =
      let pieces = pieces_of yields tells (stream_of later) in
      record {
        outcome = fin.outcome;
        came = same fin.outcome fin.came;
        saved = λ is. follows is fin.outcome new
            (subst (λ p. Saves pieces p (target_of s) fin.outcome mid new) temp (subst (λ p. Saves pieces (temp_of later) p fin.outcome mid new) target (fin.saved is)));
        told = fin.told;
      }

module _ {T K C S R : Type 0} (refuses : T → Parts → TransportError → Type 0) (serves : T → Parts → Runs Item) (yields : S → Runs Item) (can_poll : S → Type 0)
    (keeps : Verifies → K → Act → Result R StepError → K → Type 0) (may_give : C → ℤ → Type 0) (tells : Bool)
    (r : Repository T K C R) (name : Named) (outdir : List ℕ) (p : Prefix) (old mid : List Told) (next : Keeping K R) (s : Saving (DigestCheck (MaxSize S))) where
  -- it started, and finished
  pub saves : Starts refuses serves yields can_poll keeps may_give tells r name outdir p old mid next (Ok s) → (new : List Told) (result : Result (Unit {0}) Error) → Finishes yields tells name s mid new result
      → SavesTarget refuses serves yields can_poll keeps may_give tells r name outdir p old new next result
  saves started new (Ok u) h = record { saving = s; mid = mid; started = started; finished = h }
  saves started new (Err e) h = inr (record { saving = s; mid = mid; started = started; finished = h })

module _ {T K C S R : Type 0} (refuses : T → Parts → TransportError → Type 0) (serves : T → Parts → Runs Item) (yields : S → Runs Item) (can_poll : S → Type 0)
    (keeps : Verifies → K → Act → Result R StepError → K → Type 0) (may_give : C → ℤ → Type 0) (tells : Bool)
    (o : Option (Saving (DigestCheck (MaxSize S)))) (r : Repository T K C R) (name : Named) (outdir : List ℕ) (p : Prefix) (old : List Told) where
  -- what a saving may come to from here
  abbrev May : Result (Unit {0}) Error → Type 0
  May result = (calls : List Told) × (k : Keeping K R) × GoesOnSaving refuses serves yields can_poll keeps may_give tells o r name outdir p old calls k result

  may : (calls : List Told) (k : Keeping K R) (x : Result (Unit {0}) Error) → GoesOnSaving refuses serves yields can_poll keeps may_give tells o r name outdir p old calls k x → May x
  may calls k x h = (calls, k, h)

  module _ (s : Saving (DigestCheck (MaxSize S))) (is : o ≡ Some s) where
    pub some_value : (new : List Told) (result : Poll (Result (Unit {0}) Error)) → IfReady result (Finishes yields tells name s old new) → IfReady result May
    some_value new (Ready x) h = may new (keeping_of r) x (rw is (h, refl))
    some_value new Pending h = h

    some_later : (o' : Option (Saving (DigestCheck (MaxSize S)))) (done : List Told) → IsSomeAnd o' (Continues yields tells name s old done) → (x : Result (Unit {0}) Error)
        → ((calls : List Told) × (k : Keeping K R) × GoesOnSaving refuses serves yields can_poll keeps may_give tells o' r name outdir p done calls k x) → May x
    some_later None done w x h = absurd w
    some_later (Some later) done w x h = may h.0 h.1 x (rw is (w x h.0 h.2.0, h.2.1))

    pub some_same : (o' : Option (Saving (DigestCheck (MaxSize S)))) (done : List Told) (result : Poll (Result (Unit {0}) Error)) → OnPending result (IsSomeAnd o' (Continues yields tells name s old done))
        → OnPending result ((x : Result (Unit {0}) Error) → ((calls : List Told) × (k : Keeping K R) × GoesOnSaving refuses serves yields can_poll keeps may_give tells o' r name outdir p done calls k x) → May x)
    some_same o' done (Ready x) h = h
    some_same o' done Pending h = some_later o' done h

    follow_some : (o' : Option (Saving (DigestCheck (MaxSize S)))) (done : List Told) → IsSomeAnd o' (Continues yields tells name s old done) → (x : Result (Unit {0}) Error) (calls : List Told) (k : Keeping K R)
        → GoesOnSaving refuses serves yields can_poll keeps may_give tells o' r name outdir p done calls k x → GoesOnSaving refuses serves yields can_poll keeps may_give tells o r name outdir p old calls k x
    follow_some None done w x calls k h = absurd w
    follow_some (Some later) done w x calls k h = rw is (w x calls h.0, h.1)

    -- the calls and the steps that follow the later one follow this one
    pub some_follows : (o' : Option (Saving (DigestCheck (MaxSize S)))) (done : List Told) (result : Poll (Result (Unit {0}) Error)) → OnPending result (IsSomeAnd o' (Continues yields tells name s old done))
        → OnPending result ((x : Result (Unit {0}) Error) (calls : List Told) (k : Keeping K R) → GoesOnSaving refuses serves yields can_poll keeps may_give tells o' r name outdir p done calls k x → GoesOnSaving refuses serves yields can_poll keeps may_give tells o r name outdir p old calls k x)
    some_follows o' done (Ready x) h = h
    some_follows o' done Pending h = follow_some o' done h

  -- it couldn't start
  pub none_failed : (new : List Told) (next : Keeping K R) (e : Error) → o ≡ None → Starts refuses serves yields can_poll keeps may_give tells r name outdir p old new next (Err e)
      → GoesOnSaving refuses serves yields can_poll keeps may_give tells o r name outdir p old new next (Err e)
  none_failed new next e is h = rw is (inl h)

  module _ (s : Saving (DigestCheck (MaxSize S))) (mid : List Told) (next : Keeping K R) (is : o ≡ None) (started : Starts refuses serves yields can_poll keeps may_give tells r name outdir p old mid next (Ok s)) where
    whole : (new : List Told) (result : Result (Unit {0}) Error) → Finishes yields tells name s mid new result
        → GoesOnSaving refuses serves yields can_poll keeps may_give tells o r name outdir p old new next result
    whole new result h = rw is (saves refuses serves yields can_poll keeps may_give tells r name outdir p old mid next s started new result h)

    pub none_saves : (new : List Told) (result : Poll (Result (Unit {0}) Error)) → IfReady result (Finishes yields tells name s mid new)
        → IfReady result (GoesOnSaving refuses serves yields can_poll keeps may_give tells o r name outdir p old new next)
    none_saves new (Ready x) h = whole new x h
    none_saves new Pending h = h

    pub none_value : (new : List Told) (result : Poll (Result (Unit {0}) Error)) → IfReady result (Finishes yields tells name s mid new) → IfReady result May
    none_value new (Ready x) h = may new next x (whole new x h)
    none_value new Pending h = h

    none_later : (o' : Option (Saving (DigestCheck (MaxSize S)))) (r' : Repository T K C R) (outdir' : List ℕ) (p' : Prefix) (done : List Told)
        → IsSomeAnd o' (Continues yields tells name s mid done) → (x : Result (Unit {0}) Error)
        → ((calls : List Told) × (k : Keeping K R) × GoesOnSaving refuses serves yields can_poll keeps may_give tells o' r' name outdir' p' done calls k x) → May x
    none_later None r' outdir' p' done w x h = absurd w
    none_later (Some later) r' outdir' p' done w x h = may h.0 next x (whole h.0 x (w x h.0 h.2.0))

    pub none_same : (o' : Option (Saving (DigestCheck (MaxSize S)))) (r' : Repository T K C R) (outdir' : List ℕ) (p' : Prefix) (done : List Told) (result : Poll (Result (Unit {0}) Error))
        → OnPending result (IsSomeAnd o' (Continues yields tells name s mid done))
        → OnPending result ((x : Result (Unit {0}) Error) → ((calls : List Told) × (k : Keeping K R) × GoesOnSaving refuses serves yields can_poll keeps may_give tells o' r' name outdir' p' done calls k x) → May x)
    none_same o' r' outdir' p' done (Ready x) h = h
    none_same o' r' outdir' p' done Pending h = none_later o' r' outdir' p' done h

    follow_none : (o' : Option (Saving (DigestCheck (MaxSize S)))) (r' : Repository T K C R) (outdir' : List ℕ) (p' : Prefix) (done : List Told) → next ≡ keeping_of r'
        → IsSomeAnd o' (Continues yields tells name s mid done) → (x : Result (Unit {0}) Error) (calls : List Told) (k : Keeping K R)
        → GoesOnSaving refuses serves yields can_poll keeps may_give tells o' r' name outdir' p' done calls k x → GoesOnSaving refuses serves yields can_poll keeps may_give tells o r name outdir p old calls k x
    follow_none None r' outdir' p' done same w x calls k h = absurd w
    follow_none (Some later) r' outdir' p' done same w x calls k h =
        subst (λ z. GoesOnSaving refuses serves yields can_poll keeps may_give tells o r name outdir p old calls z x) (same ∙ sym h.1) (whole calls x (w x calls h.0))

    pub none_follows : (o' : Option (Saving (DigestCheck (MaxSize S)))) (r' : Repository T K C R) (outdir' : List ℕ) (p' : Prefix) (done : List Told) (result : Poll (Result (Unit {0}) Error)) → next ≡ keeping_of r'
        → OnPending result (IsSomeAnd o' (Continues yields tells name s mid done))
        → OnPending result ((x : Result (Unit {0}) Error) (calls : List Told) (k : Keeping K R) → GoesOnSaving refuses serves yields can_poll keeps may_give tells o' r' name outdir' p' done calls k x → GoesOnSaving refuses serves yields can_poll keeps may_give tells o r name outdir p old calls k x)
    none_follows o' r' outdir' p' done (Ready x) same h = h
    none_follows o' r' outdir' p' done Pending same h = follow_none o' r' outdir' p' done same h
