-- How a saving starts, of its parts.
use Rattle.std.specs.Prelude.{◌≡◌, ℤ, ℕ, Bool, true, List, Result, Ok, Err, String, string_bytes}
use Rattle.std.specs.declared.alloc.Global.{Global}
use Rattle.std.proofs.Common.{sym, inl, inr, subst}
use Rattle.url.specs.Parts.{Parts}
use Rattle.futures.specs.Runs.{Runs}
use Rattle.tough_files.specs.Calls.{Told}
use Rattle.tough_keys.specs.Same.{Verifies}
use Rattle.tough_names.specs.Named.{Named}
use Rattle.tough_net.specs.declared.digest_check.DigestCheck.{DigestCheck}
use Rattle.tough_net.specs.declared.error.TransportError.{TransportError}
use Rattle.tough_net.specs.declared.max_size.MaxSize.{MaxSize}
use Rattle.tough_net.specs.Items.{Item}
use Rattle.tough_vault.specs.Act.{Act}
use Rattle.tough_checks.specs.declared.checks.StepError.{StepError}
use Rattle.tough_trust.specs.Steps.{Keeping}
use Rattle.tough_error.specs.declared.error.Error.{Error}
use Rattle.tough_save.specs.declared.error.SaveError.{SaveError}
use Rattle.tough_save.specs.declared.place.Place.{Place}
use Rattle.tough_save.specs.declared.saving.Saving.{Saving}
use Rattle.tough_save.specs.Folders.{Opens, MakesTemp}
use Rattle.tough_save.specs.Places.{parent_of, path_of}
use Rattle.tough_save.specs.Savings.{stream_of, temp_of, target_of}
use Rattle.tough_client.specs.declared.repository.Repository.{Repository}
use Rattle.tough_client.specs.declared.save.Prefix.{Prefix}
use Rattle.tough_client.specs.Repositories.{documents_of, keeping_of}
use Rattle.tough_client.specs.Saving.{TellsSave, Places, Opened, Readies, Starts}

module _ {T K C S R : Type 0} (refuses : T → Parts → TransportError → Type 0) (serves : T → Parts → Runs Item) (yields : S → Runs Item) (can_poll : S → Type 0)
    (keeps : Verifies → K → Act → Result R StepError → K → Type 0) (may_give : C → ℤ → Type 0) (tells : Bool) (r : Repository T K C R) (name : Named) where
  module _ (dir : List ℕ) (place : Place) (old new : List Told) (next : Keeping K R) where
    pub ready : (stream : DigestCheck (MaxSize S)) (s : Saving (DigestCheck (MaxSize S))) (temp : String Global) → Opened refuses serves yields can_poll keeps may_give r name (Ok stream) next
        → stream_of s ≡ stream → (tells ≡ true → MakesTemp dir (parent_of place) (path_of place) (Ok temp) old new) → temp_of s ≡ string_bytes temp → target_of s ≡ path_of place
        → Readies refuses serves yields can_poll keeps may_give tells r name dir place old new next (Ok s)
    ready stream s temp opened is made temp_is target_is =
        let P : DigestCheck (MaxSize S) → Type 0 = λ x. Opened refuses serves yields can_poll keeps may_give r name (Ok x) next in
        record { stream = subst P (sym is) opened; temp = temp; made = made; temp_is = temp_is; target_is = target_is }

    pub unmade : (stream : DigestCheck (MaxSize S)) (why : SaveError) (e : Error) → Opened refuses serves yields can_poll keeps may_give r name (Ok stream) next
        → (tells ≡ true → MakesTemp dir (parent_of place) (path_of place) (Err why) old new) → TellsSave name why e
        → Readies refuses serves yields can_poll keeps may_give tells r name dir place old new next (Err e)
    unmade stream why e opened made told = inr (record { stream = stream; opened = opened; why = why; made = made; told = told })

  module _ (outdir : List ℕ) (p : Prefix) (old new : List Told) (next : Keeping K R) where
    pub nowhere : (dir : String Global) (d : List ℕ) (e : Error) → d ≡ string_bytes dir → (tells ≡ true → Opens outdir (Ok dir) old new)
        → Places (documents_of r) d name p (Err e) → next ≡ keeping_of r → Starts refuses serves yields can_poll keeps may_give tells r name outdir p old new next (Err e)
    nowhere dir d e same opened is kept =
        let P : List ℕ → Type 0 = λ x. Places (documents_of r) x name p (Err e) in
        inr (inl (record { dir = dir; opened = opened; nowhere = subst P same is; kept = kept }))

    pub goes_on : (dir : String Global) (d d' : List ℕ) (mid : List Told) (place : Place) → d ≡ string_bytes dir → d' ≡ string_bytes dir → (tells ≡ true → Opens outdir (Ok dir) old mid)
        → Places (documents_of r) d name p (Ok place) → (result : Result (Saving (DigestCheck (MaxSize S))) Error)
        → Readies refuses serves yields can_poll keeps may_give tells r name d' place mid new next result → Starts refuses serves yields can_poll keeps may_give tells r name outdir p old new next result
    goes_on dir d d' mid place same same' opened at (Ok s) h =
        let P : List ℕ → Type 0 = λ x. Places (documents_of r) x name p (Ok place) in
        let Q : List ℕ → Type 0 = λ x. Readies refuses serves yields can_poll keeps may_give tells r name x place mid new next (Ok s) in
        record { dir = dir; mid = mid; opened = opened; place = place; placed = subst P same at; readied = subst Q same' h }
    goes_on dir d d' mid place same same' opened at (Err e) h =
        let P : List ℕ → Type 0 = λ x. Places (documents_of r) x name p (Ok place) in
        let Q : List ℕ → Type 0 = λ x. Readies refuses serves yields can_poll keeps may_give tells r name x place mid new next (Err e) in
        inr (inr (record { dir = dir; mid = mid; opened = opened; place = place; placed = subst P same at; readied = subst Q same' h }))
