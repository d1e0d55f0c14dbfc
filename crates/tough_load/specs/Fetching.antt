-- What may come of fetching a metadata file (TUF specification 1.0, section 5.2): its name is joined to the base URL, and what the
-- transport serves there is bounded and checked.
use Rattle.std.specs.Prelude.{◌≡◌, ◌⊎◌, ℕ, [], Some, Result, Ok, Err, Vec}
use Rattle.std.specs.declared.alloc.Global.{Global}
use Rattle.url.specs.Parts.{Parts, serialize}
use Rattle.url.specs.Parser.{parse_url}
use Rattle.url.specs.declared.error.ParseError.{ParseError}
use Rattle.futures.specs.Runs.{Runs, Within}
use Rattle.tough_net.specs.declared.error.TransportError.{TransportError}
use Rattle.tough_net.specs.declared.collect.Collect.{Collect}
use Rattle.tough_net.specs.Errors.{IsMemory}
use Rattle.tough_net.specs.Items.{Item}
use Rattle.tough_net.specs.Collecting.{Bounds, Collects, collected, bounds_of, held_by}
use Rattle.tough_net.specs.Urls.{CannotJoin}
use Rattle.tough_trust.specs.Requests.{RequestDoc}
use Rattle.tough_update.specs.Answered.{AnswerDoc}
use Rattle.tough_update.specs.Answered as got
use Rattle.tough_trust.specs.declared.fault.Fault.TheVariants as fault

-- what is asked of the bytes at a URL
abbrev pub bounds : Parts → RequestDoc → Bounds
bounds url r = record { url = serialize url; max = r.max_size; specifier = r.specifier; digests = r.digests }

-- what is answered where a fetch ended so
abbrev pub answer_of : Result (Vec ℕ Global) TransportError → AnswerDoc
answer_of (Ok v) = got.Bytes v.items
answer_of (Err e) = got.Cut (fault.Transport e)

-- the name can't be joined to the base
abbrev pub IsUnjoined : Parts → RequestDoc → AnswerDoc → Type 0
IsUnjoined base r a = (e : ParseError) × (a ≡ got.NotStarted (fault.JoinUrl e)) × CannotJoin base r.name e

module _ {T : Type 0} (refuses : T → Parts → TransportError → Type 0) (serves : T → Parts → Runs Item) (t : T) where
  -- the transport refused
  abbrev pub IsRefusedAt : Parts → AnswerDoc → Type 0
  IsRefusedAt url a = (e : TransportError) × (a ≡ got.NotStarted (fault.Transport e)) × (refuses t url e ⊎ IsMemory e)

  -- what it serves was collected, or cut off
  abbrev pub IsServedAt : Parts → RequestDoc → AnswerDoc → Type 0
  IsServedAt url r a = (outcome : Result (Vec ℕ Global) TransportError) × (a ≡ answer_of outcome) × Collects (bounds url r) (serves t url) [] outcome

  -- there was no memory for what is asked
  abbrev pub IsUnasked : AnswerDoc → Type 0
  IsUnasked a = (e : TransportError) × (a ≡ got.NotStarted (fault.Transport e)) × IsMemory e

  abbrev pub Fetches : Parts → RequestDoc → AnswerDoc → Type 0
  Fetches base r a = IsUnasked a
      ⊎ (IsUnjoined base r a
      ⊎ ((url : Parts) × (parse_url (Some base) r.name ≡ Ok url) × (IsRefusedAt url a ⊎ IsServedAt url r a)))

module _ {S : Type 0} (yields : S → Runs Item) where
  -- what the fetch that runs may still give
  abbrev pub Comes : Collect S → Result (Vec ℕ Global) TransportError → Type 0
  Comes f = Collects (bounds_of f) (yields (collected f)) (held_by f)

-- a fetch of the file has begun: what it may give is bounded and checked as asked, and comes from what the transport serves
module _ {T S : Type 0} (serves : T → Parts → Runs Item) (yields : S → Runs Item) where
  pub record IsStarted (t : T) (base : Parts) (r : RequestDoc) (f : Collect S) : Type 0 where
    pub url : Parts
    pub joined : parse_url (Some base) r.name ≡ Ok url
    pub asked : bounds_of f ≡ bounds url r
    pub fresh : held_by f ≡ []
    pub served : Within (serves t url) (yields (collected f))
