-- What errors tell, by their cases.
use Rattle.std.proofs.Common.{ℕ, List, IfErr, Result, Ok, Err, string_bytes, sym, ap, ◌∙◌}
use Rattle.tough_roles.specs.Timestamp.{MetafileDoc}
use Rattle.tough_net.specs.declared.limits.Limits.{Limits}
use Rattle.tough_trust.specs.Faults.{fault_failure}
use Rattle.tough_trust.specs.Requests.{RequestDoc}
use Rattle.tough_trust.specs.declared.fault.Fault.{Fault}
use Rattle.tough_update.specs.Stages.{LoadedDoc}
use Rattle.tough_lazy.specs.Course.{Need}
use Rattle.tough_lazy.specs.Finding.{IsListing}
use Rattle.tough_lazy.specs.declared.role.Listing.{Listing}
use Rattle.tough_lazy.specs.Telling.{IsAt, TellsFault, IsUnlisted, IsUnfetched}
use Rattle.tough_lazy.specs.declared.error.FetchRolesError.{FetchRolesError}
use Rattle.tough_lazy.specs.declared.error.FetchRolesError.TheVariants as error

pub fault-unfetched : (limits : Limits) (l : LoadedDoc) (n : Need) (m : MetafileDoc) (role file : List ℕ) (f : Fault) (e : FetchRolesError) → IsAt limits l n role file m → TellsFault role file f e → IsUnfetched limits l n e
fault-unfetched limits l n m role file f error.Memory at h = tt
fault-unfetched limits l n m role file f (error.Role r p s) at h =
    (m, record { listed = at.listed; role = h.0 ∙ at.role; file = h.1 ∙ at.file }, (f, h.2 ∙ ap (λ x. fault_failure x f) (sym h.1)))
fault-unfetched limits l n m role file f (error.Unlisted r p) at h = absurd h
fault-unfetched limits l n m role file f (error.Unfit r p) at h = absurd h
fault-unfetched limits l n m role file f (error.TooMany k) at h = absurd h

pub unlisted-unfetched : (limits : Limits) (l : LoadedDoc) (n : Need) (e : FetchRolesError) → IsUnlisted l n e → IsUnfetched limits l n e
unlisted-unfetched limits l n error.Memory h = tt
unlisted-unfetched limits l n (error.Unlisted r p) h = h
unlisted-unfetched limits l n (error.Role r p s) h = absurd h
unlisted-unfetched limits l n (error.Unfit r p) h = absurd h
unlisted-unfetched limits l n (error.TooMany k) h = absurd h

pub if-err : {A : Type 0} (P Q : FetchRolesError → Type 0) (r : Result A FetchRolesError) → ((e : FetchRolesError) → P e → Q e) → IfErr r P → IfErr r Q
if-err P Q (Ok a) f h = tt
if-err P Q (Err e) f h = f e h

-- the names of what is listed
pub listed-at : (limits : Limits) (l : LoadedDoc) (n : Need) (x : Listing) (i : IsListing limits l n x) → IsAt limits l n (string_bytes x.role) (string_bytes x.request.name) i.entry
listed-at limits l n x i = record { listed = i.listed; role = i.role; file = ap (λ (r : RequestDoc). r.name) i.request }
