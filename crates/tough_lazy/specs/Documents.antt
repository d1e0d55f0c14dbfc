-- The document of a delegated role that a search needs (TUF specification 1.0, section 5.6.7).
use Rattle.std.specs.Prelude.{◌≡◌, ℕ, List, [], ◌∷◌, Option, Some, Bool, true, Result, Ok}
use Rattle.tough_names.specs.Named.{Named}
use Rattle.tough_keys.specs.Same.{Verifies}
use Rattle.tough_roles.specs.Signature.{SignedDoc}
use Rattle.tough_roles.specs.Timestamp.{MetafileDoc}
use Rattle.tough_schema.specs.Whole.{TreeDoc}
use Rattle.tough_net.specs.declared.limits.Limits.{Limits}
use Rattle.tough_trust.specs.Failure.{Failure}
use Rattle.tough_trust.specs.Listed.{by_delegations, judged}
use Rattle.tough_trust.specs.Requests.{RequestDoc, role_request, fits_request}
use Rattle.tough_trust.specs.delegations.Bare.{held_as}
use Rattle.tough_update.specs.Delegated.{metas_in}
use Rattle.tough_update.specs.Stages.{LoadedDoc, with_role}
use Rattle.tough_update.specs.delegations.Growing.{listed_as}
use Rattle.tough_lazy.specs.Course.{Need, Sought, needed, sought}

-- what a search for the name comes to in these documents
abbrev pub sought_in : Named → LoadedDoc → Sought
sought_in name l = sought name l.targets.role

-- it needs no document that isn't there
abbrev pub IsSettled : Named → LoadedDoc → Type 0
IsSettled name l = (n : Need) → sought_in name l ≡ needed n → ⊥

-- what the snapshot lists for the role that is needed
abbrev pub entry_for : LoadedDoc → Need → Option MetafileDoc
entry_for l n = listed_as (metas_in l.known) n.entry.name

-- the file of its document, as that says
abbrev pub file_for : Limits → LoadedDoc → Need → MetafileDoc → RequestDoc
file_for limits l n m = role_request limits l.known.root.role.consistent_snapshot n.entry.name m

-- what comes of these bytes as its document: the delegations that the role stands in must vouch for them
abbrev pub judged_for : Verifies → Bool → LoadedDoc → Need → MetafileDoc → List ℕ → Result (SignedDoc TreeDoc) Failure
judged_for verifies enforced l n m bytes = judged verifies enforced l.known.start (by_delegations n.delegations n.entry.name) m.version bytes

-- a document of a role that a search needs, as its bytes were received
pub record AddedDoc : Type 0 where
  pub need : Need
  pub entry : MetafileDoc
  pub bytes : List ℕ
  pub document : SignedDoc TreeDoc

-- It is the one that the snapshot lists: of that length, with those digests and of that version, vouched for by the delegations that the role
-- stands in, and in time where that counts.
pub record IsDocument (verifies : Verifies) (limits : Limits) (enforced : Bool) (l : LoadedDoc) (a : AddedDoc) : Type 0 where
  pub listed : entry_for l a.need ≡ Some a.entry
  pub fits : fits_request (file_for limits l a.need a.entry) a.bytes ≡ true
  pub judged : judged_for verifies enforced l a.need a.entry a.bytes ≡ Ok a.document

-- the documents with that one in its place
abbrev pub with_document : AddedDoc → LoadedDoc → LoadedDoc
with_document a = with_role a.need.way (held_as a.need.entry.name a.document) a.bytes

-- documents that a search for the name needed, added one after another
abbrev pub Grows : Verifies → Limits → Bool → Named → LoadedDoc → List AddedDoc → LoadedDoc → Type 0
Grows verifies limits enforced name l [] new = new ≡ l
Grows verifies limits enforced name l (a ∷ more) new = (sought_in name l ≡ needed a.need) × IsDocument verifies limits enforced l a × Grows verifies limits enforced name (with_document a l) more new
