-- A step that an update's answers tell of was taken by the keeper.
use Rattle.std.specs.Prelude.{◌≡◌, ℤ, List, [], ◌∷◌, ◌++◌, Result, Ok, Err}
use Rattle.std.proofs.Common.{refl, ap, ◌∙◌, subst, inl, inr}
use Rattle.url.specs.Parts.{Parts}
use Rattle.futures.specs.Runs.{Runs}
use Rattle.tough_keys.specs.Same.{Verifies}
use Rattle.tough_checks.specs.declared.checks.StepError.{StepError}
use Rattle.tough_net.specs.declared.error.TransportError.{TransportError}
use Rattle.tough_net.specs.Items.{Item}
use Rattle.tough_update.specs.Stages.{LoadedDoc, CoreDoc}
use Rattle.tough_update.specs.Stages as at
use Rattle.tough_update.specs.Questions.{Question}
use Rattle.tough_update.specs.Questions as ask
use Rattle.tough_update.specs.Answered.{AnswerDoc}
use Rattle.tough_update.specs.Answered as got
use Rattle.tough_update.specs.Machine.{question}
use Rattle.tough_update.specs.Runs.{run, HasNoted}
use Rattle.tough_vault.specs.Act.{Act, NoteTime}
use Rattle.tough_trust.specs.Steps.{Keeping, ReadsRoot}
use Rattle.tough_load.specs.Loading.{Held, Allows, Leads, Walks}
use Rattle.tough_load.specs.Vouching.{Vouches, HasStepped}
use Rattle.tough_load.proofs.Loads.{allows-walks}
use Rattle.tough_load.proofs.Trails.{Walks_same, Walks-trans}
use Rattle.tough_load.proofs.Trusts.{spent}

module _ {T S K R C : Type 0} (refuses : T → Parts → TransportError → Type 0) (serves : T → Parts → Runs Item) (keeps : Verifies → K → Act → Result R StepError → K → Type 0) (reads : ReadsRoot K) (may_give : C → ℤ → Type 0) (yields : S → Runs Item)
    (v : Verifies) (base : Parts) (t : T) where
  leads-walks : (answers : List AnswerDoc) (c : CoreDoc) (k : Held K R C) (c' : CoreDoc) (k' : Held K R C) → Leads refuses serves keeps reads may_give yields v base t c k answers c' k' → Walks keeps reads v k.keeping k'.keeping
  leads-walks [] c k c' k' h = Walks_same keeps reads v k.keeping k'.keeping (ap (λ (x : Held K R C). x.keeping) h.1)
  leads-walks (a ∷ rest) c k c' k' (mid, next, allowed, goes, more) =
      Walks-trans keeps reads v k.keeping next.keeping k'.keeping (allows-walks refuses serves keeps reads may_give yields v base t (question c) k a next allowed) (leads-walks rest mid next c' k' more)

  -- the step that the answer of success tells of
  stepped : (act : Act) (k next k' : Held K R C) → Allows refuses serves keeps reads may_give yields v base t (ask.Step act) k (got.Step (Ok (tt {0}))) next → Walks keeps reads v next.keeping k'.keeping → HasStepped keeps reads v k.keeping act k'.keeping
  stepped act k next k' (Ok u, e, (r, put, held), same) more = record { before = k.keeping; after = next.keeping; receipt = r; earlier = Walks_same keeps reads v k.keeping k.keeping refl; stepped = held; put = put; later = more }
  stepped act k next k' (Err f, e, h, same) more = absurd (cc (e))

  after-steps : (k mid k' : Keeping K R) (act : Act) → Walks keeps reads v k mid → HasStepped keeps reads v mid act k' → HasStepped keeps reads v k act k'
  after-steps k mid k' act w h = record { before = h.before; after = h.after; receipt = h.receipt; earlier = Walks-trans keeps reads v k mid h.before w h.earlier; stepped = h.stepped; put = h.put; later = h.later }

  leads-stepped : (before after : List AnswerDoc) (act : Act) (c : CoreDoc) (k : Held K R C) (c' : CoreDoc) (k' : Held K R C) (l : LoadedDoc) → c'.stage ≡ at.Done (Ok l)
      → question (run v c before) ≡ ask.Step act → Leads refuses serves keeps reads may_give yields v base t c k (before ++ got.Step (Ok (tt {0})) ∷ after) c' k' → HasStepped keeps reads v k.keeping act k'.keeping
  leads-stepped [] after act c k c' k' l is asked (mid, next, allowed, goes, more) =
      stepped act k next k' (subst (λ (q : Question). Allows refuses serves keeps reads may_give yields v base t q k (got.Step (Ok (tt {0}))) next) asked allowed) (leads-walks after mid next c' k' more)
  leads-stepped (a ∷ rest) after act c k c' k' l is asked (mid, next, allowed, inl e, more) =
      after-steps k.keeping next.keeping k'.keeping act (allows-walks refuses serves keeps reads may_give yields v base t (question c) k a next allowed)
      (leads-stepped rest after act mid next c' k' l is (ap (λ (d : CoreDoc). question (run v d rest)) e ∙ asked) more)
  leads-stepped (a ∷ rest) after act c k c' k' l is asked (mid, next, allowed, inr e, more) =
      absurd (cc (is, spent refuses serves keeps reads may_give yields v base t (rest ++ got.Step (Ok (tt {0})) ∷ after) mid next c' k' (ap (λ (d : CoreDoc). d.stage) e) more))

  pub start-noted : (c : CoreDoc) (k : Held K R C) (left : CoreDoc) (kept : Held K R C) (l : LoadedDoc) → Vouches refuses serves keeps reads may_give yields v base t c k left kept l → HasStepped keeps reads v k.keeping (NoteTime l.known.start) kept.keeping
  start-noted c k left kept l h =
      let noted : HasNoted v c h.answers l.known.start = h.loaded.noted in
      leads-stepped noted.before noted.after (NoteTime l.known.start) c k (record { setting = c.setting; stage = at.Done (Ok l) }) kept l refl noted.asked
      (subst (λ (x : List AnswerDoc). Leads refuses serves keeps reads may_give yields v base t c k x (record { setting = c.setting; stage = at.Done (Ok l) }) kept) noted.all h.allowed)
