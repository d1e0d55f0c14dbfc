-- How a turn of the program ends.
use Rattle.std.proofs.Common.{◌≡◌, None, Result, Ok, Err, refl, sym, ap, inl, inr}
use Rattle.tough_trust.specs.Failure.{Failure, ParseTrustedMetadata, VerifyTrustedMetadata, ParseMetadata, MaxUpdatesExceeded, ParseUrl, JoinUrl, Transport, InvalidPath, Checked, DatastoreOpen, DatastoreCreate, DatastoreRemove, Memory, IsRefused}
use Rattle.tough_update.specs.Stages.{StageDoc, Done}
use Rattle.tough_update.specs.Machine.{settled}
use Rattle.tough_update.specs.Promises.{Settles, ended}
use Rattle.tough_update.specs.View.{stage_doc}
use Rattle.tough_trust.specs.declared.error.UpdateError.{UpdateError}
use Rattle.tough_update.specs.declared.stage.Loaded.{Loaded}
use Rattle.tough_update.specs.declared.stage.Stage.{Stage}
use Rattle.tough_update.specs.declared.stage.Stage.TheVariants as in_stage

pub went : (r : Result StageDoc Failure) (stage : StageDoc) → r ≡ Ok stage → Settles r stage
went r stage h = inl (sym (ap settled h))

pub failed : (r : Result StageDoc Failure) (f : Failure) → IsRefused f r → Settles r (Done (Err f))
failed r Memory h = inr refl
failed r (ParseTrustedMetadata json) h = inl (sym (ap settled h))
failed r (VerifyTrustedMetadata v) h = inl (sym (ap settled h))
failed r (ParseMetadata role json) h = inl (sym (ap settled h))
failed r (MaxUpdatesExceeded n) h = inl (sym (ap settled h))
failed r (ParseUrl url e) h = inl (sym (ap settled h))
failed r (JoinUrl name e) h = inl (sym (ap settled h))
failed r (Transport e) h = inl (sym (ap settled h))
failed r (InvalidPath name) h = inl (sym (ap settled h))
failed r (Checked reason) h = inl (sym (ap settled h))
failed r (DatastoreOpen path) h = inl (sym (ap settled h))
failed r (DatastoreCreate path) h = inl (sym (ap settled h))
failed r (DatastoreRemove path) h = inl (sym (ap settled h))

-- a stage that is no end
pub unended : (s : Stage) → ((o : Result Loaded UpdateError) → s ≡ in_stage.Done o → ⊥) → None ≡ ended (stage_doc s)
unended in_stage.Moment h = refl
unended (in_stage.ReadRoot w) h = refl
unended (in_stage.Fetch w r) h = refl
unended (in_stage.Step p) h = refl
unended (in_stage.Done o) h = absurd (h o refl)
unended in_stage.Taken h = refl
