-- Which failure of an update, or of a step on the store, the wide error tells.
use Rattle.std.specs.Prelude.{Option, Some, None, string_bytes}
use Rattle.tough_roles.specs.Verdict.{refused}
use Rattle.tough_checks.specs.Checks as check
use Rattle.tough_trust.specs.Failure as failed
use Rattle.tough_trust.specs.Failure.{Failure, is_json, name_missing}
use Rattle.tough_error.specs.declared.error.Error.{Error}
use Rattle.tough_error.specs.declared.error.Error.TheVariants as error

-- the failure of an update that an error tells, if it tells one
abbrev pub failure_in : Error → Option Failure
failure_in (error.ParseTrustedMetadata source) = Some (failed.ParseTrustedMetadata (is_json source))
failure_in (error.VerifyTrustedMetadata source) = Some (failed.VerifyTrustedMetadata (refused source))
failure_in (error.ParseMetadata role source) = Some (failed.ParseMetadata role (is_json source))
failure_in (error.MaxUpdatesExceeded n) = Some (failed.MaxUpdatesExceeded n)
failure_in (error.ParseUrl url source) = Some (failed.ParseUrl (string_bytes url) source)
failure_in (error.JoinUrl path source) = Some (failed.JoinUrl (string_bytes path) source)
failure_in (error.Transport source) = Some (failed.Transport source)
failure_in (error.InvalidPath source) = Some (failed.InvalidPath (name_missing source))
failure_in (error.SystemTimeSteppedBackward now later) = Some (failed.Checked (check.SystemTimeSteppedBackward now.nanosecond later.nanosecond))
failure_in error.DatastoreSerialize = Some (failed.Checked check.DatastoreSerialize)
failure_in (error.VerifyMetadata role source) = Some (failed.Checked (check.VerifyMetadata role (refused source)))
failure_in (error.VersionMismatch role fetched expected) = Some (failed.Checked (check.VersionMismatch role fetched expected))
failure_in (error.TimestampMetaLength version count) = Some (failed.Checked (check.TimestampMetaLength version count))
failure_in (error.MissingSnapshotMeta version) = Some (failed.Checked (check.MissingSnapshotMeta version))
failure_in (error.SnapshotTargetsMetaMissing version) = Some (failed.Checked (check.SnapshotTargetsMetaMissing version))
failure_in (error.OlderMetadata role current new) = Some (failed.Checked (check.OlderMetadata role current new))
failure_in (error.OlderSnapshotInTimestamp a b c d) = Some (failed.Checked (check.OlderSnapshotInTimestamp a b c d))
failure_in (error.SnapshotRoleMissing name old new) = Some (failed.Checked (check.SnapshotRoleMissing (string_bytes name) old new))
failure_in (error.SnapshotRoleRollback name was old now new) = Some (failed.Checked (check.SnapshotRoleRollback (string_bytes name) was old now new))
failure_in (error.ExpiredMetadata role expires now) = Some (failed.Checked (check.ExpiredMetadata role expires.nanosecond now.nanosecond))
failure_in (error.DatastoreOpen path) = Some (failed.DatastoreOpen (string_bytes path))
failure_in (error.DatastoreCreate path) = Some (failed.DatastoreCreate (string_bytes path))
failure_in (error.DatastoreRemove path) = Some (failed.DatastoreRemove (string_bytes path))
failure_in error.Memory = Some failed.Memory
failure_in _ = None
