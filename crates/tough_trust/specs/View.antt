-- Requests, steps, and who vouches for targets, seen as plain data.
use Rattle.std.specs.BTreeMap.{get_by_text}
use Rattle.std.specs.Prelude.{option_map, string_bytes, Option, Result, Ok, Err, ⊤}
use Rattle.tough_roles.specs.Signature.{SignedDoc, signed_doc}
use Rattle.tough_roles.specs.Timestamp.{timestamp_doc}
use Rattle.tough_roles.specs.Snapshot.{snapshot_doc}
use Rattle.tough_schema.specs.Targets.{targets_doc}
use Rattle.tough_vault.specs.Act.{Act as ActDoc}
use Rattle.tough_vault.specs.Act as act
use Rattle.tough_checks.specs.Checks.{enforces}
use Rattle.tough_checks.specs.DocumentName.{name_of}
use Rattle.tough_checks.specs.Files.{targets_file}
use Rattle.tough_checks.specs.declared.checks.StepError.{StepError}
use Rattle.tough_roles.specs.Root.{RootDoc, root_doc}
use Rattle.tough_net.specs.Digests.{digests_of}
use Rattle.tough_trust.specs.declared.request.Request.{Request}
use Rattle.tough_trust.specs.declared.holder.Holder.{Holder}
use Rattle.tough_trust.specs.declared.holder.Holder.TheVariants as holds
use Rattle.tough_trust.specs.declared.act.Act.{Act}
use Rattle.tough_trust.specs.declared.act.Act.TheVariants as to
use Rattle.tough_trust.specs.Failure.{Failure, step_failure}
use Rattle.tough_trust.specs.Requests.{RequestDoc}
use Rattle.tough_trust.specs.Listed.{HolderDoc, by_root, by_role, targets_text}
use Rattle.tough_trust.specs.declared.holder.RoleHolder.{RoleHolder}
use Rattle.tough_trust.specs.declared.delegations.index.Index.{Index}
use Rattle.tough_trust.specs.delegations.Indexed as plain
use Rattle.tough_schema.specs.Delegations.{delegations_doc, delegated_role_doc}

abbrev pub request_doc : Request → RequestDoc
request_doc r = record { name = string_bytes r.name; max_size = r.max_size; specifier = r.specifier.now; digests = digests_of r.digests }

-- ---- who vouches for targets

abbrev pub role_holder_doc : RoleHolder → HolderDoc
role_holder_doc r = by_role (option_map (λ g. delegations_doc g.now) r.delegations) (option_map (λ x. delegated_role_doc x.now) r.role) r.name.now

abbrev pub holder_doc : Holder → HolderDoc
holder_doc (holds.Root root) = by_root (root_doc root.now)
holder_doc (holds.Role role) = role_holder_doc role

-- ---- names that had their turn

-- the number of the document of each name that had its turn
abbrev pub index_doc : Index → plain.Index
index_doc x q = get_by_text x.numbers q

-- ---- steps on a store

abbrev pub act_of : Act → ActDoc
act_of (to.NoteTime now) = act.NoteTime now.nanosecond
act_of (to.PutRoot r) = act.PutRoot (signed_doc root_doc r.now)
act_of to.ClearRotated = act.ClearRotated
act_of (to.AdvanceTimestamp root new start enforcement) = act.AdvanceTimestamp (root_doc root.now) (signed_doc timestamp_doc new.now) start.nanosecond (enforces enforcement)
act_of (to.AdvanceSnapshot root listed new start enforcement) = act.AdvanceSnapshot (root_doc root.now) listed (signed_doc snapshot_doc new.now) start.nanosecond (enforces enforcement)
act_of (to.PutDelegated name d) = act.PutDocument (name_of name.now) (targets_text (signed_doc targets_doc d.now))
act_of (to.PutTargets d) = act.PutDocument targets_file (targets_text (signed_doc targets_doc d.now))

-- the stored root, as a keeper reads it
abbrev pub read_doc : Result (Option (SignedDoc RootDoc)) StepError → Result (Option (SignedDoc RootDoc)) Failure
read_doc (Ok r) = Ok r
read_doc (Err e) = Err (step_failure e)

abbrev pub step_doc : Result ⊤ StepError → Result Unit Failure
step_doc (Ok u) = Ok (tt {0})
step_doc (Err e) = Err (step_failure e)
