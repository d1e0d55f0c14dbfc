use Rattle.std.proofs.Common.{sym}
use Rattle.tough_keys.specs.Demo.{demo_verifies}
use Rattle.tough_roles.specs.Root.{root_doc}
use Rattle.tough_roles.specs.Signature.{signed_doc}
use Rattle.tough_roles.specs.Snapshot.{snapshot_doc}
use Rattle.tough_roles.specs.Timestamp.{timestamp_doc, metafile_doc}
use Rattle.tough_schema.specs.Whole.{tree_doc}
use Rattle.witnesses.proofs.Assembling.{loadable-of, targets-of}
use Rattle.witnesses.proofs.update.loadable.Goals as goal

pub returns : goal.returns
returns c =
    let root = signed_doc root_doc c.in_ok-root.root in
    let start = c.args.start.nanosecond in
    let limits = c.args.limits.now in
    let r = c.in_ok-root.ensures in
    let t = c.in_ok-first.ensures in
    let s = c.in_ok-second.ensures in
    let k = c.in_ok-targets_in.ensures in
    let targets = c.in_ok-targets_in.field-0 in
    loadable-of demo_verifies start limits (record { trusted = c.args.trusted.now; timestamp = c.args.timestamp.now; snapshot = c.args.snapshot.now; targets = c.args.targets.now }) root
    (signed_doc timestamp_doc c.in_ok-first.first) (signed_doc snapshot_doc c.in_ok-second.second) (signed_doc tree_doc targets) c.in_ok-has_update.ensures c.in_ok-has_text.ensures
    (record { reading = r.reading; signed = r.signed; in_time = r.in_time; stored = r.stored; first = r.first; plain = r.plain })
    (record { reading = t.reading; signed = t.signed; in_time = t.in_time; fits = t.fits; alone = t.alone })
    (record { listed = metafile_doc c.in-Some.listed.now; is = sym c.in-Some.ensures; reading = s.reading; signed = s.signed; in_time = s.in_time; fits = s.fits; version = s.version })
    (targets-of demo_verifies start limits root.role _ (metafile_doc c.in-Some-metafile.listed.now) c.args.targets.now targets (c.trees_tell_their_top.ensures targets.signed) (sym c.in-Some-metafile.ensures) k.reading k.signed k.in_time k.stored k.fits k.version k.alone k.found)
