use Rattle.std.specs.Int.NonZero.{non_zero_u64_get}
use Rattle.tough_roles.specs.Root.{keys_doc}
use Rattle.tough_schema.specs.Paths.{paths_doc}
use Rattle.tough_release.specs.Changes.{NewRole}
use Rattle.tough_release.specs.Edits.{release_doc}
use Rattle.tough_release.proofs.Delegating.{delegated_is, undelegatable}
use Rattle.tough_release.proofs.edits.RepositoryEdits.delegate_role.Goals as goal

pub returns-clause-delegated : goal.returns-clause-delegated
returns-clause-delegated g c =
    let role : NewRole = record {
      name = c.args.name.now;
      paths = paths_doc c.args.paths;
      terminating = c.args.terminating;
      threshold = non_zero_u64_get c.args.threshold;
      expires = c.args.expires.nanosecond;
      version = non_zero_u64_get c.args.version;
    } in
    delegated_is g.S.Sign.key g.S.Sign.signs g.S.Sign.fails c.args.signers.now role (release_doc c.args.self.now) c.in_ok-document.document c.in_ok-told.told.keyids.items (keys_doc c.in_ok-told.told.keys.entries) (release_doc c.delegate_document.new.self) c.delegate_document.result
    c.in_ok-document.ensures.signed c.in_ok-told.ensures.ids c.in_ok-told.ensures.keys c.delegate_document.ensures.delegated c.delegate_document.ensures.there

pub returns-clause-refused : goal.returns-clause-refused
returns-clause-refused g c =
    let role : NewRole = record {
      name = c.args.name.now;
      paths = paths_doc c.args.paths;
      terminating = c.args.terminating;
      threshold = non_zero_u64_get c.args.threshold;
      expires = c.args.expires.nanosecond;
      version = non_zero_u64_get c.args.version;
    } in
    undelegatable g.S.Sign.key g.S.Sign.signs g.S.Sign.fails c.args.signers.now role (release_doc c.args.self.now) c.in_ok-document.document c.delegate_document.result c.in_ok-document.ensures.signed c.delegate_document.ensures.refused
