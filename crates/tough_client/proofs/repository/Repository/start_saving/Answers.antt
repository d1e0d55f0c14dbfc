use Rattle.std.proofs.Common.{refl}
use Rattle.tough_client.specs.Repositories.{keeping_of}
use Rattle.tough_client.proofs.Starting.{nowhere, goes_on}
use Rattle.tough_client.proofs.repository.Repository.start_saving.Goals as goal

pub returns-in-Ok-place-clause-starts : goal.returns-in-Ok-place-clause-starts
returns-in-Ok-place-clause-starts g c = goes_on g.T.Transport.refuses g.T.Transport.serves g.T.Stream.Stream.yields g.T.Stream.Stream.can_poll g.K.Keeper.keeps g.C.Clock.may_give g.F.Files.tells
    c.args.self.now c.args.name.now c.args.outdir.now c.args.prefix (g.F.Files.calls c.args.files.now) (g.F.Files.calls c.begin_saving.new.files) (keeping_of c.begin_saving.new.self)
    c.in-Ok.folder c.as_str.result.now c.as_str-in-Ok-place.result.now (g.F.Files.calls c.open_folder.new.files) c.in-Ok-place.place c.as_str.ensures.value c.as_str-in-Ok-place.ensures.value c.in-Ok.ensures c.in-Ok-place.ensures c.begin_saving.result c.begin_saving.ensures.readies

pub returns-clause-starts : goal.returns-clause-starts
returns-clause-starts g c = nowhere g.T.Transport.refuses g.T.Transport.serves g.T.Stream.Stream.yields g.T.Stream.Stream.can_poll g.K.Keeper.keeps g.C.Clock.may_give g.F.Files.tells
    c.args.self.now c.args.name.now c.args.outdir.now c.args.prefix (g.F.Files.calls c.args.files.now) (g.F.Files.calls c.open_folder.new.files) (keeping_of c.args.self.now)
    c.in-Ok.folder c.as_str.result.now c.in-Err-place.error c.as_str.ensures.value c.in-Ok.ensures c.in-Err-place.ensures refl
