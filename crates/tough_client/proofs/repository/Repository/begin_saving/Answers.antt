use Rattle.std.proofs.Common.{refl, inl, ◌∙◌}
use Rattle.tough_client.specs.Repositories.{keeping_of}
use Rattle.tough_client.proofs.Starting.{ready, unmade}
use Rattle.tough_client.proofs.repository.Repository.begin_saving.Goals as goal

pub returns-in-Err-clause-readies : goal.returns-in-Err-clause-readies
returns-in-Err-clause-readies g c = inl (c.in-Err.ensures.opened, λ tells. refl)

pub returns-in-Ok-make_temp-clause-readies : goal.returns-in-Ok-make_temp-clause-readies
returns-in-Ok-make_temp-clause-readies g c = ready g.T.Transport.refuses g.T.Transport.serves g.T.Stream.Stream.yields g.T.Stream.Stream.can_poll g.K.Keeper.keeps g.C.Clock.may_give g.F.Files.tells
    c.args.self.now c.args.name.now c.args.folder.now c.args.place (g.F.Files.calls c.args.files.now) (g.F.Files.calls c.make_temp.new.files) (keeping_of c.open_listed.new.self)
    c.in-Ok.stream c.new.result c.in-Ok-make_temp.temp c.in-Ok.ensures.opened c.new.ensures.stream c.in-Ok-make_temp.ensures c.new.ensures.temp (c.new.ensures.path ∙ c.into_path.ensures)

pub returns-in-Err-make_temp-clause-readies : goal.returns-in-Err-make_temp-clause-readies
returns-in-Err-make_temp-clause-readies g c = unmade g.T.Transport.refuses g.T.Transport.serves g.T.Stream.Stream.yields g.T.Stream.Stream.can_poll g.K.Keeper.keeps g.C.Clock.may_give g.F.Files.tells
    c.args.self.now c.args.name.now c.args.folder.now c.args.place (g.F.Files.calls c.args.files.now) (g.F.Files.calls c.make_temp.new.files) (keeping_of c.open_listed.new.self)
    c.in-Ok.stream c.in-Err-make_temp.error c.unsaved.result c.in-Ok.ensures.opened c.in-Err-make_temp.ensures c.unsaved.ensures
