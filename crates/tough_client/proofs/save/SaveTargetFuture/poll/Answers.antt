use Rattle.std.proofs.Common.{rules, refl}
use Rattle.tough_client.specs.Repositories.{keeping_of}
use Rattle.tough_client.proofs.Savings.{some_value, some_same, some_follows, none_saves, none_value, none_same, none_follows, none_failed}
use Rattle.tough_client.proofs.save.SaveTargetFuture.poll.Goals as goal

pub returns-in-Some-clause-value : goal.returns-in-Some-clause-value
returns-in-Some-clause-value g c =
    let m = c.args.self.now in
    some_value g.T.Transport.refuses g.T.Transport.serves g.T.Stream.Stream.yields g.T.Stream.Stream.can_poll g.K.Keeper.keeps g.C.Clock.may_give g.F.Files.tells
    m.saving m.repository.now m.name.now m.outdir.now m.prefix (g.F.Files.calls m.files.now)
    c.in-Some.saving (search rules) (g.F.Files.calls c.go_on.new.files) c.go_on.result c.go_on.ensures.done

pub returns-in-Some-clause-same : goal.returns-in-Some-clause-same
returns-in-Some-clause-same g c =
    let m = c.args.self.now in
    some_same g.T.Transport.refuses g.T.Transport.serves g.T.Stream.Stream.yields g.T.Stream.Stream.can_poll g.K.Keeper.keeps g.C.Clock.may_give g.F.Files.tells
    m.saving m.repository.now m.name.now m.outdir.now m.prefix (g.F.Files.calls m.files.now)
    c.in-Some.saving (search rules) c.go_on.new.waiting (g.F.Files.calls c.go_on.new.files) c.go_on.result c.go_on.ensures.waits

pub returns-in-Some-clause-follows : goal.returns-in-Some-clause-follows
returns-in-Some-clause-follows g c =
    let m = c.args.self.now in
    some_follows g.T.Transport.refuses g.T.Transport.serves g.T.Stream.Stream.yields g.T.Stream.Stream.can_poll g.K.Keeper.keeps g.C.Clock.may_give g.F.Files.tells
    m.saving m.repository.now m.name.now m.outdir.now m.prefix (g.F.Files.calls m.files.now)
    c.in-Some.saving (search rules) c.go_on.new.waiting (g.F.Files.calls c.go_on.new.files) c.go_on.result c.go_on.ensures.waits

pub returns-in-Ok-clause-value : goal.returns-in-Ok-clause-value
returns-in-Ok-clause-value g c =
    let m = c.args.self.now in
    none_value g.T.Transport.refuses g.T.Transport.serves g.T.Stream.Stream.yields g.T.Stream.Stream.can_poll g.K.Keeper.keeps g.C.Clock.may_give g.F.Files.tells
    m.saving m.repository.now m.name.now m.outdir.now m.prefix (g.F.Files.calls m.files.now)
    c.in-Ok.saving (g.F.Files.calls c.start_saving.new.files) (keeping_of c.start_saving.new.self) (search rules) c.in-Ok.ensures.starts
    (g.F.Files.calls c.go_on-in-Ok.new.files) c.go_on-in-Ok.result c.go_on-in-Ok.ensures.done

pub returns-in-Ok-clause-saves : goal.returns-in-Ok-clause-saves
returns-in-Ok-clause-saves g c =
    let m = c.args.self.now in
    none_saves g.T.Transport.refuses g.T.Transport.serves g.T.Stream.Stream.yields g.T.Stream.Stream.can_poll g.K.Keeper.keeps g.C.Clock.may_give g.F.Files.tells
    m.saving m.repository.now m.name.now m.outdir.now m.prefix (g.F.Files.calls m.files.now)
    c.in-Ok.saving (g.F.Files.calls c.start_saving.new.files) (keeping_of c.start_saving.new.self) (search rules) c.in-Ok.ensures.starts
    (g.F.Files.calls c.go_on-in-Ok.new.files) c.go_on-in-Ok.result c.go_on-in-Ok.ensures.done

pub returns-in-Ok-clause-same : goal.returns-in-Ok-clause-same
returns-in-Ok-clause-same g c =
    let m = c.args.self.now in
    none_same g.T.Transport.refuses g.T.Transport.serves g.T.Stream.Stream.yields g.T.Stream.Stream.can_poll g.K.Keeper.keeps g.C.Clock.may_give g.F.Files.tells
    m.saving m.repository.now m.name.now m.outdir.now m.prefix (g.F.Files.calls m.files.now)
    c.in-Ok.saving (g.F.Files.calls c.start_saving.new.files) (keeping_of c.start_saving.new.self) (search rules) c.in-Ok.ensures.starts
    c.go_on-in-Ok.new.waiting c.start_saving.new.self m.outdir.now m.prefix (g.F.Files.calls c.go_on-in-Ok.new.files) c.go_on-in-Ok.result c.go_on-in-Ok.ensures.waits

pub returns-in-Ok-clause-follows : goal.returns-in-Ok-clause-follows
returns-in-Ok-clause-follows g c =
    let m = c.args.self.now in
    none_follows g.T.Transport.refuses g.T.Transport.serves g.T.Stream.Stream.yields g.T.Stream.Stream.can_poll g.K.Keeper.keeps g.C.Clock.may_give g.F.Files.tells
    m.saving m.repository.now m.name.now m.outdir.now m.prefix (g.F.Files.calls m.files.now)
    c.in-Ok.saving (g.F.Files.calls c.start_saving.new.files) (keeping_of c.start_saving.new.self) (search rules) c.in-Ok.ensures.starts
    c.go_on-in-Ok.new.waiting c.start_saving.new.self m.outdir.now m.prefix (g.F.Files.calls c.go_on-in-Ok.new.files) c.go_on-in-Ok.result refl c.go_on-in-Ok.ensures.waits

pub returns-in-Err-clause-value : goal.returns-in-Err-clause-value
returns-in-Err-clause-value g c =
    let m = c.args.self.now in (
      g.F.Files.calls c.start_saving.new.files,
      keeping_of c.start_saving.new.self,
      none_failed g.T.Transport.refuses g.T.Transport.serves g.T.Stream.Stream.yields g.T.Stream.Stream.can_poll g.K.Keeper.keeps g.C.Clock.may_give g.F.Files.tells
          m.saving m.repository.now m.name.now m.outdir.now m.prefix (g.F.Files.calls m.files.now)
          (g.F.Files.calls c.start_saving.new.files) (keeping_of c.start_saving.new.self) c.in-Err.error (search rules) c.in-Err.ensures.starts,
    )

pub returns-in-Err-clause-saves : goal.returns-in-Err-clause-saves
returns-in-Err-clause-saves g c =
    let m = c.args.self.now in
    none_failed g.T.Transport.refuses g.T.Transport.serves g.T.Stream.Stream.yields g.T.Stream.Stream.can_poll g.K.Keeper.keeps g.C.Clock.may_give g.F.Files.tells
    m.saving m.repository.now m.name.now m.outdir.now m.prefix (g.F.Files.calls m.files.now)
    (g.F.Files.calls c.start_saving.new.files) (keeping_of c.start_saving.new.self) c.in-Err.error (search rules) c.in-Err.ensures.starts
