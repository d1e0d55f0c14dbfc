use Rattle.std.proofs.Common.{rules, ◌≡◌, Some, None}
use Rattle.tough_client.proofs.Turns.{anyway, work_waits, work_ended, turn_begun, turn_failed}
use Rattle.tough_client.proofs.repository.Repository.go_on_caching.Goals as goal

pub returns-in-Pending-clause-continues : goal.returns-in-Pending-clause-continues
returns-in-Pending-clause-continues g c =
    let is : c.args.caching.now.work ≡ Some c.in-Some.work = search rules in
    work_waits g.T.Transport.refuses g.T.Transport.serves g.T.Stream.Stream.yields g.T.Stream.Stream.can_poll g.K.Keeper.keeps g.C.Clock.may_give g.F.Files.tells
    c.args.self.now c.args.folders (g.F.Files.calls c.args.files.now) (g.F.Files.calls c.go_on_with.new.files) c.args.caching.now
    c.in-Some.work is c.go_on_with.new.waiting c.in-Pending.ensures.waits

pub returns-in-Ready-Ok-clause-continues : goal.returns-in-Ready-Ok-clause-continues
returns-in-Ready-Ok-clause-continues g c =
    let is : c.args.caching.now.work ≡ Some c.in-Some.work = search rules in
    let none : c.go_on_with.new.waiting ≡ None = search rules in
    anyway c.yield_now.result
    (work_ended g.T.Transport.refuses g.T.Transport.serves g.T.Stream.Stream.yields g.T.Stream.Stream.can_poll g.K.Keeper.keeps g.C.Clock.may_give g.F.Files.tells
    c.args.self.now c.args.folders (g.F.Files.calls c.args.files.now) (g.F.Files.calls c.go_on_with.new.files) c.args.caching.now
    c.in-Some.work is c.go_on_with.new.waiting _ (search rules) none)

pub returns-in-Ok-clause-continues : goal.returns-in-Ok-clause-continues
returns-in-Ok-clause-continues g c =
    let is : c.args.caching.now.work ≡ None = search rules in
    anyway c.yield_now-in-Ok.result
    (turn_begun g.T.Transport.refuses g.T.Transport.serves g.T.Stream.Stream.yields g.T.Stream.Stream.can_poll g.K.Keeper.keeps g.C.Clock.may_give g.F.Files.tells
    c.args.self.now c.args.folders (g.F.Files.calls c.args.files.now) (g.F.Files.calls c.begin_turn.new.files) c.args.caching.now
    is c.in-Some-next.turn c.next.new.self c.in-Some-next.ensures.next c.begin_turn.new.self c.in-Ok.work c.in-Ok.ensures.kept c.in-Ok.ensures.begins)

pub returns-in-Err-clause-done : goal.returns-in-Err-clause-done
returns-in-Err-clause-done g c =
    let is : c.args.caching.now.work ≡ None = search rules in
    turn_failed g.T.Transport.refuses g.T.Transport.serves g.T.Stream.Stream.yields g.T.Stream.Stream.can_poll g.K.Keeper.keeps g.C.Clock.may_give g.F.Files.tells
    c.args.self.now c.args.folders (g.F.Files.calls c.args.files.now) (g.F.Files.calls c.begin_turn.new.files) c.args.caching.now
    is c.in-Some-next.turn c.next.new.self c.in-Some-next.ensures.next c.begin_turn.new.self c.in-Err.error c.in-Err.ensures.begins
