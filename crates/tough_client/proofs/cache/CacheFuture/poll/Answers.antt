use Rattle.std.proofs.Common.{rules, refl, ◌≡◌, Some, None}
use Rattle.tough_client.specs.Caching.{MakesWanted, PlansWanted}
use Rattle.tough_client.specs.Futures.{wanted_in}
use Rattle.tough_client.specs.Repositories.{documents_of, keeping_of}
use Rattle.tough_client.proofs.Turns.{goes_value, continues_same, continues_follows, begun_same, begun_follows, unbegun, unbegun_value}
use Rattle.tough_client.proofs.cache.CacheFuture.poll.Goals as goal

pub returns-in-Some-clause-value : goal.returns-in-Some-clause-value
returns-in-Some-clause-value g c =
    let m = c.args.self.now in
    let is : m.caching ≡ Some c.in-Some.caching = search rules in
    goes_value g.T.Transport.refuses g.T.Transport.serves g.T.Stream.Stream.yields g.T.Stream.Stream.can_poll g.K.Keeper.keeps g.C.Clock.may_give g.F.Files.tells
    (MakesWanted g.F.Files.tells m.folders (wanted_in g.N.AsStr.text m)) (PlansWanted (documents_of m.repository.now) (wanted_in g.N.AsStr.text m) m.root_chain)
    m.repository.now m.folders (g.F.Files.calls m.files.now) (g.F.Files.calls m.files.now) m.caching c.in-Some.caching is
    (g.F.Files.calls c.go_on_caching.new.files) (keeping_of c.go_on_caching.new.self) c.go_on_caching.result c.go_on_caching.ensures.done

pub returns-in-Some-clause-same : goal.returns-in-Some-clause-same
returns-in-Some-clause-same g c =
    let m = c.args.self.now in
    let is : m.caching ≡ Some c.in-Some.caching = search rules in
    continues_same g.T.Transport.refuses g.T.Transport.serves g.T.Stream.Stream.yields g.T.Stream.Stream.can_poll g.K.Keeper.keeps g.C.Clock.may_give g.F.Files.tells
    (MakesWanted g.F.Files.tells m.folders (wanted_in g.N.AsStr.text m)) (PlansWanted (documents_of m.repository.now) (wanted_in g.N.AsStr.text m) m.root_chain)
    m.repository.now m.folders (g.F.Files.calls m.files.now) (g.F.Files.calls c.go_on_caching.new.files) m.caching c.in-Some.caching is
    (PlansWanted (documents_of c.go_on_caching.new.self) (wanted_in g.N.AsStr.text m) m.root_chain) c.go_on_caching.new.self c.go_on_caching.new.caching
    (Some c.go_on_caching.new.caching) refl c.go_on_caching.result c.go_on_caching.ensures.continues

pub returns-in-Some-clause-follows : goal.returns-in-Some-clause-follows
returns-in-Some-clause-follows g c =
    let m = c.args.self.now in
    let is : m.caching ≡ Some c.in-Some.caching = search rules in
    continues_follows g.T.Transport.refuses g.T.Transport.serves g.T.Stream.Stream.yields g.T.Stream.Stream.can_poll g.K.Keeper.keeps g.C.Clock.may_give g.F.Files.tells
    (MakesWanted g.F.Files.tells m.folders (wanted_in g.N.AsStr.text m)) (PlansWanted (documents_of m.repository.now) (wanted_in g.N.AsStr.text m) m.root_chain)
    m.repository.now m.folders (g.F.Files.calls m.files.now) (g.F.Files.calls c.go_on_caching.new.files) m.caching c.in-Some.caching is
    (PlansWanted (documents_of c.go_on_caching.new.self) (wanted_in g.N.AsStr.text m) m.root_chain) c.go_on_caching.new.self c.go_on_caching.new.caching
    (Some c.go_on_caching.new.caching) refl c.go_on_caching.result c.go_on_caching.ensures.continues

pub returns-in-Ok-clause-same : goal.returns-in-Ok-clause-same
returns-in-Ok-clause-same g c =
    let m = c.args.self.now in
    let is : m.caching ≡ None = search rules in
    begun_same g.T.Transport.refuses g.T.Transport.serves g.T.Stream.Stream.yields g.T.Stream.Stream.can_poll g.K.Keeper.keeps g.C.Clock.may_give g.F.Files.tells
    (MakesWanted g.F.Files.tells m.folders (wanted_in g.N.AsStr.text m)) (PlansWanted (documents_of m.repository.now) (wanted_in g.N.AsStr.text m) m.root_chain)
    m.repository.now m.folders (g.F.Files.calls m.files.now) (g.F.Files.calls c.begin.new.files) m.caching is
    c.in-Ok.caching c.in-Ok.ensures.begins (Some c.in-Ok.caching) refl c.yield_now.result

pub returns-in-Ok-clause-follows : goal.returns-in-Ok-clause-follows
returns-in-Ok-clause-follows g c =
    let m = c.args.self.now in
    let is : m.caching ≡ None = search rules in
    begun_follows g.T.Transport.refuses g.T.Transport.serves g.T.Stream.Stream.yields g.T.Stream.Stream.can_poll g.K.Keeper.keeps g.C.Clock.may_give g.F.Files.tells
    (MakesWanted g.F.Files.tells m.folders (wanted_in g.N.AsStr.text m)) (PlansWanted (documents_of m.repository.now) (wanted_in g.N.AsStr.text m) m.root_chain)
    m.repository.now m.folders (g.F.Files.calls m.files.now) (g.F.Files.calls c.begin.new.files) m.caching is
    c.in-Ok.caching c.in-Ok.ensures.begins (Some c.in-Ok.caching) refl c.yield_now.result

pub returns-in-Err-clause-value : goal.returns-in-Err-clause-value
returns-in-Err-clause-value g c =
    let m = c.args.self.now in
    let is : m.caching ≡ None = search rules in
    unbegun_value g.T.Transport.refuses g.T.Transport.serves g.T.Stream.Stream.yields g.T.Stream.Stream.can_poll g.K.Keeper.keeps g.C.Clock.may_give g.F.Files.tells
    (MakesWanted g.F.Files.tells m.folders (wanted_in g.N.AsStr.text m)) (PlansWanted (documents_of m.repository.now) (wanted_in g.N.AsStr.text m) m.root_chain)
    m.repository.now m.folders (g.F.Files.calls m.files.now) (g.F.Files.calls c.begin.new.files) m.caching is c.in-Err.error c.in-Err.ensures.begins

pub returns-in-Err-clause-caches : goal.returns-in-Err-clause-caches
returns-in-Err-clause-caches g c =
    let m = c.args.self.now in
    let is : m.caching ≡ None = search rules in
    unbegun g.T.Transport.refuses g.T.Transport.serves g.T.Stream.Stream.yields g.T.Stream.Stream.can_poll g.K.Keeper.keeps g.C.Clock.may_give g.F.Files.tells
    (MakesWanted g.F.Files.tells m.folders (wanted_in g.N.AsStr.text m)) (PlansWanted (documents_of m.repository.now) (wanted_in g.N.AsStr.text m) m.root_chain)
    m.repository.now m.folders (g.F.Files.calls m.files.now) (g.F.Files.calls c.begin.new.files) m.caching is c.in-Err.error c.in-Err.ensures.begins
