use Rattle.std.proofs.Common.{◌≡◌, ◌++◌, ◌≤◌, length, Err, rules}
use Rattle.tough_net.specs.Collecting.{bounds_of}
use Rattle.tough_net.proofs.lemmas.Collect.{Collects-Within, Collects-After, Collects_finish, Collects_error, Collects_refused}
use Rattle.tough_net.proofs.collect.CollectFuture.poll.Goals as goal

pub returns-in-loop-clause-same : goal.returns-in-loop-clause-same
returns-in-loop-clause-same g c = λ r h. c.loop.invariant.4 r
    (Collects-Within (bounds_of c.loop.self) (g.S.Stream.yields c.loop.self.stream) (g.S.Stream.yields c.poll_next.new.self) c.loop.self.bytes.items (search rules) r h)

pub returns-in-Err-clause-value : goal.returns-in-Err-clause-value
returns-in-Err-clause-value g c = c.loop.invariant.4 (Err c.in-Err.e)
    (Collects_refused (bounds_of c.loop.self) (g.S.Stream.yields c.loop.self.stream) (g.S.Stream.yields c.poll_next.new.self) c.loop.self.bytes.items c.loop.invariant.3 c.in-Some-Ok.piece c.in-Err.e (search rules) (search rules))

pub returns-in-Some-Err-clause-value : goal.returns-in-Some-Err-clause-value
returns-in-Some-Err-clause-value g c = c.loop.invariant.4 (Err c.in-Some-Err.e)
    (Collects_error (bounds_of c.loop.self) (g.S.Stream.yields c.loop.self.stream) (g.S.Stream.yields c.poll_next.new.self) c.loop.self.bytes.items c.loop.invariant.3 c.in-Some-Err.e (search rules))

pub returns-in-None-clause-value : goal.returns-in-None-clause-value
returns-in-None-clause-value g c = c.loop.invariant.4 c.finish.result
    (Collects_finish (bounds_of c.loop.self) (g.S.Stream.yields c.loop.self.stream) (g.S.Stream.yields c.poll_next.new.self) c.loop.self.bytes.items c.loop.invariant.3 (search rules) c.finish.result c.finish.ensures.ok c.finish.ensures.fits c.finish.ensures.err)

pub loop-preserved : goal.loop-preserved
loop-preserved g c =
    let items : c.take_in.new.self.bytes.items ≡ c.loop.self.bytes.items ++ c.in-Some-Ok.piece = search rules in
    let within : length c.take_in.new.self.bytes.items ≤ c.loop.self.max_size = search rules in
    rw c.take_in.ensures.others (
      search rules,
      search rules,
      search rules,
      within,
      λ r h. c.loop.invariant.4 r
          (Collects-After (bounds_of c.loop.self) (g.S.Stream.yields c.loop.self.stream) (g.S.Stream.yields c.poll_next.new.self) c.loop.self.bytes.items c.in-Some-Ok.piece (search rules) r (rw items at h)),
    )
