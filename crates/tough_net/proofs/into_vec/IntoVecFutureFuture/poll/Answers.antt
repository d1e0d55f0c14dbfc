use Rattle.std.proofs.Common.{◌≡◌, ◌++◌, rules, [], Ok, Err, inl}
use Rattle.tough_net.proofs.JoinLemmas.{Joins-Within, Joins-After, Joins_end}
use Rattle.tough_net.proofs.into_vec.IntoVecFutureFuture.poll.Goals as goal

pub returns-in-loop-clause-same : goal.returns-in-loop-clause-same
returns-in-loop-clause-same g c = λ r h. c.loop.invariant.2 r
    (Joins-Within (g.S.Stream.yields c.loop.self.stream) (g.S.Stream.yields c.poll_next.new.self) c.loop.self.bytes.items (search rules) r h)

pub returns-in-Some-Err-clause-value : goal.returns-in-Some-Err-clause-value
returns-in-Some-Err-clause-value g c = c.loop.invariant.2 (Err c.in-Some-Err.e) (inl ([], search rules))

pub returns-in-None-clause-value : goal.returns-in-None-clause-value
returns-in-None-clause-value g c = c.loop.invariant.2 (Ok c.replace.result)
    (Joins_end (g.S.Stream.yields c.loop.self.stream) (g.S.Stream.yields c.poll_next.new.self) c.loop.self.bytes.items c.replace.result (search rules) (search rules))

pub loop-preserved : goal.loop-preserved
loop-preserved g c =
    let items : c.extend_from_slice.new.self.items ≡ c.loop.self.bytes.items ++ c.in-Some-Ok.piece = search rules in (
      search rules,
      search rules,
      λ r h. c.loop.invariant.2 r
          (Joins-After (g.S.Stream.yields c.loop.self.stream) (g.S.Stream.yields c.poll_next.new.self) c.loop.self.bytes.items c.in-Some-Ok.piece (search rules) r (rw items at h)),
    )
