use Rattle.std.proofs.Common.{ℕ, List, inr, subst}
use Rattle.tough_write.specs.Putting.{manner_of, PutsIn}
use Rattle.tough_write.proofs.put.Putting.put_chosen.Goals as goal

pub returns : goal.returns
returns g c = λ tells.
    let mid = g.F.Files.calls c.resolve.new.files in
    let P : List ℕ → Type 0 = λ dir. PutsIn (manner_of c.args.self.now) c.args.input.now c.args.chosen.now dir c.put_in.result mid (g.F.Files.calls c.put_in.new.files) in
    inr (c.in_ok-dir.dir, mid, c.in_ok-dir.ensures.calls tells, subst P c.as_str.ensures.value (c.put_in.ensures tells))
