use Rattle.std.proofs.Common.{rules, inl, inr}
use Rattle.tough_write.proofs.put.Putting.put.Goals as goal

pub returns-in_err-chosen : goal.returns-in_err-chosen
returns-in_err-chosen g c = λ tells. inl (c.in_err-chosen.field-0.0, c.in_err-chosen.ensures tells, search rules)

pub returns : goal.returns
returns g c = λ tells. inr (c.in_ok-chosen.chosen, g.F.Files.calls c.choose.new.files, c.in_ok-chosen.ensures tells, c.put_chosen.ensures tells)
