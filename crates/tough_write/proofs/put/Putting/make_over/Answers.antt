use Rattle.std.proofs.Common.{rules, inl, inr}
use Rattle.tough_write.proofs.put.Putting.make_over.Goals as goal

pub returns-in_err-check_kind : goal.returns-in_err-check_kind
returns-in_err-check_kind g c = λ tells. inr (
  c.in_ok-agree.field-0,
  g.F.Files.calls c.agree.new.files,
  c.in_ok-agree.ensures tells,
  inl (c.in_err-check_kind.field-0.0, c.in_err-check_kind.ensures tells, search rules),
)

pub returns : goal.returns
returns g c = λ tells. inr (
  c.in_ok-agree.field-0,
  g.F.Files.calls c.agree.new.files,
  c.in_ok-agree.ensures tells,
  inr (c.in_ok-check_kind.field-0, g.F.Files.calls c.check_kind.new.files, c.in_ok-check_kind.ensures tells, c.replace.ensures tells),
)
