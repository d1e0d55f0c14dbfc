use Rattle.std.proofs.Common.{rules, inl, inr, refl}
use Rattle.tough_write.proofs.put.Putting.settle.Goals as goal

pub returns-in_err-real : goal.returns-in_err-real
returns-in_err-real g c = λ tells. inr (
  c.in_ok-make_folders.field-0,
  g.F.Files.calls c.make_folders.new.files,
  c.in_ok-make_folders.ensures.calls tells,
  inl (c.in_err-real.field-0.0, c.in_err-real.ensures.calls tells, search rules),
)

pub returns-in_err-base : goal.returns-in_err-base
returns-in_err-base g c = λ tells. inr (
  c.in_ok-make_folders.field-0,
  g.F.Files.calls c.make_folders.new.files,
  c.in_ok-make_folders.ensures.calls tells,
  inr (
    c.in_ok-real.real,
    g.F.Files.calls c.resolve.new.files,
    c.in_ok-real.ensures.calls tells,
    inl (c.in_err-base.field-0.0, c.in_err-base.ensures.calls tells, search rules),
  ),
)

pub returns : goal.returns
returns g c = λ tells. inr (
  c.in_ok-make_folders.field-0,
  g.F.Files.calls c.make_folders.new.files,
  c.in_ok-make_folders.ensures.calls tells,
  inr (
    c.in_ok-real.real,
    g.F.Files.calls c.resolve.new.files,
    c.in_ok-real.ensures.calls tells,
    inr (
      c.in_ok-base.base,
      g.F.Files.calls c.resolve-2.new.files,
      c.in_ok-base.ensures.calls tells,
      (refl, rw (c.as_str.ensures.value, c.as_str-2.ensures.value) at c.check_within.ensures),
    ),
  ),
)
