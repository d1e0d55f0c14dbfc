use Rattle.std.proofs.Common.{refl}
use Rattle.witnesses.proofs.steps.two_steps.Goals as goal

pub returns : goal.returns
returns g c = record {
  walked = (c.note.new.keeper, c.in_ok-one.ensures, (c.note-2.new.keeper, c.in_ok-two.ensures, refl));
  mid = c.note.new.keeper;
  rise = λ number next. (tt, tt);
  stepped = (c.in_ok-one.one, refl, c.in_ok-one.ensures);
  stepped_again = (c.in_ok-two.two, refl, c.in_ok-two.ensures);
}
