-- The parts of a text, as the code holds them.
use Rattle.tough_net.specs.declared.shown.Parts as declared
use Rattle.tough_net.specs.Shown.{Parts}

abbrev pub parts_in : declared.Parts → Parts
parts_in p = record { scheme = p.scheme.now; user = p.user.now; behind = p.behind.now }
