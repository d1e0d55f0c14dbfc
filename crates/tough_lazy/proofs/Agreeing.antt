-- A search that needs no more documents finds what it finds in a larger tree.
use Rattle.std.proofs.Common.{◌≡◌, false, refl, sym, ◌∙◌}
use Rattle.tough_names.specs.Named.{Named}
use Rattle.tough_schema.specs.Search.{search}
use Rattle.tough_schema.specs.Whole.{TreeDoc}
use Rattle.tough_lazy.specs.Course.{Need, Sought, listed_so, needed, unlisted, sought}
use Rattle.tough_lazy.specs.Extending.{Extends}
use Rattle.tough_lazy.proofs.Extended.{listed-stays, unlisted-stays}
use Rattle.tough_lazy.proofs.Settling.{settled-found, settled-missing}

agrees_so : (name : Named) (t u : TreeDoc) (s : Sought) → sought name t ≡ s → Extends t u → ((n : Need) → sought name t ≡ needed n → ⊥) → search false name t ≡ search false name u
agrees_so name t u (listed_so x) is more settled = settled-found name t x is ∙ sym (settled-found name u x (listed-stays name t u x more is))
agrees_so name t u (needed n) is more settled = absurd (settled n is)
agrees_so name t u unlisted is more settled = settled-missing name t is ∙ sym (settled-missing name u (unlisted-stays name t u more is))

pub agrees : (name : Named) (t u : TreeDoc) → Extends t u → ((n : Need) → sought name t ≡ needed n → ⊥) → search false name t ≡ search false name u
agrees name t u more settled = agrees_so name t u (sought name t) refl more settled
