use Rattle.std.proofs.Common.{refl, sym, ap, ◌∙◌}
use Rattle.percent_encoding.specs.Percent.{percent_decode}
use Rattle.percent_encoding.proofs.PercentLemmas.{round_trip}
use Rattle.tough_names.specs.declared.filename.TheConstants.{FILE_NAME}
use Rattle.tough_names.proofs.filename.encodes_apart.Goals as goal

pub returns : goal.returns
returns c = λ a b small_a small_b same.
    sym (round_trip FILE_NAME a refl small_a) ∙ ap percent_decode same ∙ round_trip FILE_NAME b refl small_b
