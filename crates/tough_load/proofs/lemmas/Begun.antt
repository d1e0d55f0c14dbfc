-- What a load holds at its beginning.
use Rattle.std.specs.Prelude.{◌≡◌, []}
use Rattle.std.proofs.Common.{ap, ◌∙◌}
use Rattle.tough_load.specs.declared.load.Load.{Load}
use Rattle.tough_load.specs.declared.loader.RepositoryLoader.{RepositoryLoader}
use Rattle.tough_load.specs.Loader.{IsBegun, keeper_of, held_of}
use Rattle.tough_load.specs.Words as part

-- it is what the loader was given, and no receipt
pub begun-held : {T V C K S R : Type 0} (from : RepositoryLoader T V C K) (l : Load T K C V S R) → IsBegun from l → part.held_of l ≡ held_of from
begun-held from l h =
    ap (λ x. record { keeping = record { keeper = x; receipts = part.receipts_of l }; clock = part.clock_of l }) h.keeper
    ∙ (ap (λ x. record { keeping = record { keeper = keeper_of from; receipts = x }; clock = part.clock_of l }) h.receipts
    ∙ ap (λ x. record { keeping = record { keeper = keeper_of from; receipts = [] }; clock = x }) h.clock)
