use Rattle.std.proofs.Common.{◌≡◌, List, Ok, refl, sym, ap, ◌∙◌, subst}
use Rattle.std.specs.Int.NonZero.{non_zero_u64_get}
use Rattle.std.specs.Prelude.{IfOk, Result}
use Rattle.tough_update.specs.View.{core_doc, counts_of, loaded_doc, outcome_doc}
use Rattle.tough_load.specs.Advancing.{Finishes}
use Rattle.tough_load.specs.Loader.{first_core, settings_of, transport_of, verifier_of, held_of}
use Rattle.tough_load.specs.Loading.{Deed, Trail}
use Rattle.tough_load.specs.Vouching.{Vouches}
use Rattle.tough_load.specs.Words as part
use Rattle.tough_load.proofs.Trusts.{leads-run}
use Rattle.witnesses.proofs.Ending.{asked}
use Rattle.witnesses.proofs.load.ended_load.Goals as goal

pub returns-else-get-clause-finishes : goal.returns-else-get-clause-finishes
returns-else-get-clause-finishes g c = (
  c.in-Ok.load,
  loaded_doc c.in-Ok-Ok.loaded,
  c.in-Ok.ensures.begun,
  subst (λ r. Finishes g.T.Transport.refuses g.T.Transport.serves g.K.Keeper.keeps g.K.Keeper.reads g.C.Clock.may_give g.T.Stream.Stream.yields g.V.Verify.verifies c.in-Ok.load (outcome_doc r) c.drive.new.load)
      c.in-Ok-Ok.field-0-is c.in-Ok-Ok.ensures.done,
)

pub returns-else-get-clause-vouches : goal.returns-else-get-clause-vouches
returns-else-get-clause-vouches g c = (
  part.base_of c.in-Ok.load,
  loaded_doc c.in-Ok-Ok.loaded,
  subst (λ r. IfOk (outcome_doc r) (Vouches g.T.Transport.refuses g.T.Transport.serves g.K.Keeper.keeps g.K.Keeper.reads g.C.Clock.may_give g.T.Stream.Stream.yields (g.V.Verify.verifies (verifier_of c.args.loader)) (part.base_of c.in-Ok.load)
      (transport_of c.args.loader) (first_core (settings_of c.args.loader)) (held_of c.args.loader) (core_doc (part.core_of c.drive.new.load)) (part.held_of c.drive.new.load))) c.in-Ok-Ok.field-0-is (c.in-Ok-Ok.ensures.trusted c.args.loader c.in-Ok.ensures.begun),
)

pub returns-else-get-clause-steps : goal.returns-else-get-clause-steps
returns-else-get-clause-steps g c =
    let walked = c.in-Ok-Ok.ensures.done.stays.walked in
    (part.keeping_of c.in-Ok.load, walked.0, subst (λ v. Trail g.K.Keeper.keeps g.K.Keeper.reads (g.V.Verify.verifies v) (part.keeping_of c.in-Ok.load) walked.0 (part.keeping_of c.drive.new.load)) c.in-Ok.ensures.begun.verifier walked.1)

pub returns-else-get-clause-runs : goal.returns-else-get-clause-runs
returns-else-get-clause-runs g c =
    let first = first_core (settings_of c.args.loader) in
    let v = g.V.Verify.verifies (verifier_of c.args.loader) in
    let found = returns-else-get-clause-vouches g c in
    let vouches = found.2 in
    let r = leads-run g.T.Transport.refuses g.T.Transport.serves g.K.Keeper.keeps g.K.Keeper.reads g.C.Clock.may_give g.T.Stream.Stream.yields v found.0 (transport_of c.args.loader)
    (g.met.K.Keeper.checks v) (g.met.K.Keeper.vouches v) vouches.answers first (held_of c.args.loader) _ _ found.1 refl vouches.allowed in
    (first, vouches.answers, found.1, refl, r.1, r.0)

pub returns-else-get-clause-asks : goal.returns-else-get-clause-asks
returns-else-get-clause-asks g c =
    let first = first_core (settings_of c.args.loader) in
    let v = g.V.Verify.verifies (verifier_of c.args.loader) in
    let d = loaded_doc c.in-Ok-Ok.loaded in
    let vouches = subst (λ r. IfOk (outcome_doc r) (Vouches g.T.Transport.refuses g.T.Transport.serves g.K.Keeper.keeps g.K.Keeper.reads g.C.Clock.may_give g.T.Stream.Stream.yields v (part.base_of c.in-Ok.load)
    (transport_of c.args.loader) first (held_of c.args.loader) (core_doc (part.core_of c.drive.new.load)) (part.held_of c.drive.new.load))) c.in-Ok-Ok.field-0-is (c.in-Ok-Ok.ensures.trusted c.args.loader c.in-Ok.ensures.begun) in
    let a = asked v first vouches.answers d.known.root vouches.loaded.last (λ e. c.if-get.false (c.get.ensures.value ∙ (ap (λ r. non_zero_u64_get r.signed.version) c.root.ensures ∙ e))) in
    (first, a.0, a.1, refl, a.2)

pub returns-else-get-clause-counts : goal.returns-else-get-clause-counts
returns-else-get-clause-counts g c =
    let found = returns-else-get-clause-finishes g c in
    let few = c.loads_count_few.ensures c.args.loader found.0 c.drive.new.load (Ok found.1) found.2 found.3 in
    (few.last, counts_of (part.core_of c.drive.new.load), found.1, few.update, few.ended)
