use Rattle.std.proofs.Common.{◌≡◌, ◌∙◌, rules, refl, sym, ap, subst}
use Rattle.tough_update.specs.Questions as ask
use Rattle.tough_update.specs.Machine.{question}
use Rattle.tough_update.specs.Counts.{with_fetch, with_tree}
use Rattle.tough_update.specs.Promises.{Goes}
use Rattle.tough_update.specs.View.{core_doc, outcome_doc, answer_doc, counts_of}
use Rattle.tough_vault.specs.Looking.{look_doc}
use Rattle.tough_trust.specs.View.{request_doc, act_of, step_doc}
use Rattle.tough_load.specs.Words.{transport_of, base_of, verifier_of, settings_of, fetch_of, core_of, keeper_of, receipts_of, keeping_of, held_of, clock_of}
use Rattle.tough_load.specs.Fetching.{Fetches}
use Rattle.tough_trust.specs.Steps.{TakesStep}
use Rattle.tough_load.proofs.Loads.{by-answer, by-start, by-outcome}
use Rattle.tough_load.proofs.load.Load.advance.Goals as goal
use Rattle.tough_load.proofs.load.Load.advance.Goals.{in-Moment, in-Stored, in-Fetch+in-Err, in-Step}

pub returns-in-Ready-clause-done : goal.returns-in-Ready-clause-done
returns-in-Ready-clause-done g c =
    by-outcome g.T.Transport.refuses g.T.Transport.serves g.K.Keeper.keeps g.K.Keeper.reads g.C.Clock.may_give g.T.Stream.Stream.yields g.V.Verify.verifies c.args.self.now _ refl refl refl refl
    outcome_doc c.take_outcome.result refl c.requires.idle c.take_outcome.ensures.done c.take_outcome.ensures.taken c.take_outcome.ensures.counts

pub returns-in-Ok-clause-goes : goal.returns-in-Ok-clause-goes
returns-in-Ok-clause-goes g c = λ _.
    let asked : question (core_doc c.args.self.now.core) ≡ ask.Fetch (request_doc c.in-Fetch.request.now) = search rules in
    by-start g.T.Transport.refuses g.T.Transport.serves g.K.Keeper.keeps g.K.Keeper.reads g.C.Clock.may_give g.T.Stream.Stream.yields g.V.Verify.verifies c.args.self.now _ refl refl refl refl
    refl c.in-Ok.fetch refl (request_doc c.in-Fetch.request.now) refl c.requires.idle asked c.in-Ok.ensures.started

pub returns-clause-goes : goal.returns-clause-goes
returns-clause-goes g c = λ _.
    let new = record c.match-ask.self { core = c.answer.new.self } in
    elim c.match-ask.branch [
      | in-Moment w ↦
          let asked : question (core_doc c.args.self.now.core) ≡ ask.Moment = search rules in
          by-answer g.T.Transport.refuses g.T.Transport.serves g.K.Keeper.keeps g.K.Keeper.reads g.C.Clock.may_give g.T.Stream.Stream.yields g.V.Verify.verifies c.args.self.now new (ap transport_of w.self-is) (ap base_of w.self-is) (ap verifier_of w.self-is) (ap settings_of w.self-is)
          (answer_doc c.match-ask.answer) c.requires.idle (ap fetch_of w.self-is ∙ c.requires.idle)
          (rw asked (w.now.result.nanosecond, ap answer_doc w.answer-is, w.now.ensures, ap keeping_of w.self-is))
          (subst (λ l. Goes (g.V.Verify.verifies (verifier_of l)) (core_doc (core_of l)) (answer_doc c.match-ask.answer) (core_doc c.answer.new.self)) w.self-is c.answer.ensures.goes)
          (subst (λ l. counts_of c.answer.new.self ≡ with_tree (core_doc c.answer.new.self).stage (with_fetch (core_doc (core_of l)).stage (answer_doc c.match-ask.answer) (counts_of (core_of l)))) w.self-is c.answer.ensures.counted)
      | in-Stored w ↦
          let asked : question (core_doc c.args.self.now.core) ≡ ask.Stored w.in-Stored.first = search rules in
          by-answer g.T.Transport.refuses g.T.Transport.serves g.K.Keeper.keeps g.K.Keeper.reads g.C.Clock.may_give g.T.Stream.Stream.yields g.V.Verify.verifies c.args.self.now new (ap transport_of w.self-is) (ap base_of w.self-is) (ap verifier_of w.self-is) (ap settings_of w.self-is)
          (answer_doc c.match-ask.answer) c.requires.idle (ap fetch_of w.self-is ∙ c.requires.idle)
          (rw asked (
            look_doc w.read_root.result,
            ap answer_doc w.answer-is,
            subst (λ k. g.K.Keeper.reads (g.V.Verify.verifies c.args.self.now.verifier) c.args.self.now.keeper w.in-Stored.first (look_doc w.read_root.result) k) (sym (ap keeper_of w.self-is)) w.read_root.ensures,
            ap receipts_of w.self-is,
            ap clock_of w.self-is,
          ))
          (subst (λ l. Goes (g.V.Verify.verifies (verifier_of l)) (core_doc (core_of l)) (answer_doc c.match-ask.answer) (core_doc c.answer.new.self)) w.self-is c.answer.ensures.goes)
          (subst (λ l. counts_of c.answer.new.self ≡ with_tree (core_doc c.answer.new.self).stage (with_fetch (core_doc (core_of l)).stage (answer_doc c.match-ask.answer) (counts_of (core_of l)))) w.self-is c.answer.ensures.counted)
      | in-Fetch+in-Err w ↦
          let asked : question (core_doc c.args.self.now.core) ≡ ask.Fetch (request_doc w.in-Fetch.request.now) = search rules in
          by-answer g.T.Transport.refuses g.T.Transport.serves g.K.Keeper.keeps g.K.Keeper.reads g.C.Clock.may_give g.T.Stream.Stream.yields g.V.Verify.verifies c.args.self.now new (ap transport_of w.self-is) (ap base_of w.self-is) (ap verifier_of w.self-is) (ap settings_of w.self-is)
          (answer_doc c.match-ask.answer) c.requires.idle (ap fetch_of w.self-is ∙ c.requires.idle)
          (rw asked (subst (λ a. Fetches g.T.Transport.refuses g.T.Transport.serves c.args.self.now.transport c.args.self.now.base (request_doc w.in-Fetch.request.now) a) (sym (ap answer_doc w.answer-is)) w.in-Err.ensures.refused, ap held_of w.self-is))
          (subst (λ l. Goes (g.V.Verify.verifies (verifier_of l)) (core_doc (core_of l)) (answer_doc c.match-ask.answer) (core_doc c.answer.new.self)) w.self-is c.answer.ensures.goes)
          (subst (λ l. counts_of c.answer.new.self ≡ with_tree (core_doc c.answer.new.self).stage (with_fetch (core_doc (core_of l)).stage (answer_doc c.match-ask.answer) (counts_of (core_of l)))) w.self-is c.answer.ensures.counted)
      | in-Step w ↦
          let asked : question (core_doc c.args.self.now.core) ≡ ask.Step (act_of w.in-Step.act) = search rules in
          by-answer g.T.Transport.refuses g.T.Transport.serves g.K.Keeper.keeps g.K.Keeper.reads g.C.Clock.may_give g.T.Stream.Stream.yields g.V.Verify.verifies c.args.self.now new (ap transport_of w.self-is) (ap base_of w.self-is) (ap verifier_of w.self-is) (ap settings_of w.self-is)
          (answer_doc c.match-ask.answer) c.requires.idle (ap fetch_of w.self-is ∙ c.requires.idle)
          (rw asked (
            step_doc w.take_step.result,
            ap answer_doc w.answer-is,
            subst (λ k. TakesStep g.K.Keeper.keeps (g.V.Verify.verifies c.args.self.now.verifier) (act_of w.in-Step.act) (keeping_of c.args.self.now) (step_doc w.take_step.result) k) (sym (ap keeping_of w.self-is)) w.take_step.ensures,
            ap clock_of w.self-is,
          ))
          (subst (λ l. Goes (g.V.Verify.verifies (verifier_of l)) (core_doc (core_of l)) (answer_doc c.match-ask.answer) (core_doc c.answer.new.self)) w.self-is c.answer.ensures.goes)
          (subst (λ l. counts_of c.answer.new.self ≡ with_tree (core_doc c.answer.new.self).stage (with_fetch (core_doc (core_of l)).stage (answer_doc c.match-ask.answer) (counts_of (core_of l)))) w.self-is c.answer.ensures.counted)
    ]
