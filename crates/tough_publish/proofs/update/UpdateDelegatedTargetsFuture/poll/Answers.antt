use Rattle.std.proofs.Common.{rules, ◌≡◌, None, Some, Option, option_map, ap, subst}
use Rattle.tough_publish.specs.Editors.{editor_doc}
use Rattle.tough_publish.specs.Updating.{update_doc, GainsBy, Steps, editor_in, name_in, url_in, verifier_in, update_in}
use Rattle.tough_publish.specs.declared.update.Update.{Update}
use Rattle.tough_publish.proofs.Updatings.{begun_same, polled_unbegun, waits_same, keeps_updates, keeps_value, keeps_waits, keeps_same, keeps_again, keeps_heard}
use Rattle.tough_publish.proofs.update.UpdateDelegatedTargetsFuture.poll.Goals as goal

pub returns-in-Pending-clause-same : goal.returns-in-Pending-clause-same
returns-in-Pending-clause-same g c =
    let m = c.args.self.now in
    let is : m.fetch ≡ Some c.in-Some.fetch = search rules in
    waits_same g.T.Transport.refuses g.T.Transport.serves g.T.Stream.Stream.yields (g.V.Verify.verifies (verifier_in m)) (editor_doc (editor_in m).now) (url_in m) (name_in m) m.fetch c.in-Some.fetch c.poll.new.self (update_in m) is c.in-Pending.ensures.same

pub returns-in-Ready-clause-updates : goal.returns-in-Ready-clause-updates
returns-in-Ready-clause-updates g c =
    let m = c.args.self.now in
    let is : m.fetch ≡ Some c.in-Some.fetch = search rules in
    let was : c.replace-update.result ≡ m.update = search rules in
    let after = editor_doc c.advance-step.new.self in
    let steps = subst (λ (z : Option Update). Steps g.T.Transport.refuses g.T.Transport.serves g.T.Stream.Stream.yields (g.V.Verify.verifies (verifier_in m)) (editor_doc (editor_in m).now) (url_in m) (name_in m) (GainsBy g.T.Transport.refuses g.T.Transport.serves g.T.Stream.Stream.yields (g.V.Verify.verifies (verifier_in m)) (editor_doc (editor_in m).now) (url_in m) (name_in m) (option_map update_doc z) c.in-Ready.outcome) after.edits c.advance-step.result) was c.advance-step.ensures.steps in
    keeps_updates g.T.Transport.refuses g.T.Transport.serves g.T.Stream.Stream.yields (g.V.Verify.verifies (verifier_in m)) (editor_doc (editor_in m).now) (url_in m) (name_in m) m.fetch c.in-Some.fetch (update_in m) c.in-Ready.outcome is c.in-Ready.ensures.value after c.advance-step.ensures.rest c.advance-step.result steps c.keep.result c.keep.ensures.ended

pub returns-in-Ready-clause-value : goal.returns-in-Ready-clause-value
returns-in-Ready-clause-value g c =
    let m = c.args.self.now in
    let is : m.fetch ≡ Some c.in-Some.fetch = search rules in
    let was : c.replace-update.result ≡ m.update = search rules in
    let after = editor_doc c.advance-step.new.self in
    let steps = subst (λ (z : Option Update). Steps g.T.Transport.refuses g.T.Transport.serves g.T.Stream.Stream.yields (g.V.Verify.verifies (verifier_in m)) (editor_doc (editor_in m).now) (url_in m) (name_in m) (GainsBy g.T.Transport.refuses g.T.Transport.serves g.T.Stream.Stream.yields (g.V.Verify.verifies (verifier_in m)) (editor_doc (editor_in m).now) (url_in m) (name_in m) (option_map update_doc z) c.in-Ready.outcome) after.edits c.advance-step.result) was c.advance-step.ensures.steps in
    keeps_value g.T.Transport.refuses g.T.Transport.serves g.T.Stream.Stream.yields (g.V.Verify.verifies (verifier_in m)) (editor_doc (editor_in m).now) (url_in m) (name_in m) m.fetch c.in-Some.fetch (update_in m) c.in-Ready.outcome is c.in-Ready.ensures.value after c.advance-step.ensures.rest c.advance-step.result steps c.keep.result c.keep.ensures.ended

pub returns-in-Ready-clause-waits : goal.returns-in-Ready-clause-waits
returns-in-Ready-clause-waits g c =
    let m = c.args.self.now in
    let is : m.fetch ≡ Some c.in-Some.fetch = search rules in
    let was : c.replace-update.result ≡ m.update = search rules in
    let after = editor_doc c.advance-step.new.self in
    let steps = subst (λ (z : Option Update). Steps g.T.Transport.refuses g.T.Transport.serves g.T.Stream.Stream.yields (g.V.Verify.verifies (verifier_in m)) (editor_doc (editor_in m).now) (url_in m) (name_in m) (GainsBy g.T.Transport.refuses g.T.Transport.serves g.T.Stream.Stream.yields (g.V.Verify.verifies (verifier_in m)) (editor_doc (editor_in m).now) (url_in m) (name_in m) (option_map update_doc z) c.in-Ready.outcome) after.edits c.advance-step.result) was c.advance-step.ensures.steps in
    keeps_waits g.T.Transport.refuses g.T.Transport.serves g.T.Stream.Stream.yields (g.V.Verify.verifies (verifier_in m)) (editor_doc (editor_in m).now) (url_in m) (name_in m) after c.advance-step.ensures.rest (GainsBy g.T.Transport.refuses g.T.Transport.serves g.T.Stream.Stream.yields (g.V.Verify.verifies (verifier_in m)) (editor_doc (editor_in m).now) (url_in m) (name_in m) (update_in m) c.in-Ready.outcome) c.advance-step.result steps c.keep.new.fetch c.keep.new.update c.keep.result c.keep.ensures.going

pub returns-in-Ready-clause-same : goal.returns-in-Ready-clause-same
returns-in-Ready-clause-same g c =
    let m = c.args.self.now in
    let is : m.fetch ≡ Some c.in-Some.fetch = search rules in
    let was : c.replace-update.result ≡ m.update = search rules in
    let after = editor_doc c.advance-step.new.self in
    let steps = subst (λ (z : Option Update). Steps g.T.Transport.refuses g.T.Transport.serves g.T.Stream.Stream.yields (g.V.Verify.verifies (verifier_in m)) (editor_doc (editor_in m).now) (url_in m) (name_in m) (GainsBy g.T.Transport.refuses g.T.Transport.serves g.T.Stream.Stream.yields (g.V.Verify.verifies (verifier_in m)) (editor_doc (editor_in m).now) (url_in m) (name_in m) (option_map update_doc z) c.in-Ready.outcome) after.edits c.advance-step.result) was c.advance-step.ensures.steps in
    keeps_same g.T.Transport.refuses g.T.Transport.serves g.T.Stream.Stream.yields (g.V.Verify.verifies (verifier_in m)) (editor_doc (editor_in m).now) (url_in m) (name_in m) m.fetch c.in-Some.fetch (update_in m) c.in-Ready.outcome is c.in-Ready.ensures.value after c.advance-step.ensures.rest c.advance-step.result steps c.keep.new.fetch c.keep.new.update c.keep.result c.keep.ensures.going

pub returns-in-Ready-clause-again : goal.returns-in-Ready-clause-again
returns-in-Ready-clause-again g c = keeps_again (g.T.Stream.Stream.can_poll) c.advance-step.result c.advance-step.ensures.can_poll c.keep.new.fetch c.keep.new.update c.keep.result c.keep.ensures.going

pub returns-in-Ready-clause-registered : goal.returns-in-Ready-clause-registered
returns-in-Ready-clause-registered g c = keeps_heard c.keep.new.cx _ c.keep.result c.keep.ensures.heard

pub returns-in-Ok-clause-same : goal.returns-in-Ok-clause-same
returns-in-Ok-clause-same g c =
    let m = c.args.self.now in
    let is : m.fetch ≡ None = search rules in
    begun_same g.T.Transport.refuses g.T.Transport.serves g.T.Stream.Stream.yields (g.V.Verify.verifies (verifier_in m)) (editor_doc (editor_in m).now) (url_in m) (name_in m) c.in-Ok.fetch m.fetch (update_in m) (option_map update_doc c.replace.new.dest) is (ap (option_map update_doc) {x = c.replace.new.dest} c.replace.ensures.after) c.in-Ok.ensures.there c.in-Ok.ensures.begun c.yield_now.result

pub returns-in-Err-clause-value : goal.returns-in-Err-clause-value
returns-in-Err-clause-value g c =
    let m = c.args.self.now in
    let is : m.fetch ≡ None = search rules in
    ((editor_doc (editor_in m).now).edits, polled_unbegun g.T.Transport.refuses g.T.Transport.serves g.T.Stream.Stream.yields (g.V.Verify.verifies (verifier_in m)) (editor_doc (editor_in m).now) (url_in m) (name_in m) m.fetch (update_in m) is c.in-Err.error c.in-Err.ensures.refused)

pub returns-in-Err-clause-updates : goal.returns-in-Err-clause-updates
returns-in-Err-clause-updates g c =
    let m = c.args.self.now in
    let is : m.fetch ≡ None = search rules in
    polled_unbegun g.T.Transport.refuses g.T.Transport.serves g.T.Stream.Stream.yields (g.V.Verify.verifies (verifier_in m)) (editor_doc (editor_in m).now) (url_in m) (name_in m) m.fetch (update_in m) is c.in-Err.error c.in-Err.ensures.refused
