use Rattle.std.proofs.Common.{◌≡◌, ◌++◌, ◌∷◌, [], List, false, string_bytes, refl, ap, ◌∙◌}
use Rattle.tough_names.specs.Glob.{Part}
use Rattle.tough_names.specs.Grammar.{State}
use Rattle.tough_names.proofs.Kept.{part-added}
use Rattle.tough_names.proofs.pattern.reading.Reader.add.Goals as goal

pub returns-clause-ok : goal.returns-clause-ok
returns-clause-ok c = λ part is.
    let ended = c.in_ok-end_text.ensures.ok in
    let mid = c.end_text.new.self in
    let state : List Part → State = λ ps. record { parts = ps; spans = []; negated = false; place = c.args.place } in
    c.begin.ensures
    ∙ ap state (part-added mid.items.items c.push.new.self.items c.args.item part (string_bytes mid.text) (string_bytes mid.text) c.in_ok-push.ensures.items is ended.1 refl
    ∙ ap (λ (s : State). s.parts ++ part ∷ []) ended.0)
