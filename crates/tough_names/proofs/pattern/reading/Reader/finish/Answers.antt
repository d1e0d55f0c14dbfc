use Rattle.std.proofs.Common.{◌≡◌, ◌⊎◌, inl, inr, List, Some, string_bytes, ap, sym, ◌∙◌}
use Rattle.tough_names.specs.declared.pattern.reading.Place.{Place}
use Rattle.tough_names.specs.declared.pattern.reading.Place.TheVariants.{Outside, AfterRun}
use Rattle.tough_names.specs.Glob.{Part}
use Rattle.tough_names.specs.Grammar.{State, finish_at}
use Rattle.tough_names.specs.Items.{parts_of}
use Rattle.tough_names.specs.Reader.{state_of}
use Rattle.tough_names.proofs.Kept.{no-literals}
use Rattle.tough_names.proofs.pattern.reading.Reader.finish.Goals as goal

finished : (place : Place) (parts : List Part) → (place ≡ Outside) ⊎ (place ≡ AfterRun) → finish_at place parts ≡ Some parts
finished place parts (inl e) = ap (λ p. finish_at p parts) e
finished place parts (inr e) = ap (λ p. finish_at p parts) e

pub returns-in_ok-end_text-in-Outside-clause-ok : goal.returns-in_ok-end_text-in-Outside-clause-ok
returns-in_ok-end_text-in-Outside-clause-ok c =
    let ended = c.in_ok-end_text-in-Outside.ensures.ok in
    let new = c.end_text.new.self in
    let parts = ap (λ (s : State). s.parts) (sym ended.0) ∙ no-literals (parts_of new.items.items) (string_bytes new.text) ended.1 in
    finished c.args.self.place (state_of c.args.self).parts c.in-Outside.is ∙ ap Some parts
