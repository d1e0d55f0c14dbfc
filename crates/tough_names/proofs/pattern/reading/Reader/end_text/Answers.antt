use Rattle.std.proofs.Common.{◌≡◌, ◌++◌, List, chars, string_bytes, ap, ◌∙◌}
use Rattle.tough_names.specs.Glob.{Part}
use Rattle.tough_names.specs.Grammar.{State}
use Rattle.tough_names.specs.Items.{literals, parts_of}
use Rattle.tough_names.proofs.Kept.{text-ended}
use Rattle.tough_names.proofs.pattern.reading.Reader.end_text.Goals as goal

pub returns-clause-ok : goal.returns-clause-ok
returns-clause-ok c =
    let self = c.args.self.now in
    let empty = ap string_bytes c.replace-text.ensures.after ∙ c.new.ensures.bytes in
    let state : List Part → State = λ ps. record { parts = ps; spans = self.spans.items; negated = self.negated; place = self.place } in (
      ap state (text-ended self.items.items c.push.new.self.items c.replace-text.result (string_bytes c.replace-text.new.dest) c.in_ok-push.ensures.items empty
          ∙ ap (λ t. parts_of self.items.items ++ literals (chars (string_bytes t))) c.replace-text.ensures.value),
      empty,
    )
