use Rattle.std.proofs.Common.{◌≡◌, List, [], false, string_bytes, ap, ◌∙◌}
use Rattle.tough_names.specs.declared.pattern.item.Span.{Span}
use Rattle.tough_names.specs.Glob.{Part}
use Rattle.tough_names.specs.Grammar.{State}
use Rattle.tough_names.specs.Items.{parts_of}
use Rattle.tough_names.specs.declared.pattern.reading.Place.TheVariants.{Outside}
use Rattle.tough_names.proofs.Kept.{no-literals}
use Rattle.tough_names.proofs.pattern.reading.Reader.new.Goals as goal

pub returns : goal.returns
returns c =
    let parts : List Part → State = λ ps. record { parts = ps; spans = c.new-3.result.items; negated = false; place = Outside } in
    let spans : List Span → State = λ ss. record { parts = []; spans = ss; negated = false; place = Outside } in
    ap parts (no-literals (parts_of c.new.result.items) (string_bytes c.new-2.result) c.new-2.ensures.bytes ∙ ap parts_of c.new.ensures.items)
    ∙ ap spans c.new-3.ensures.items
