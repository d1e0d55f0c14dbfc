use Rattle.std.proofs.Common.{◌≡◌, [], List, false, ap, ◌∙◌}
use Rattle.tough_names.specs.Glob.{Part}
use Rattle.tough_names.specs.Grammar.{State}
use Rattle.tough_names.specs.Items.{parts_of}
use Rattle.tough_names.specs.declared.pattern.reading.Place.TheVariants.{Outside}
use Rattle.tough_names.proofs.Kept.{literal-added}
use Rattle.tough_names.proofs.pattern.reading.Reader.add_literal.Goals as goal

pub returns-clause-ok : goal.returns-clause-ok
returns-clause-ok c =
    let state : List Part → State = λ ps. record { parts = ps; spans = []; negated = false; place = Outside } in
    c.begin.ensures ∙ ap state (literal-added (parts_of c.args.self.now.items.items) c.args.self.now.text c.push.new.self c.args.c c.in_ok-push.ensures.bytes)
