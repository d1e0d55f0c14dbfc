-- What a reader and its pattern stand for.
use Rattle.std.specs.Prelude.{◌++◌, chars, string_bytes}
use Rattle.tough_names.specs.declared.pattern.reading.Reader.{Reader}
use Rattle.tough_names.specs.Items.{literals, parts_of}
use Rattle.tough_names.specs.Grammar.{State}

abbrev pub state_of : Reader → State
state_of r = record { parts = parts_of r.items.items ++ literals (chars (string_bytes r.text)); spans = r.spans.items; negated = r.negated; place = r.place }
