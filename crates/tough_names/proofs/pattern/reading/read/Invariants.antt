use Rattle.std.proofs.Common.{◌≡◌, length, chars}
use denote.Text.{Utf8}
use denote.Shadow.{shadow}
use Rattle.tough_names.specs.Grammar.{read_on, start}
use Rattle.tough_names.specs.Reader.{state_of}
use Rattle.tough_names.proofs.pattern.reading.read.Given as goal

abbrev pub invariant-loop-c : goal.invariant-loop-c
invariant-loop-c l = record {
  text : shadow (Utf8 l.rest);
  read : read_on start (chars l.text) ≡ read_on (state_of l.reader) (chars l.rest);
}

abbrev pub decreases-loop-c : goal.decreases-loop-c
decreases-loop-c l = length l.rest
