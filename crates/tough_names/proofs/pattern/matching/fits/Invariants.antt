use Rattle.std.proofs.Common.{chars}
use denote.Text.{Utf8}
use denote.Shadow.{shadow}
use Rattle.tough_names.specs.Items.{parts_of}
use Rattle.tough_names.proofs.Greedy.{Searches}
use Rattle.tough_names.proofs.Retry.{parts_and_chars, InBounds, work}
use Rattle.tough_names.proofs.pattern.matching.fits.Given as goal

abbrev pub invariant-loop-after : goal.invariant-loop-after
invariant-loop-after l = record {
  text : shadow (Utf8 l.rest);
  searches : Searches (parts_of l.items) (chars l.text) (parts_of l.left) (chars l.rest) (parts_and_chars l.retry);
  within : InBounds l.items l.text l.left l.rest l.retry;
}

abbrev pub decreases-loop-after : goal.decreases-loop-after
decreases-loop-after l = work l.items l.text l.left l.retry
