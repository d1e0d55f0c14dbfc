use Rattle.tough_shared.specs.Opened.{book_of}
use Rattle.trials_loads.proofs.shared.play.Given as goal

abbrev pub ghosts-play_named : goal.ghosts-play_named
ghosts-play_named g a = record { book = book_of a.opened }
