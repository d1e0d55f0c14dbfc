-- Which history was opened.
use Rattle.tough_shared.specs.Histories.{History}
use Rattle.tough_shared.specs.declared.front.Opened.{Opened}

abbrev pub book_of : Opened → History
book_of opened = record { pages = opened.seen.book; ledger = opened.blank.name }
