-- Which history it is.
use Rattle.std.specs.Prelude.{ℕ}
use Rattle.logbook.specs.Pages.{Book}

pub record History : Type 0 where
  pub pages : Book  -- the history that all threads may know
  pub ledger : ℕ  -- who made how many of its entries
