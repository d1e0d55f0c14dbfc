-- Which JSON values are read again from their text, where that is UTF-8: integers are of 64 bits, and the names of an
-- object rise by their bytes. So is each `serde_json::Value`.
use Rattle.serde_json.specs.Data.{Data, null, boolean, number, string, array, object, Items, no_items, item, Members, no_members, member}
use Rattle.tough_json.specs.Pieces.{IsBelow}
use Rattle.tough_roles.specs.Readable.{IsWord}

abbrev mutual
  pub IsOrderly : Data → Type 0
  IsOrderly null = Unit {0}
  IsOrderly (boolean b) = Unit {0}
  IsOrderly (number n) = IsWord n
  IsOrderly (string s) = Unit {0}
  IsOrderly (array ds) = AreOrderly ds
  IsOrderly (object ms) = HasOrder ms

  pub AreOrderly : Items → Type 0
  AreOrderly no_items = Unit {0}
  AreOrderly (item d ds) = IsOrderly d × AreOrderly ds

  pub HasOrder : Members → Type 0
  HasOrder no_members = Unit {0}
  HasOrder (member k d ms) = IsBelow k ms × IsOrderly d × HasOrder ms

-- each member's value is so, whatever their names are
abbrev pub HasOrderly : Members → Type 0
HasOrderly no_members = Unit {0}
HasOrderly (member k d ms) = IsOrderly d × HasOrderly ms
