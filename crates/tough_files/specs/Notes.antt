-- The calls that files in memory keep, as the list that they tell.
use Rattle.std.specs.Prelude.{List, map, string_bytes}
use Rattle.tough_files.specs.declared.log.Request.{Request}
use Rattle.tough_files.specs.declared.log.Request.TheVariants as request
use Rattle.tough_files.specs.declared.log.Answer.{Answer}
use Rattle.tough_files.specs.declared.log.Answer.TheVariants.{Done, Found, Got, Named, Listed, Refused}
use Rattle.tough_files.specs.declared.log.Call.{Call}
use Rattle.tough_files.specs.declared.log.Log.{Log}
use Rattle.tough_files.specs.Calls.{Asked, kind_of, read_at, create_at, create_in, append_to, rename_to, copy_to, link_to, remove_at, make_folders_to, canonical_of, list_of, Answered, done, found, got, named, listed, refused, Told}

abbrev pub asked_of : Request → Asked
asked_of (request.Kind path follow) = kind_of (string_bytes path) follow
asked_of (request.Read path start len) = read_at (string_bytes path) start len
asked_of (request.Create path) = create_at (string_bytes path)
asked_of (request.CreateTemp folder) = create_in (string_bytes folder)
asked_of (request.Append path bytes) = append_to (string_bytes path) bytes.items
asked_of (request.Rename old new) = rename_to (string_bytes old) (string_bytes new)
asked_of (request.Copy original path) = copy_to (string_bytes original) (string_bytes path)
asked_of (request.Link original path) = link_to (string_bytes original) (string_bytes path)
asked_of (request.Remove path) = remove_at (string_bytes path)
asked_of (request.MakeFolders path) = make_folders_to (string_bytes path)
asked_of (request.Canonical path) = canonical_of (string_bytes path)
asked_of (request.List path) = list_of (string_bytes path)

abbrev pub answered_of : Answer → Answered
answered_of Done = done
answered_of (Found kind) = found kind
answered_of (Got bytes) = got bytes.items
answered_of (Named path) = named (string_bytes path)
answered_of (Listed names) = listed (map string_bytes names.items)
answered_of (Refused e) = refused e

abbrev pub told_by : Call → Told
told_by call = record { asked = asked_of call.request; answered = answered_of call.answer }

abbrev pub all_told : List Call → List Told
all_told calls = map told_by calls

abbrev pub log_told : Log → List Told
log_told log = all_told log.calls.items
