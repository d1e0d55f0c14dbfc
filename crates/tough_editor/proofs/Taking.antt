-- Roles of a loaded repository that aren't found.
use Rattle.std.specs.Prelude.{◌≡◌, ℕ, List, String, string_bytes}
use Rattle.std.specs.declared.alloc.Global.{Global}
use Rattle.std.proofs.Common.{ap}
use Rattle.tough_roles.specs.declared.error.Error.{Error as Fault}
use Rattle.tough_roles.specs.declared.error.Error.TheVariants as faults
use Rattle.tough_schema.specs.Seek.{Sought, role_of, IsUnsought}
use Rattle.tough_editor.specs.Taking.{IsUnfound, unfound_as}

pub unfound_is : (name : String Global) (text : List ℕ) (s : Sought) (e : Fault) → string_bytes name ≡ text → IsUnsought text s e → IsUnfound text s (unfound_as name e)
unfound_is name text s faults.Memory eq h = tt
unfound_is name text s (faults.RoleNotFound a) eq h = (eq, ap role_of h.1)
unfound_is name text s (faults.TargetNotFound a) eq h = absurd h
unfound_is name text s faults.NoDelegations eq h = (eq, ap role_of h)
unfound_is name text s faults.NoTargets eq h = (eq, ap role_of h)
unfound_is name text s (faults.MissingRole a) eq h = absurd h
unfound_is name text s (faults.JsonSerialization a) eq h = absurd h
unfound_is name text s (faults.DuplicateKeyId a) eq h = absurd h
unfound_is name text s (faults.SignatureThreshold a b c) eq h = absurd h
unfound_is name text s faults.Glob eq h = absurd h
unfound_is name text s faults.HexDecode eq h = absurd h
unfound_is name text s faults.PemDecode eq h = absurd h
unfound_is name text s (faults.FileOpen a) eq h = absurd h
unfound_is name text s (faults.FileRead a) eq h = absurd h
unfound_is name text s (faults.TargetNotAFile a) eq h = absurd h
unfound_is name text s (faults.InvalidKeyId a b) eq h = absurd h
unfound_is name text s (faults.DuplicateRoleName a) eq h = absurd h
unfound_is name text s faults.SpkiDecode eq h = absurd h
unfound_is name text s (faults.UnmatchedPath a) eq h = absurd h
