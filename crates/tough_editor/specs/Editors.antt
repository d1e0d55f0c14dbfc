-- An editor of targets with what fetches for it: the edits, the limits and the transport.
use Rattle.std.specs.Prelude.{◌≡◌, Option, Some, None}
use Rattle.tough_error.specs.declared.error.Error.{Error}
use Rattle.tough_error.specs.declared.error.Error.TheVariants as wide
use Rattle.tough_net.specs.declared.limits.Limits.{Limits}
use Rattle.tough_edit.specs.Edits.{EditsDoc, edits_doc}
use Rattle.tough_editor.specs.declared.targets.TargetsEditor.{TargetsEditor}

pub record EditorDoc (E T : Type 0) : Type 0 where
  pub edits : E
  pub limits : Option Limits
  pub transport : Option T

abbrev pub editor_doc : {T : Type 0} → TargetsEditor T → EditorDoc EditsDoc T
editor_doc e = record { edits = edits_doc e.edits; limits = e.limits; transport = e.transport }

module _ {E T : Type 0} where
  -- an editor without limits and without a transport
  abbrev pub alone : E → EditorDoc E T
  alone d = record { edits = d; limits = None; transport = None }

  -- the same editor with changed edits
  abbrev pub changed : (E → E) → EditorDoc E T → EditorDoc E T
  changed f e = record e { edits = f e.edits }

  -- the same, where the change is a relation
  abbrev pub IsChanged : (E → E → Type 0) → EditorDoc E T → EditorDoc E T → Type 0
  IsChanged by old new = (d : E) × by old.edits d × (new ≡ record old { edits = d })

  abbrev pub with_limits : EditorDoc E T → Limits → EditorDoc E T
  with_limits e l = record e { limits = Some l }

  abbrev pub with_transport : EditorDoc E T → T → EditorDoc E T
  with_transport e t = record e { transport = Some t }

  -- nothing but the edits is changed
  abbrev pub IsEdited : EditorDoc E T → EditorDoc E T → Type 0
  IsEdited old new = new ≡ record old { edits = new.edits }

abbrev pub IsMemory : Error → Type 0
IsMemory w = w ≡ wide.Memory
