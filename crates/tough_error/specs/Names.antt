-- Which error a refused target name is.
use Rattle.tough_names.specs.declared.name.NameError.{NameError}
use Rattle.tough_names.specs.declared.name.NameError.TheVariants as names
use Rattle.tough_error.specs.declared.error.Error.{Error}
use Rattle.tough_error.specs.declared.error.Error.TheVariants as error

abbrev pub name_error : NameError → Error
name_error names.UnsafeTargetNameDotDot = error.UnsafeTargetNameDotDot
name_error names.UnsafeTargetNameEmpty = error.UnsafeTargetNameEmpty
name_error names.UnsafeTargetNameSlash = error.UnsafeTargetNameSlash
name_error names.Memory = error.Memory
