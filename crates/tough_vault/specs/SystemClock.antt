-- What the clock of the operating system is reached by.
use Rattle.tough_vault.specs.declared.clock.SystemClock.{SystemClock}

abbrev pub runtime_of : {R : Type 0} → SystemClock R → R
runtime_of clock = clock.rt
