-- Why no sim text is made of a circuit, as the limit that the circuit passes.
use Rattle.sim_text.specs.declared.faults.SimFault.{SimFault}
use Rattle.sim_text.specs.declared.faults.SimFault.TheVariants.{TooMany}
use Rattle.circuit_commands.specs.declared.limits.Limit.{Limit}
use Rattle.circuit_commands.specs.declared.limits.Limit.TheVariants.{Switches, Text}

-- the limit that a circuit passes where this is why no sim text is made of it; no circuit has a fault but too many switches, too long a text or want
-- of memory, which is no limit
abbrev pub fault_limit : SimFault → Limit
fault_limit (TooMany limit) = Switches
fault_limit _ = Text
