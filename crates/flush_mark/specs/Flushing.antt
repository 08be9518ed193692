-- When a flush of a port is over.
use Rattle.std.specs.Prelude.{Bool, not, ◌&&◌}
use Rattle.il_machine.specs.declared.port.PortKey.{PortKey}
use Rattle.il_machine.specs.Headers.{Seen, is_home_of, is_owned_by, none_is}

-- no header is in the port's lists, unless the port is its home
abbrev pub is_flushed : Seen → PortKey → Bool
is_flushed headers key = none_is headers (λ h. is_owned_by key h.owner && not (is_home_of key h.home))
