-- Ports as words.
use Rattle.std.specs.Prelude.{ℕ, ◌^◌, ◌<◌, List, ◌∷◌, ◌++◌}
use Rattle.std.specs.Fmt.{decimal}
use Rattle.act_text.specs.Names.{IsName}
use Rattle.act_text.specs.declared.name.PortName.{PortName}

-- the name of a component, a dot, and the number of one of its ports
abbrev pub port_word : PortName → List ℕ
port_word port = port.component ++ (46 ∷ decimal port.index)

pub record IsPortName (port : PortName) : Type 0 where
  pub named : IsName port.component
  pub fits : port.index < 2 ^ 32
