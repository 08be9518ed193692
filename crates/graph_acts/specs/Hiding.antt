-- A work with what is shown of its part in place of the part.
use Rattle.il_flow.specs.Works.{DoneOf, WorkOf}

module _ {P Q : Type 0} where
  abbrev pub shown_work : (P → Q) → WorkOf P → WorkOf Q
  shown_work f w = record { component = w.component; part = f w.part; headers = w.headers; announces = w.announces }

  abbrev pub shown_done : (P → Q) → DoneOf P → DoneOf Q
  shown_done f d = record { component = d.component; part = f d.part; headers = d.headers; frames = d.frames; fault = d.fault; announces = d.announces }
