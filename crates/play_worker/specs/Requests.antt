-- What only a client asks for in a play.
use Rattle.std.specs.Prelude.{Bool, true, false}
use Rattle.graph_acts.specs.declared.act.Act.{Act}
use Rattle.graph_acts.specs.declared.act.Act.TheVariants as asks

module _ {S K C : Type 0} where
  -- all acts but those of components and deliveries, and a look at what a component has told
  abbrev pub is_request_plain : Act S K C → Bool
  is_request_plain (asks.RunCommand h) = false
  is_request_plain (asks.Claim h) = false
  is_request_plain (asks.Finish done) = false
  is_request_plain (asks.Supply h port) = false
  is_request_plain (asks.Release h port) = false
  is_request_plain (asks.HandOver h port) = false
  is_request_plain (asks.HandBack h port) = false
  is_request_plain (asks.TakeNote h) = false
  is_request_plain (asks.EndNote h client) = false
  is_request_plain (asks.Progress h) = false
  is_request_plain _ = true
