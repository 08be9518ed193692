-- What one due thing makes of a component, and of the ports and headers.
use Rattle.std.specs.Prelude.{◌≡◌, ◌+◌, ◌≤◌, ℕ, true, List, Some}
use Rattle.il_machine.specs.World.{Component, HeaderRecord, World, with_component}
use Rattle.omx_types.specs.declared.state.State.TheVariants.{WaitForResources}
use Rattle.il_machine.specs.Headers.{find_header, is_notice, weight, Once}
use Rattle.il_machine.specs.Ports.{is_going_to}
use Rattle.il_machine.specs.Due.{Thing, happened}
use Rattle.il_machine.specs.Sound.{IsSound}
use Rattle.il_machine.specs.Stock.{Stocked}
use Rattle.stock_laws.specs.Parts.{KeepsPart}
use Rattle.machine_laws.specs.Changes.{IsChange}
use Rattle.flush_mark.specs.Leading.{Leads}
use Rattle.port_rules.specs.Tests.{HasAllPorts}

-- the change leaves headers in notices as they are
abbrev pub KeepsNotices : (List HeaderRecord → List HeaderRecord) → Type 0
KeepsNotices change = (headers : List HeaderRecord) (number : ℕ) (r : HeaderRecord) → Once headers → find_header number headers ≡ Some r → is_notice r.state.owner ≡ true
    → find_header number (change headers) ≡ find_header number headers

-- The thing made the component d of c, and the stock t of s; and of so many waits that were numbered as many as are then.
pub record Happened (thing : Thing) (c d : Component) (s t : Stocked) (waits then : ℕ) : Type 0 where
  pub change : List HeaderRecord → List HeaderRecord
  pub after : (place : ℕ) (w : World) → w.waits ≡ waits → happened place c thing w ≡ record (with_component place d w) { headers = change w.headers; waits = then }
  pub stock : Leads change s t
  -- each number that is taken is that of a component which was on its way to wait
  pub numbers : then + weight (is_going_to WaitForResources d) ≤ waits + weight (is_going_to WaitForResources c)
  pub notices : KeepsNotices change
  pub component : IsChange c d
  pub part : KeepsPart c d
  pub sound : IsSound d

-- the component is sound, and its ports are the stock's
pub record IsInOrder (c : Component) (s : Stocked) : Type 0 where
  pub sound : IsSound c
  pub ports : HasAllPorts c s
