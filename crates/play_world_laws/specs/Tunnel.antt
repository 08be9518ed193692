-- The two ends of a tunnel in a world, in either order, with what a work of each end's component has of it.
use Rattle.std.specs.Prelude.{◌≡◌, ◌≢◌, ℕ, true, false, List, slice_get, Option, Some}
use Rattle.omx_types.specs.declared.param.Supplier.{Supplier}
use Rattle.il_machine.specs.declared.port.PortKey.{PortKey}
use Rattle.il_machine.specs.declared.port.Port.{Port}
use Rattle.il_machine.specs.declared.header.Owner.TheVariants as owners
use Rattle.il_machine.specs.declared.header.Queue.TheVariants.{Out}
use Rattle.il_machine.specs.World.{Component, HeaderRecord, number_of}
use Rattle.il_machine.specs.Headers.{find_header}
use Rattle.il_machine.specs.Ports.{is_supplier}
use Rattle.play_world_laws.specs.View.{worked_at}

pub record IsTunnel (ports : PortKey → Option Port) (a b : PortKey) (x : Supplier) : Type 0 where
  pub one : Port
  pub other : Port
  pub at_one : ports a ≡ Some one
  pub at_other : ports b ≡ Some other
  pub on : one.state.link ≡ Some (record { peer = b; supplier = x })
  pub back : other.state.link ≡ Some (record { peer = a; supplier = x })
  pub apart : a.component ≢ b.component

-- the first end makes the headers
pub record Supplies (p q : Port) : Type 0 where
  pub one : is_supplier p ≡ true
  pub not_other : is_supplier q ≡ false

-- the work of the component that has the port has these headers of it
pub record IsWorkedAt (components : List Component) (key : PortKey) (ns : List ℕ) : Type 0 where
  pub place : ℕ
  pub component : Component
  pub there : slice_get components place ≡ Some component
  pub named : number_of component ≡ key.component
  pub numbers : ns ≡ worked_at component.work key.port

-- the work of the component of the number has the header
pub record IsOutAt (number n : ℕ) (headers : List HeaderRecord) : Type 0 where
  pub header : HeaderRecord
  pub found : find_header n headers ≡ Some header
  pub owner : header.state.owner ≡ owners.Work number
  pub out : header.state.queue ≡ Out
