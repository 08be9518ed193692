-- What a contract sees of a graph: its components with their queues, in the order of their numbers, and its ports and headers.
use Rattle.std.specs.Prelude.{ℕ, Bool, List, [], map, remove, position, slice_get, slice_set, sum_by, Option, option_and_then, option_map}
use Rattle.omx_types.specs.declared.handle.Handle.{Handle}
use Rattle.il_machine.specs.declared.answer.Progress.{Progress}
use Rattle.il_machine.specs.World.{Component, is_at}
use Rattle.omx_types.specs.declared.state.State.TheVariants.{WaitForResources}
use Rattle.il_machine.specs.Look.{Look}
use Rattle.il_machine.specs.Headers.{weight}
use Rattle.il_machine.specs.Ports.{is_going_to}
use Rattle.il_machine.specs.Whole.{Kept, Noticed}
use Rattle.stock_laws.specs.Entries.{all_held}
use Rattle.il_component.specs.Entries.{Entry, component_of, held_in}
use Rattle.port_stock.specs.Kept.{StockKept, stocked}

pub record Entries (C : Type 0) : Type 0 where
  pub entries : List (Entry C)
  pub stock : StockKept
  pub units : ℕ
  -- how many waits, and how many components, were numbered
  pub waits : ℕ
  pub numbered : ℕ

module _ {C : Type 0} where
  -- ---- as the machine sees it

  abbrev pub components_of : List (Entry C) → List Component
  components_of entries = map component_of entries

  abbrev pub look_of : Entries C → Look
  look_of g = record { key = (stocked g.stock).key; components = components_of g.entries; headers = (stocked g.stock).headers; units = g.units; numbered = g.numbered; made = (stocked g.stock).next; waits = g.waits }

  abbrev pub held_by : Entry C → List Noticed
  held_by e = held_in e.queues.notes

  -- the headers in the notes of all components
  abbrev pub noticed_in : List (Entry C) → List Noticed
  noticed_in entries = all_held held_by entries

  abbrev pub progress_at : (C → Progress) → Entry C → Option Progress
  progress_at progress e = option_map progress e.queues.client

  -- what is kept but for the parts, where the client objects have this progress
  abbrev pub kept : (C → Progress) → Entries C → Kept
  kept progress g = record { looks = look_of g; clients = map (progress_at progress) g.entries; loads = (stocked g.stock).loads; noticed = noticed_in g.entries; parts = [] }

  -- ---- the component that a handle names

  abbrev pub is_entry_at : Handle → Entry C → Bool
  is_entry_at h e = is_at h (component_of e)

  abbrev pub entry_place : Handle → List (Entry C) → Option ℕ
  entry_place h entries = position (is_entry_at h) entries

  abbrev pub entry_named : Handle → Entries C → Option (Entry C)
  entry_named h g = option_and_then (slice_get g.entries) (entry_place h g.entries)

  -- the client object of the component that the handle names, or None where that object is out
  abbrev pub client_named : Handle → Entries C → Option (Option C)
  client_named h g = option_map (λ e. e.queues.client) (entry_named h g)

  -- the client object of the component that the handle names, where it is in
  abbrev pub client_of : Handle → Entries C → Option C
  client_of h g = option_and_then (λ client. client) (client_named h g)

  abbrev pub removed : ℕ → Entries C → Entries C
  removed i g = record g { entries = remove g.entries i }

  abbrev pub changed_at : ℕ → Entry C → Entries C → Entries C
  changed_at i e g = record g { entries = slice_set g.entries i e }

  -- the component at the place, as the machine sees it
  abbrev pub component_at : ℕ → Entries C → Option Component
  component_at i g = slice_get (components_of g.entries) i

  -- ---- waits

  -- one where the component is on its way to wait for resources
  abbrev pub waits_next : Entry C → ℕ
  waits_next e = weight (is_going_to WaitForResources (component_of e))

  -- how many components are on their way to wait for resources
  abbrev pub waiters : List (Entry C) → ℕ
  waiters entries = sum_by waits_next entries
