-- What a play's worlds are read by: the layout of the play, which ports its links join, and what goes through them. The
-- model names components by their place in the order of placing; the world's list has them in the order of the script, and
-- their numbers are their places in it.
use Rattle.std.specs.Prelude.{◌≡◌, ◌≢◌, ℕ, ◌/◌, ◌<◌, ◌≤◌, Bool, true, false}
use Rattle.omx_types.specs.declared.param.Supplier.{Supplier}
use Rattle.omx_types.specs.declared.param.Supplier.TheVariants as suppliers
use Rattle.il_machine.specs.declared.port.PortKey.{PortKey}
use Rattle.play_model.specs.Progress.{all_headers}
use Rattle.play_model.specs.Play.{Layout, IsLayout}

pub record Cast : Type 0 where
  pub layout : Layout
  -- of each link: the ports that it joins, the bytes of a frame, and those of a header
  pub output_port : ℕ → ℕ
  pub input_port : ℕ → ℕ
  pub unit : ℕ → ℕ
  pub size : ℕ → ℕ

abbrev pub script_place : Cast → ℕ → ℕ
script_place x c = (x.layout).place c

abbrev pub components_of : Cast → ℕ
components_of x = ((x.layout).network).components

abbrev pub links_of : Cast → ℕ
links_of x = ((x.layout).network).links

abbrev pub giver_of : Cast → ℕ → ℕ
giver_of x l = ((x.layout).network).giver l

abbrev pub taker_of : Cast → ℕ → ℕ
taker_of x l = ((x.layout).network).taker l

-- ---- the ends of a link

abbrev pub output_at : Cast → ℕ → PortKey
output_at x l = record { component = script_place x (giver_of x l); port = x.output_port l }

abbrev pub input_at : Cast → ℕ → PortKey
input_at x l = record { component = script_place x (taker_of x l); port = x.input_port l }

abbrev pub supplier_by : Bool → Supplier
supplier_by true = suppliers.Output
supplier_by false = suppliers.Input

abbrev pub supplier_of : Cast → ℕ → Supplier
supplier_of x l = supplier_by ((x.layout).by_output l)

-- the end that makes the link's headers, and the other one
abbrev pub home_by : Bool → PortKey → PortKey → PortKey
home_by true output input = output
home_by false output input = input

abbrev pub home_at : Cast → ℕ → PortKey
home_at x l = home_by ((x.layout).by_output l) (output_at x l) (input_at x l)

abbrev pub away_at : Cast → ℕ → PortKey
away_at x l = home_by ((x.layout).by_output l) (input_at x l) (output_at x l)

pub record IsCast (x : Cast) : Type 0 where
  pub layout : IsLayout x.layout
  -- each component has its place, and each place its component
  pub placed : (c : ℕ) → c < components_of x → script_place x c < components_of x
  pub each : (place : ℕ) → place < components_of x → (c : ℕ) × (c < components_of x) × (script_place x c ≡ place)
  pub apart : (c d : ℕ) → c < components_of x → d < components_of x → script_place x c ≡ script_place x d → c ≡ d
  -- two links share no port
  pub outputs : (k l : ℕ) → k < links_of x → l < links_of x → output_at x k ≡ output_at x l → k ≡ l
  pub inputs : (k l : ℕ) → k < links_of x → l < links_of x → input_at x k ≡ input_at x l → k ≡ l
  pub beside : (k l : ℕ) → k < links_of x → l < links_of x → output_at x k ≢ input_at x l
  -- a frame has bytes, and so many frames fit a header
  pub units : (l : ℕ) → l < links_of x → 0 < x.unit l
  pub fits : (l : ℕ) → l < links_of x → ((x.layout).network).fits l ≡ x.size l / x.unit l
  pub few : all_headers (x.layout).network ≤ 1024
