-- A graph without components.
use Rattle.std.proofs.Common.{◌≡◌, ◌<◌, ◌≤◌, ℕ, [], All, refl, sym, ◌∙◌, ap, subst, arith}
use Rattle.il_machine.specs.declared.answer.Progress.{Progress}
use Rattle.il_machine.specs.World.{no_world}
use Rattle.il_machine.specs.Look.{look}
use Rattle.il_machine.specs.Stock.{Stocked, no_stock}
use Rattle.stock_laws.specs.Bare.{StandsBare}
use Rattle.il_machine.specs.Sound.{Sound}
use Rattle.port_stock.specs.Kept.{StockKept, stocked}
use Rattle.registry.specs.Handles.{no_handles}
use Rattle.graph_core.specs.Entries.{kept}
use Rattle.graph_core.specs.Standing.{IsGraph}

nothing : {X : Type 0} (P : X → Type 0) → All P []
nothing P = λ k d b. absurd (omega arith)

no_world_sound : (key units : ℕ) → Sound (no_world key units)
no_world_sound key units = record {
  rising = omega arith;
  components = nothing _;
  connected = nothing _;
  once = tt;
  numbered = nothing _;
  placed = nothing _;
  units = nothing _;
  enough = omega arith;
  apart = λ i j n c d e f x y. absurd cc;
  streams = refl;
}

module _ {C : Type 0} (progress : C → Progress) where
  empty_stands : (stock : StockKept) (units : ℕ) → stocked stock ≡ no_stock (stocked stock).key → StandsBare (kept progress (record { entries = []; stock = stock; units = units; waits = 0; numbered = 0 })) (no_world (stocked stock).key units)
  empty_stands stock units e = record {
    looks = ap (λ (s : Stocked). record (look (no_world (stocked stock).key units)) { headers = s.headers; made = s.next }) (sym e);
    loads = λ n load h. let q = sym (ap (λ (s : Stocked). s.loads n) e) ∙ h in absurd cc;
    noticed = nothing _;
    progress = λ i c h out. absurd cc;
    streams = refl;
    once = tt;
    given = nothing _;
  }

  pub empty_graph : (stock : StockKept) (units capacity : ℕ) → stocked stock ≡ no_stock (stocked stock).key → 32 ≤ capacity → IsGraph progress [] no_handles stock units 0 capacity
  empty_graph stock units capacity e b = record {
    registered = record { registered = λ h. refl; once = λ h. tt; live = refl; given = λ h x. absurd cc };
    roomy = b;
    few = omega arith;
    ports = record { there = λ i x h. absurd cc; below = subst (λ (s : Stocked). All (λ key. key.component < 0) s.ports) (sym e) (nothing (λ key. key.component < 0)) };
    numbers = omega arith;
    worlds = record { world = no_world (stocked stock).key units; stands = empty_stands stock units e; sound = no_world_sound (stocked stock).key units };
  }
